-- A legal name without its blanks, read back.
-- Assumes nothing.
use Prim.Native.Nat.{ℕ, suc, ◌-◌, ◌≤◌}
use native.Mathlib.Omega.{arith}
use mathlib.Core.Path.{◌≡◌, refl, sym, ap, ap₂, ◌∙◌}
use mathlib.Core.Bool.{Bool, true, false, cond, not, ◌&&◌, ◌||◌}
use mathlib.Core.List.{List, [], ◌∷◌, ◌++◌}
use mathlib.Core.Option.{none, some}
use lib.Dec.{eqb}
use lib.ListN.{length, replicate}
use borrow.Author.Tests.{eqb-true, ne_eqb}
use Rattle.lists.specs.Lists.{count, every, keep}
use Rattle.lists.proofs.Laws.{same-ne, keep-le}
use Rattle.lists.proofs.Tests.{false-true, both, and, up_to-true}
use Rattle.records.specs.Names.{letter, digit, blank, rest, legal, bare, padded, name_of}

-- a letter or digit is no blank, and no byte 10
alnum-above : (c : ℕ) → (letter c || digit c) ≡ true → 48 ≤ c
alnum-above c = go (letter c) (digit c) refl refl
  where
    go : (a b : Bool) → letter c ≡ a → digit c ≡ b → (a || b) ≡ true → 48 ≤ c
    go true b h k e = omega (arith, up_to-true 65 90 c h)
    go false true h k e = (up_to-true 48 57 c k).0
    go false false h k e = false-true e

not-blank : (c : ℕ) → 48 ≤ c → blank c ≡ false
not-blank c h = ne_eqb c 32 (λ e. omega arith)

-- a byte that is kept; one that is left out
kept : (c : ℕ) (cs : List ℕ) → 48 ≤ c → bare (c ∷ cs) ≡ c ∷ bare cs
kept c cs h = ap (λ (b : Bool). cond (not b) (c ∷ bare cs) (bare cs)) (not-blank c h)

-- blanks alone
blanks-bare : (cs : List ℕ) → every blank cs ≡ true → (bare cs ≡ []) × (cs ≡ replicate (length cs) 32) × (count 10 cs ≡ 0)
blanks-bare [] e = (refl, refl, refl)
blanks-bare (c ∷ cs) e =
    let b = both (blank c) (every blank cs) e in
    let r = blanks-bare cs b.1 in
    let w : c ≡ 32 = eqb-true c 32 b.0 in (
      ap (λ (t : Bool). cond (not t) (c ∷ bare cs) (bare cs)) b.0 ∙ r.0,
      ap₂ ◌∷◌ w r.1,
      omega (arith, same-ne 10 c (λ z. omega arith), r.2),
    )

-- letters or digits, and then blanks: the blanks put back
record Back (cs : List ℕ) : Type 0 where
  few : length (bare cs) ≤ length cs
  whole : bare cs ++ replicate (length cs - length (bare cs)) 32 ≡ cs
  clean : count 10 cs ≡ 0

back-cons : (c : ℕ) (cs : List ℕ) → 48 ≤ c → Back cs → Back (c ∷ cs)
back-cons c cs h B =
    let k = kept c cs h in
    let n : suc (length cs) - suc (length (bare cs)) ≡ length cs - length (bare cs) = omega arith in
    record {
      few = omega (arith, ap length k, B.few);
      whole = ap (λ (l : List ℕ). l ++ replicate (suc (length cs) - length l) 32) k
          ∙ ap (λ (m : ℕ). c ∷ (bare cs ++ replicate m 32)) n ∙ ap (λ (l : List ℕ). c ∷ l) B.whole;
      clean = omega (arith, same-ne 10 c (λ z. omega arith), B.clean);
    }

back : (cs : List ℕ) → rest cs ≡ true → Back cs
back [] e = record { few = omega arith; whole = refl; clean = refl }
back (c ∷ cs) e = go (letter c || digit c) refl (back cs) e
  where
    go : (t : Bool) → (letter c || digit c) ≡ t → (rest cs ≡ true → Back cs)
        → ((t && rest cs) || (blank c && every blank cs)) ≡ true → Back (c ∷ cs)
    go true h ih e =
        let a = alnum-above c h in
        let f : (blank c && every blank cs) ≡ false = ap (λ (b : Bool). b && every blank cs) (not-blank c a) in
        back-cons c cs a (ih (first (rest cs) (blank c && every blank cs) e f))
      where
        first : (x y : Bool) → (x || y) ≡ true → y ≡ false → x ≡ true
        first true y p q = refl
        first false y p q = false-true (sym q ∙ p)
    go false h ih e =
        let r = blanks-bare (c ∷ cs) e in
        let n : suc (length cs) - 0 ≡ suc (length cs) = omega arith in
        record {
          few = omega (arith, ap length r.0);
          whole = ap (λ (l : List ℕ). l ++ replicate (suc (length cs) - length l) 32) r.0
              ∙ ap (λ (m : ℕ). replicate m 32) n ∙ sym r.1;
          clean = r.2;
        }

legal-back : (nm : List ℕ) → legal nm ≡ true → Back nm × (length nm ≡ 5)
legal-back [] e = false-true e
legal-back (c ∷ cs) e =
    let b = both (letter c && rest cs) (eqb (length cs) 4) e in
    let a = both (letter c) (rest cs) b.0 in
    (back-cons c cs (omega (arith, up_to-true 65 90 c a.0)) (back cs a.1), omega (arith, eqb-true (length cs) 4 b.1))

every-keep : (f : ℕ → Bool) (c : List ℕ) → every f (keep f c) ≡ true
every-keep f [] = refl
every-keep f (q ∷ qs) = go (f q) refl (every-keep f qs)
  where
    go : (b : Bool) → f q ≡ b → every f (keep f qs) ≡ true → every f (cond b (q ∷ keep f qs) (keep f qs)) ≡ true
    go true e ih = and e ih
    go false e ih = ih

pub name_back : (nm : List ℕ) → legal nm ≡ true → name_of (bare nm) ≡ some nm
unfolding name_of
name_back nm e =
    let b = legal-back nm e in
    let w : padded (bare nm) ≡ nm = ap (λ (n : ℕ). bare nm ++ replicate (n - length (bare nm)) 32) (sym b.1) ∙ b.0.whole in
    ap (λ (t : Bool). cond t (some (padded (bare nm))) none) (and (ap legal w ∙ e) (every-keep (λ c. not (blank c)) nm)) ∙ ap some w

pub name-clean : (nm : List ℕ) → legal nm ≡ true → count 10 (bare nm) ≡ 0
name-clean nm e = omega (arith, (legal-back nm e).0.clean, keep-le (λ c. not (blank c)) 10 nm)
