-- Each value read back is what was written.
-- Assumes nothing.
use Prim.Native.Nat.{ℕ, ◌≤◌, ◌<◌}
use native.Mathlib.Omega.{arith}
use native.Mathlib.Decide.{ℕ_discrete}
use mathlib.Core.Path.{◌≡◌, refl, sym, ap, ap₂, ◌∙◌}
use mathlib.Core.Bool.{Bool, true, false, cond}
use mathlib.Core.List.{List, [], ◌∷◌, map}
use mathlib.Core.Option.{Option, none, some}
use lib.ListN.{length, length-append}
use borrow.Author.Tests.{ne_eqb}
use Rattle.lists.specs.Lists.{count, alike}
use Rattle.lists.proofs.Laws.{same_refl}
use Rattle.text.specs.Text.{text, decimal, behind, parts, between}
use Rattle.text.proofs.Laws.{decimal-pos}
use Rattle.text.proofs.Fields.{alike-not}
use Rattle.text.proofs.Read.{number_of-decimal}
use Rattle.records.specs.declared.Why.{Why}
use Rattle.records.specs.declared.Why.TheVariants.{Nothing, Tracks, Son, Lock, Number}
use Rattle.records.specs.Numbers.{globally}
use Rattle.page.specs.Page.{or_dash, party, reason}
use Rattle.page.proofs.Writing.{party-global, party-program}
use Rattle.shapes.specs.Shapes.{into, or_else, figure, figure_or_dash, party_of, reason_of}
use Rattle.shapes.specs.Shapes.{each, listed}
use Rattle.shapes.proofs.Pieces.{decimal-only, Without, between-parts}

-- what numbers on a page are below: 13 digits
abbrev pub Short : ℕ → Type 0
Short n = n < 10_000_000_000_000

pub figure-decimal : (n : ℕ) → Short n → figure (decimal n) ≡ some n
figure-decimal n h = number_of-decimal 12 n (omega arith) (omega arith)

-- digits are no word that begins with another byte
pub not-word : {A : Type 0} (a : A) (n c : ℕ) (w : List ℕ) → (48 ≤ c → 57 < c)
    → ◌≡◌ {A = Option A} (cond (alike (decimal n) (c ∷ w)) (some a) none) none
not-word a n c w h =
    ap (λ (b : Bool). cond b (some a) none)
    (alike-not (decimal n) (c ∷ w) (λ e. omega (arith, decimal-only c n h, ap (count c) e, same_refl c)))

pub dash-figure : (n : ℕ) → Short n → figure_or_dash (decimal n) ≡ some n
dash-figure n h = ap (λ (o : Option ℕ). or_else o (figure (decimal n))) (not-word 0 n 45 [] (λ l. absurd (omega arith))) ∙ figure-decimal n h

pub dash-back : (b : Bool) (n : ℕ) → Short n → (b ≡ false → n ≡ 0) → figure_or_dash (or_dash b n) ≡ some n
dash-back true n h z = dash-figure n h
dash-back false n h z = ap some (sym (z refl))

pub party-back : (h : ℕ) → Short h → party_of (party h) ≡ some h
party-back h s = go (ℕ_discrete h globally)
  where
    go : Dec (h ≡ globally) → party_of (party h) ≡ some h
    go (yes e) = ap party_of (party-global h e) ∙ ap some (sym e)
    go (no n) =
        ap party_of (party-program h n)
        ∙ ap (λ (o : Option ℕ). or_else o (figure (decimal h))) (not-word globally h 103 (text "lobal") (λ l. omega arith))
        ∙ figure-decimal h s

-- a why whose number is short
abbrev pub Fitting : Why → Type 0
Fitting Nothing = Unit {0}
Fitting (Tracks n) = Short n
Fitting (Son k) = Short k
Fitting (Lock r) = Short r
Fitting Number = Unit {0}

pub reason-back : (w : Why) → Fitting w → reason_of (reason w) ≡ some w
unfolding behind
reason-back Nothing f = refl
reason-back (Tracks n) f = ap (λ (o : Option ℕ). or_else (into Tracks o) none) (figure-decimal n f)
reason-back (Son k) f = ap (λ (o : Option ℕ). or_else (into Son o) none) (figure-decimal k f)
reason-back (Lock r) f = ap (λ (o : Option ℕ). or_else (into Lock o) none) (figure-decimal r f)
reason-back Number f = refl

-- numbers with commas between them
each_back : (c : List ℕ) → ((x : ℕ) → 1 ≤ count x c → Short x) → each (map decimal c) ≡ some c
each_back [] s = refl
each_back (x ∷ xs) s =
    ap₂ (λ (o : Option ℕ) (r : Option (List ℕ)). elim o [ none ↦ none | some n ↦ into (λ ns. n ∷ ns) r ])
    (figure-decimal x (s x (omega (arith, same_refl x)))) (each_back xs (λ y h. s y (omega arith)))

pub digits-without : (d : ℕ) (c : List ℕ) → (48 ≤ d → 57 < d) → Without d (map decimal c)
digits-without d [] h = tt
digits-without d (x ∷ xs) h = (decimal-only d x h, digits-without d xs h)

between-pos : (x : ℕ) (xs : List ℕ) → 0 < length (between 44 (map decimal (x ∷ xs)))
between-pos x [] = decimal-pos x
between-pos x (y ∷ ys) = omega (arith, decimal-pos x, length-append (decimal x) (44 ∷ between 44 (map decimal (y ∷ ys))))

pub listed_back : (c : List ℕ) → ((x : ℕ) → 1 ≤ count x c → Short x) → listed (between 44 (map decimal c)) ≡ some c
listed_back [] s = refl
listed_back (x ∷ xs) s =
    let v : List ℕ = between 44 (map decimal (x ∷ xs)) in
    ap (λ (b : Bool). cond b (some []) (each (parts 44 v))) (ne_eqb (length v) 0 (λ e. omega (arith, between-pos x xs)))
    ∙ ap each (between-parts 44 (decimal x) (map decimal xs) (digits-without 44 (x ∷ xs) (λ l. absurd (omega arith))))
    ∙ each_back (x ∷ xs) s
