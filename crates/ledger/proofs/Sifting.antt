-- The loop that reads a list and keeps those that pass a test: what is kept so far, and what passes of the rest,
-- are together what passes of the list.
-- To take out what stands at most once is to keep the others.
-- Assumes nothing.
use Prim.Native.Nat.{ℕ, zero, suc, ◌+◌, ◌-◌, ◌≤◌, ◌<◌}
use native.Mathlib.Omega.{arith}
use native.Mathlib.Numerals.{add-one}
use mathlib.Core.Path.{◌≡◌, refl, sym, ap, ◌∙◌, subst}
use mathlib.Core.Bool.{Bool, true, false, cond, not}
use mathlib.Core.List.{List, [], ◌∷◌, ◌++◌, append-nil}
use lib.Dec.{eqb}
use lib.ListN.{length, get_or, set, take, drop, replicate, length-set, drop_of_length-le}
use lib.Seq.{take-suc-set, append_snoc, drop-set-lt, drop-cons}
use borrow.Author.Tests.{eqb-true}
use Rattle.lists.specs.Lists.{same, count, keep, remove}
use Rattle.lists.proofs.Laws.{same_refl, remove_absent}
use Rattle.records.specs.Records.{Known}
use Rattle.chains.specs.Inner.{Lists}
use Rattle.ledger.specs.Inner.{Listed}

-- what stands in a list stands there once at least
pub count_at : (xs : List ℕ) (i : ℕ) → i < length xs → 1 ≤ count (get_or xs i 0) xs
count_at [] i h = absurd (omega arith)
count_at (x ∷ xs) zero h = omega (arith, same_refl x)
count_at (x ∷ xs) (suc i) h = omega (arith, count_at xs i (omega arith))

-- to take out what stands at most once is to keep the others
pub remove-keep : (p : ℕ) (c : List ℕ) → count p c ≤ 1 → remove p c ≡ keep (λ q. not (eqb q p)) c
remove-keep p [] h = refl
remove-keep p (q ∷ qs) h = go (eqb q p) refl (remove-keep p qs (omega arith))
  where
    go : (b : Bool) → eqb q p ≡ b → remove p qs ≡ keep (λ z. not (eqb z p)) qs
        → cond b qs (q ∷ remove p qs) ≡ cond (not b) (q ∷ keep (λ z. not (eqb z p)) qs) (keep (λ z. not (eqb z p)) qs)
    go true e ih = sym (remove_absent p qs (omega (arith, ap (same p) (eqb-true q p e), same_refl p))) ∙ ih
    go false e ih = ap (λ (xs : List ℕ). q ∷ xs) ih

-- those listed are known
pub listed-known : (ids : List ℕ) (len i : ℕ) (ys : List ℕ) → ys ≡ take len ids → Listed ids len → i < length ys → Known (get_or ys i 0)
listed-known ids len i ys e L h = L.known (get_or ys i 0) (subst (λ (xs : List ℕ). 1 ≤ count (get_or ys i 0) xs) e (count_at ys i h))

-- of the first i that are read those that pass stand in `ids`, `len` of them
pub record Sifted (f : ℕ → Bool) (ys ids : List ℕ) (len i : ℕ) : Type 0 where
  pub bound : length ys ≤ 32
  pub low : len ≤ i
  pub most : i ≤ length ys
  pub full : length ids ≡ 32
  pub rest : drop len ids ≡ replicate (32 - len) 0
  pub so_far : keep f ys ≡ take len ids ++ keep f (drop i ys)

pub sifted-start : (f : ℕ → Bool) (ys ids : List ℕ) (len : ℕ) → length ys ≤ 32 → ids ≡ replicate 32 0 → len ≡ 0 → Sifted f ys ids len 0
sifted-start f ys ids len h a b = rw (a, b) (record { bound = h; low = omega arith; most = omega arith; full = refl; rest = refl; so_far = refl })

module _ {f : ℕ → Bool} {ys ids : List ℕ} {len i : ℕ} (S : Sifted f ys ids len i) where
  keep-next : (b : Bool) → i < length ys → f (get_or ys i 0) ≡ b
      → keep f (drop i ys) ≡ cond b (get_or ys i 0 ∷ keep f (drop (i + 1) ys)) (keep f (drop (i + 1) ys))
  keep-next b h t =
      ap (keep f) (drop-cons ys i 0 h ∙ ap (λ (j : ℕ). get_or ys i 0 ∷ drop j ys) (sym (add-one i)))
      ∙ ap (λ (z : Bool). cond z (get_or ys i 0 ∷ keep f (drop (i + 1) ys)) (keep f (drop (i + 1) ys))) t

  kept : i < length ys → f (get_or ys i 0) ≡ true → Sifted f ys (set ids len (get_or ys i 0)) (len + 1) (i + 1)
  kept h t =
      let q = get_or ys i 0 in
      let inside : len < length ids = omega arith in
      let less : 32 - len ≡ suc (32 - suc len) = omega arith in
      let tails : get_or ids len 0 ∷ drop (suc len) ids ≡ 0 ∷ replicate (32 - suc len) 0 =
      sym (drop-cons ids len 0 inside) ∙ S.rest ∙ ap (λ (x : ℕ). replicate {A = ℕ} x 0) less in
      let taken : take (len + 1) (set ids len q) ≡ take len ids ++ (q ∷ []) =
      ap (λ (j : ℕ). take j (set ids len q)) (add-one len) ∙ take-suc-set ids len q inside in
      record {
        bound = S.bound;
        low = omega arith;
        most = omega arith;
        full = length-set ids len q ∙ S.full;
        rest = rw (add-one, drop-set-lt (suc len) ids len q (omega arith)) (cc);
        so_far = S.so_far
            ∙ ap (λ (z : List ℕ). take len ids ++ z) (keep-next true h t)
            ∙ sym (append_snoc (take len ids) q (keep f (drop (i + 1) ys)))
            ∙ ap (λ (z : List ℕ). z ++ keep f (drop (i + 1) ys)) (sym taken);
      }

  passed : i < length ys → f (get_or ys i 0) ≡ false → Sifted f ys ids len (i + 1)
  passed h t = record {
    bound = S.bound;
    low = omega arith;
    most = omega arith;
    full = S.full;
    rest = S.rest;
    so_far = S.so_far ∙ ap (λ (z : List ℕ). take len ids ++ z) (keep-next false h t);
  }

  -- it passes, and is added; it does not, and nothing changes
  pub sifted-in : {ids' : List ℕ} {len' : ℕ} → i < length ys → f (get_or ys i 0) ≡ true → ids' ≡ set ids len (get_or ys i 0) → len' ≡ len + 1
      → Sifted f ys ids' len' (i + 1)
  sifted-in h t a b = rw (a, b) (kept h t)

  pub sifted-out : {ids' : List ℕ} {len' : ℕ} → i < length ys → f (get_or ys i 0) ≡ false → ids' ≡ ids → len' ≡ len → Sifted f ys ids' len' (i + 1)
  sifted-out h t a b = rw (a, b) (passed h t)

  -- all are read
  pub sifted-end : {c : List ℕ} → length ys ≤ i → c ≡ keep f ys → Lists ids len c
  sifted-end {c} h e = record {
    some = sym (e
        ∙ S.so_far
        ∙ ap (λ (z : List ℕ). take len ids ++ keep f z) (drop_of_length-le ys {i = i} h)
        ∙ append-nil (take len ids));
    rest = S.rest;
    most = omega arith;
  }

-- Two tests that agree keep the same; for whoever proves about `keep`.
pub keep-alike : (f g : ℕ → Bool) (c : List ℕ) → ((q : ℕ) → f q ≡ g q) → keep f c ≡ keep g c
keep-alike f g c h = ap (λ (t : ℕ → Bool). keep t c) (λ i q. h q i)
