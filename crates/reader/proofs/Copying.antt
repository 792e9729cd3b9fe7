-- A list written item by item into another of its length: where the other had what is not written, it is that list.
-- Assumes nothing.
use Prim.Native.Nat.{ℕ, suc, ◌-◌, ◌<◌}
use native.Mathlib.Omega.{arith}
use native.Mathlib.Decide.{ℕ_discrete}
use mathlib.Core.Path.{◌≡◌, refl, sym, ap, ◌∙◌}
use mathlib.Core.Logic.{◌≢◌}
use mathlib.Core.Bool.{Bool, true, false, cond}
use mathlib.Core.List.{List, [], ◌∷◌}
use lib.ListN.{length, get_or, set, length-set}
use lib.Seq.{ext_get_or, get_or-set_same, get_or-set_other}
use Rattle.lists.specs.Lists.{count}
use Rattle.lists.proofs.Laws.{same-ne}

-- the items of these numbers, from 1 on, but those that are skipped
abbrev pub copied : {A : Type 0} → A → (A → Bool) → List A → List ℕ → List A → List A
copied d skip xs [] ys = ys
copied d skip xs (p ∷ c) ys = copied d skip xs c (cond (skip (get_or xs (p - 1) d)) ys (set ys (p - 1) (get_or xs (p - 1) d)))

-- what is not written is there already
pub record Copies {A : Type 0} (d : A) (skip : A → Bool) (xs : List A) (c : List ℕ) (ys : List A) : Type 0 where
  pub long : length ys ≡ length xs
  pub left : (j : ℕ) → j < length xs → count (suc j) c ≡ 0 → get_or ys j d ≡ get_or xs j d
  pub skipped : (j : ℕ) → j < length xs → skip (get_or xs j d) ≡ true → get_or ys j d ≡ get_or xs j d

module _ {A : Type 0} (d : A) (skip : A → Bool) (xs : List A) where
  copies-step : (p : ℕ) (c : List ℕ) (ys : List A) → Copies d skip xs (p ∷ c) ys
      → Copies d skip xs c (cond (skip (get_or xs (p - 1) d)) ys (set ys (p - 1) (get_or xs (p - 1) d)))
  copies-step p c ys C = go (skip (get_or xs (p - 1) d)) refl
    where
      passed : skip (get_or xs (p - 1) d) ≡ true → (j : ℕ) → j < length xs → count (suc j) c ≡ 0 → Dec (suc j ≡ p) → get_or ys j d ≡ get_or xs j d
      passed e j h k (yes w) =
          let i : p - 1 ≡ j = omega arith in
          C.skipped j h (ap (λ (n : ℕ). skip (get_or xs n d)) (sym i) ∙ e)
      passed e j h k (no n) = C.left j h (omega (arith, same-ne (suc j) p n))

      written : (j : ℕ) → j < length xs → (suc j ≢ p → get_or ys j d ≡ get_or xs j d) → Dec (j ≡ p - 1)
          → get_or (set ys (p - 1) (get_or xs (p - 1) d)) j d ≡ get_or xs j d
      written j h f (yes w) =
          rw w (get_or-set_same ys (p - 1) (get_or xs (p - 1) d) d (omega (arith, C.long)))
      written j h f (no n) = get_or-set_other ys (p - 1) j (get_or xs (p - 1) d) d n ∙ f (λ w. n (omega arith))

      go : (t : Bool) → skip (get_or xs (p - 1) d) ≡ t
          → Copies d skip xs c (cond t ys (set ys (p - 1) (get_or xs (p - 1) d)))
      go true e = record { long = C.long; left = λ j h k. passed e j h k (ℕ_discrete (suc j) p); skipped = C.skipped }
      go false e = record {
        long = length-set ys (p - 1) (get_or xs (p - 1) d) ∙ C.long;
        left = λ j h k. written j h (λ n. C.left j h (omega (arith, same-ne (suc j) p n))) (ℕ_discrete j (p - 1));
        skipped = λ j h k. written j h (λ n. C.skipped j h k) (ℕ_discrete j (p - 1));
      }

  pub copies-all : (c : List ℕ) (ys : List A) → Copies d skip xs c ys → copied d skip xs c ys ≡ xs
  copies-all [] ys C = ext_get_or d ys xs C.long (λ i h. C.left i (omega (arith, C.long)) refl)
  copies-all (p ∷ c) ys C =
      copies-all c (cond (skip (get_or xs (p - 1) d)) ys (set ys (p - 1) (get_or xs (p - 1) d))) (copies-step p c ys C)
