-- Laws of an array that a loop fills, place by place, with what a function says of each; for whoever proves about such a loop.
-- Assumes nothing.
use Prim.Native.Nat.{ℕ, zero, suc, ◌+◌, ◌<◌, ◌≤◌}
use native.Mathlib.Nat.{add-zero, zero-add, add-suc, suc-add}
use native.Mathlib.Numerals.{add-one}
use native.Mathlib.Omega.{arith}
use mathlib.Core.Path.{◌≡◌, sym, ap, ◌∙◌}
use mathlib.Core.List.{List, [], ◌∷◌, ◌++◌, map}
use lib.ListN.{length, take, set, length-set}
use lib.Seq.{take_all, take-suc-set}
use Rattle.lists.specs.Lists.{from}

-- the first i of n places hold what `part` says of so many
pub record Filled {A : Type 0} (n : ℕ) (part : ℕ → List A) (i : ℕ) (xs : List A) : Type 0 where
  pub most : i ≤ n
  pub long : length xs ≡ n
  pub done : take i xs ≡ part i

module _ {A : Type 0} (n : ℕ) (part : ℕ → List A) where
  pub filled-start : (xs : List A) → length xs ≡ n → part 0 ≡ [] → Filled n part 0 xs
  filled-start xs l e = record { most = omega arith; long = l; done = sym e }

  filled-turn : {i : ℕ} {xs : List A} (v : A) → i < n → part (suc i) ≡ part i ++ (v ∷ []) → Filled n part i xs
      → Filled n part (i + 1) (set xs i v)
  filled-turn {i} {xs} v h e F = rw (add-one i) (record {
    most = omega arith;
    long = length-set xs i v ∙ F.long;
    done = take-suc-set xs i v (omega arith) ∙ ap (λ (l : List A). l ++ (v ∷ [])) F.done ∙ sym e;
  })

  pub filled-end : {i : ℕ} {xs : List A} → n ≤ i → Filled n part i xs → xs ≡ part n
  filled-end {i} {xs} h F =
      let e : i ≡ n = omega arith in
      sym (take_all i xs (omega arith)) ∙ F.done ∙ ap part e

-- what f says of the first k places
abbrev pub listed : {A : Type 0} → (ℕ → A) → ℕ → List A
listed f k = map f (from 0 k)

one_more : {A : Type 0} (f : ℕ → A) (p k : ℕ) → map f (from p (suc k)) ≡ map f (from p k) ++ (f (p + k) ∷ [])
one_more f p zero = ap (λ (i : ℕ). f i ∷ []) (sym (add-zero p))
one_more f p (suc k) =
    ap (λ l. f p ∷ l)
    (one_more f (suc p) k ∙ ap (λ (i : ℕ). map f (from (suc p) k) ++ (f i ∷ [])) (suc-add p k ∙ sym (add-suc p k)))

pub listed-turn : {A : Type 0} (n : ℕ) (f : ℕ → A) {i : ℕ} {xs : List A} (v : A) → i < n → v ≡ f i → Filled n (listed f) i xs
    → Filled n (listed f) (i + 1) (set xs i v)
listed-turn n f {i} v h e F =
    filled-turn n (listed f) v h
    (one_more f 0 i ∙ ap (λ (k : ℕ). listed f i ++ (f k ∷ [])) (zero-add i) ∙ ap (λ w. listed f i ++ (w ∷ [])) (sym e)) F
