-- Laws of an array that is made by a function of the place.
-- Assumes nothing.
use Prim.Native.Nat.{ℕ, zero, suc, ◌+◌}
use native.Mathlib.Nat.{zero-add}
use native.Mathlib.Numerals.{add-one}
use native.Mathlib.Omega.{arith}
use mathlib.Core.Path.{◌≡◌, sym, ap₂, subst, ◌∙◌}
use mathlib.Core.List.{List, ◌∷◌, map}
use lib.ListN.{length, drop, drop_of_length-le}
use lib.Seq.{drop-cons}
use Rattle.std.specs.Array.{IsFromFnResult, IsFromFnResultFrom}
use Rattle.std.specs.Fn.{Mut, Called}
use Rattle.lists.specs.Lists.{from}

module _ {F B : Type 0} (g : Mut F (ℕ × Unit {0}) B) (f : F) (h : ℕ → B)
    (same : (i : ℕ) (y : B) (q : F) → Called g f (i, tt) y q → (y ≡ h i) × (q ≡ f)) where
  made_from : (ys : List B) (i n : ℕ) → length ys ≡ i + n → IsFromFnResultFrom g f ys i n → drop i ys ≡ map h (from i n)
  made_from ys i zero e r = drop_of_length-le ys (omega arith)
  made_from ys i (suc n) e r =
      drop-cons ys i (h i) (omega arith)
      ∙ ap₂ (λ (y : B) (l : List B). y ∷ l) (r.2.1 (h i) ∙ (same i r.1 r.0 r.3).0)
      (made_from ys (suc i) n (omega arith) (subst (λ (p : F). IsFromFnResultFrom g p ys (suc i) n) (same i r.1 r.0 r.3).1 (rw (add-one i) at r.4)))

  pub made : (ys : List B) (n : ℕ) → IsFromFnResult g f ys n → ys ≡ map h (from 0 n)
  made ys n r = made_from ys 0 n (r.long ∙ sym (zero-add n)) r.each
