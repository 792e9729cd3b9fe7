-- One figure of a list changed, and all of them turned: in either order.
-- Assumes nothing.
use Prim.Native.Nat.{ℕ, zero, suc}
use mathlib.Core.Path.{◌≡◌, refl, ap}
use mathlib.Core.List.{List, [], ◌∷◌, map}
use lib.ListN.{set}

pub map-set : {A : Type 0} → {B : Type 0} → (f : A → B) (xs : List A) (i : ℕ) (x : A) → map f (set xs i x) ≡ set (map f xs) i (f x)
map-set f [] i x = refl
map-set f (y ∷ ys) zero x = refl
map-set {B = B} f (y ∷ ys) (suc i) x = ap (λ (zs : List B). f y ∷ zs) (map-set f ys i x)
