-- Who stands in which chain: how often a program stands in all of them, and in one. `total` is the sum of the counts, so that to be in no
-- chain, or in one and once, is an equation or a bound.
-- Assumes nothing.
use Prim.Native.Nat.{ℕ, zero, suc, ◌+◌, ◌≤◌, ◌<◌}
use native.Mathlib.Omega.{arith}
use mathlib.Core.Path.{◌≡◌, refl, ap}
use mathlib.Core.Logic.{◌≢◌}
use mathlib.Core.List.{List, [], ◌∷◌, ◌++◌}
use lib.ListN.{length, get_or, set, replicate}
use Rattle.lists.specs.Lists.{count}
use Rattle.chains.specs.Links.{total}

-- with another chain in the place of one
pub total-set : (x : ℕ) (m : List (List ℕ)) (k : ℕ) (c : List ℕ) → k < length m
    → total x (set m k c) + count x (get_or m k []) ≡ total x m + count x c
total-set x [] k c h = omega arith
total-set x (d ∷ m) zero c h = omega arith
total-set x (d ∷ m) (suc k) c h = omega (arith, total-set x m k c (omega arith))

-- in one chain, in two, and in some chain
pub total-in : (x : ℕ) (m : List (List ℕ)) (k : ℕ) → count x (get_or m k []) ≤ total x m
total-in x [] k = omega arith
total-in x (d ∷ m) zero = omega arith
total-in x (d ∷ m) (suc k) = omega (arith, total-in x m k)

pub total-two : (x : ℕ) (m : List (List ℕ)) (j k : ℕ) → j ≢ k → count x (get_or m j []) + count x (get_or m k []) ≤ total x m
total-two x [] j k n = omega arith
total-two x (d ∷ m) zero zero n = absurd (n refl)
total-two x (d ∷ m) zero (suc k) n = omega (arith, total-in x m k)
total-two x (d ∷ m) (suc j) zero n = omega (arith, total-in x m j)
total-two x (d ∷ m) (suc j) (suc k) n = omega (arith, total-two x m j k (λ e. n (ap suc e)))

pub total-some : (x : ℕ) (m : List (List ℕ)) → 1 ≤ total x m → (k : ℕ) × (k < length m) × (1 ≤ count x (get_or m k []))
total-some x [] h = absurd (omega arith)
total-some x (d ∷ m) h = go (count x d) refl (total-some x m)
  where
    go : (n : ℕ) → count x d ≡ n → (1 ≤ total x m → (k : ℕ) × (k < length m) × (1 ≤ count x (get_or m k [])))
        → (k : ℕ) × (k < length (d ∷ m)) × (1 ≤ count x (get_or (d ∷ m) k []))
    go zero e ih = let r = ih (omega arith) in (suc r.0, omega arith, r.2)
    go (suc n) e ih = (zero, omega arith, omega arith)

-- of more chains, and of empty ones
pub total-append : (p : ℕ) (m n : List (List ℕ)) → total p (m ++ n) ≡ total p m + total p n
total-append p [] n = omega arith
total-append p (c ∷ m) n = omega (arith, total-append p m n)

pub total-empty : (p n : ℕ) → total p (replicate n []) ≡ 0
total-empty p zero = refl
total-empty p (suc n) = omega (arith, total-empty p n)
