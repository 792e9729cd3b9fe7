-- What TICK,n comes to, whatever keeps the tables: refused as a whole, or so many ticks.
-- Assumes nothing.
use Prim.Native.Nat.{ℕ, ◌+◌, ◌≤◌}
use native.Mathlib.Omega.{arith}
use mathlib.Core.Path.{◌≡◌, refl, ap}
use mathlib.Core.Bool.{Bool, true, false}
use mathlib.Core.List.{[], ◌∷◌}
use lib.Dec.{leb}
use borrow.Author.Tests.{leb-true}
use Rattle.limits.specs.Limits.{most_ticks}
use Rattle.lists.specs.Lists.{up_to}
use Rattle.lists.proofs.Tests.{up_to-true}
use Rattle.clock.specs.Clock.{ceiling}
use Rattle.rules.specs.Requests.{Request}
use Rattle.rules.specs.Engine.{Reply, not_sound, after_ticks, sum_of_ticks, ticked_by}

module _ {F : Type 0} (sound : F → Bool) (clock : F → ℕ) (asked : F → Request → Reply F) (t : F) (n : ℕ) where
  pub many-unsound : sound t ≡ false → ticked_by sound clock asked t n ≡ not_sound t
  unfolding ticked_by
  many-unsound e = rw (e, ticked_by)

  module _ (e : sound t ≡ true) where
    pub many-range : up_to 1 most_ticks n ≡ false → ticked_by sound clock asked t n ≡ record { number = 3; values = 0 ∷ []; tables = t }
    unfolding ticked_by
    many-range r = rw (e, ticked_by, r)

    module _ (r : up_to 1 most_ticks n ≡ true) where
      pub many-ceiling : leb (clock t + n) ceiling ≡ false → ticked_by sound clock asked t n ≡ record { number = 11; values = 0 ∷ []; tables = t }
      unfolding ticked_by
      many-ceiling c = rw (e, ticked_by, r, c)

      pub many-made : leb (clock t + n) ceiling ≡ true
          → ticked_by sound clock asked t n ≡ record { number = 0; values = sum_of_ticks asked n t ∷ []; tables = after_ticks asked n t }
      unfolding ticked_by
      many-made c = rw (e, ticked_by, r, c)

  -- it is accepted
  pub record Accepted : Type 0 where
    pub tested : sound t ≡ true
    pub least : 1 ≤ n
    pub most : n ≤ most_ticks
    pub below : clock t + n ≤ ceiling
    pub made : ticked_by sound clock asked t n ≡ record { number = 0; values = sum_of_ticks asked n t ∷ []; tables = after_ticks asked n t }

  -- it is one or the other
  pub data Comes : Type 0 where
    refuses : (a : ℕ) → 2 ≤ a → a ≤ 14 → ticked_by sound clock asked t n ≡ record { number = a; values = 0 ∷ []; tables = t } → Comes
    makes : Accepted → Comes

  pub comes : Comes
  comes = go (sound t) refl (up_to 1 most_ticks n) refl (leb (clock t + n) ceiling) refl
    where
      go : (x : Bool) → sound t ≡ x → (y : Bool) → up_to 1 most_ticks n ≡ y → (z : Bool) → leb (clock t + n) ceiling ≡ z → Comes
      go true e true r true c = makes (record {
        tested = e;
        least = (up_to-true 1 most_ticks n r).0;
        most = (up_to-true 1 most_ticks n r).1;
        below = leb-true (clock t + n) ceiling c;
        made = many-made e r c;
      })
      go true e true r false c = refuses 11 (omega arith) (omega arith) (many-ceiling e r c)
      go true e false r z c = refuses 3 (omega arith) (omega arith) (many-range e r)
      go false e y r z c = refuses 14 (omega arith) (omega arith) (many-unsound e)

  pub many-accepted : (ticked_by sound clock asked t n).number ≡ 0 → Accepted
  many-accepted z = go comes
    where
      go : Comes → Accepted
      go (refuses a l h e) = absurd (omega (arith, z, ap (λ (x : Reply F). x.number) e))
      go (makes A) = A
