-- The rest of an ending: p's numbers pass to nobody and its locks go, and the woken wake. The events of OF, one list behind the other.
-- Assumes nothing.
use Prim.Native.Nat.{ℕ}
use mathlib.Core.Path.{◌≡◌}
use mathlib.Core.List.{List, [], ◌∷◌, ◌++◌, append_assoc}
use Rattle.rules.specs.Plans.{Event, held, Release, View, woken, wake}
use Rattle.rules.specs.Rules.{quit, dismissed}

abbrev pub settle : View → ℕ → Release → List Event
settle v p R = quit v p ∷ wake (woken v R)

pub off-events : (v : View) (p k : ℕ) (xs : List ℕ) (R : Release)
    → (dismissed k p ++ (held xs ∷ quit v p ∷ [])) ++ wake (woken v R) ≡ dismissed k p ++ (held xs ∷ settle v p R)
off-events v p k xs R = append_assoc (dismissed k p) (held xs ∷ quit v p ∷ []) (wake (woken v R))
