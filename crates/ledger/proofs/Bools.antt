-- The last of a row of tests.
-- Assumes nothing.
use mathlib.Core.Path.{◌≡◌, sym, ap}
use mathlib.Core.Bool.{Bool, true, ◌&&◌}

-- where all before it pass the last decides
pub last : {a : Bool} (b : Bool) → a ≡ true → b ≡ (a && b)
last b e = sym (ap (λ (x : Bool). x && b) e)
