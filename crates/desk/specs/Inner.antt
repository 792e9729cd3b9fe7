-- What inner functions promise; no contract can say what a program reads or prints.
-- Assumes nothing.
use Rattle.std.specs.Prelude.{ℕ, ◌<◌, List, length}
use Rattle.desk.specs.declared.files.Both.{Both}

-- two files that were read fit the rooms that were lent for them, with a byte left of each
pub record BothFit (first second : List ℕ) (r : Both) : Type 0 where
  pub original : length r.original.now < length first
  pub copy : length r.copy.now < length second
