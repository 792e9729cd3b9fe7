-- Two outcomes that satisfy the reader's contract are the same: the contract determines answer, value and tables.
-- Assumes nothing.
use Prim.Native.Nat.{ℕ}
use mathlib.Core.Path.{◌≡◌}
use mathlib.Core.List.{List}
use Rattle.tables.specs.declared.Outcome.{Outcome}
use Rattle.tables.specs.Calls.{told}
use Rattle.tables.proofs.OneOutcome.{determined}
use Rattle.reader.specs.Reading.{reading}

pub one-reading : (s : List ℕ) (a b : Outcome) → told a ≡ reading s → told b ≡ reading s → a ≡ b
one-reading s = determined (reading s)
