-- `console::parse::read_line` meets its contract. The invariant: the line says what the fields from `at` on say behind the last word.
-- Assumes nothing.
use Prim.Native.Nat.{◌+◌, ◌-◌, ◌<◌, ◌≤◌}
use mathlib.Core.Path.{◌≡◌}
use lib.ListN.{length}
use Rattle.console.specs.Line.{line_of}
use Rattle.console.specs.Inner.{no_word, fields_from, behind}
use Rattle.console.proofs.parse.read_line.Given as goal

abbrev pub invariant-loop-at : goal.invariant-loop-at
invariant-loop-at l = (l.last < no_word) × (l.at ≤ length l.s + 1) × (line_of l.s ≡ behind l.last (fields_from l.s l.at))

abbrev pub decreases-loop-at : goal.decreases-loop-at
decreases-loop-at l = length l.s + 1 - l.at
