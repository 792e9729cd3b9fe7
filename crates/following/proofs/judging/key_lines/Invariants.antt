-- `judging::key_lines` meets its contract. The invariant: the tables after the lines from `at` on are those after all lines.
-- The measure is how much of the text is left. Assumes nothing.
use Prim.Native.Nat.{◌-◌}
use mathlib.Core.Path.{◌≡◌}
use lib.ListN.{length, drop}
use Rattle.text.specs.Lines.{lines_of}
use Rattle.blocks.specs.Blocks.{tables_after}
use Rattle.following.proofs.judging.key_lines.Given as goal

abbrev pub invariant-loop-at : goal.invariant-loop-at
invariant-loop-at l = tables_after l.t (lines_of (drop l.at l.requests)) ≡ tables_after l.initial.t (lines_of l.requests)

abbrev pub decreases-loop-at : goal.decreases-loop-at
decreases-loop-at l = length l.requests - l.at
