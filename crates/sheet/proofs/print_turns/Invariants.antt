-- The lines from the place reached on are left of the block's. The measure is how many they are.
use Rattle.std.proofs.Common.{length, drop}
use Rattle.text.specs.Text.{parts}
use Rattle.text.specs.Lines.{lines_ended}
use Rattle.blocks.proofs.AllTurns.{Onward}
use Rattle.sheet.proofs.print_turns.Given as goal

abbrev pub invariant-loop-reached : goal.invariant-loop-reached
invariant-loop-reached l = Onward l.initial.reached.tables l.block l.reached.tables l.reached.place

abbrev pub decreases-loop-reached : goal.decreases-loop-reached
decreases-loop-reached l = length (lines_ended (parts 10 (drop l.reached.place l.block)))
