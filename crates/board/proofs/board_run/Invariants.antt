-- `board_run`: what is counted and what the lines from `from` on print is all that the text prints, and what is left to be put is
-- what of it fits the room left, or nothing once a line did not fit. The measure is the bytes left of the text. Assumes nothing.
use Rattle.std.proofs.Common.{◌≡◌, length, ◌-◌}
use Rattle.limits.specs.Limits.{page_room}
use Rattle.board.proofs.Running.{Run}
use Rattle.board.proofs.board_run.Given as goal

abbrev pub invariant-loop-from : goal.invariant-loop-from
invariant-loop-from l = record {
  run : Run l.text l.initial.out l.out l.tables l.from l.used l.needed l.is_full;
  long : length l.space ≡ page_room;
}

abbrev pub decreases-loop-from : goal.decreases-loop-from
decreases-loop-from l = length l.text - l.from
