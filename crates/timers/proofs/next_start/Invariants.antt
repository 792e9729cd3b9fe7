-- `timers::next_start` meets its contract. The invariant: the programs that are left are searched in the same way. Assumes nothing.
use Rattle.timers.proofs.NextStart.{Looking}
use Rattle.timers.proofs.next_start.Given as goal

abbrev pub invariant-loop-r : goal.invariant-loop-r
invariant-loop-r l = Looking l.end l.fn.programs l.least l.r-index
