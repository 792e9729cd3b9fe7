-- `timers::next_start` meets its contract. The invariant: the programs that are left are searched in the same way. Assumes nothing.
use Rattle.std.proofs.Common.{arith}
use Rattle.timers.proofs.NextStart.{looking-start, looking-next, looking-end}
use Rattle.timers.proofs.next_start.Goals as goal

pub loop-r-init : goal.loop-r-init
loop-r-init c = looking-start _ _

pub loop-r-preserved : goal.loop-r-preserved
loop-r-preserved c = looking-next _ c.loop-r.invariant (omega arith) c.sooner-least.ensures

pub returns : goal.returns
returns c = looking-end c.loop-r.invariant (omega arith)
