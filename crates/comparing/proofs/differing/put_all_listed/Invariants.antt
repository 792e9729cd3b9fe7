-- The figures of some lines are left, and what is said of them is due. Assumes nothing.
use lib.ListN.{length}
use Rattle.comparing.proofs.ListedLaws.{Ahead}
use Rattle.comparing.proofs.differing.put_all_listed.Given as goal

abbrev pub invariant-loop-figures : goal.invariant-loop-figures
invariant-loop-figures g l = Ahead g.S.Sink.after l.given l.original l.copy l.fn.sink l.sink l.figures

abbrev pub decreases-loop-figures : goal.decreases-loop-figures
decreases-loop-figures g l = length l.figures
