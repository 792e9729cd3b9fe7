-- `tables::Tables::ticked_to` meets its contract. The loop's invariant: what is left of the ticks makes of the tables as they are what all of
-- them make of those at the start. The measure is how many programs are dormant, and one more before the end: so the moves are 33 at most.
-- Assumes nothing.
use Rattle.tables.proofs.ManyTicks.{Going, moves_left}
use Rattle.tables.proofs.Tables.ticked_to.Given as goal

abbrev pub invariant-loop-now : goal.invariant-loop-now
invariant-loop-now l = Going l.initial.tables l.end l.now l.tables l.number

abbrev pub decreases-loop-now : goal.decreases-loop-now
decreases-loop-now l = moves_left l.end l.now l.tables
