-- `tables::Tables::passed` meets its contract. The loop's invariant: the timers so far have moved on.
-- Assumes nothing.
use Rattle.tables.proofs.Ticks.{Passing}
use Rattle.tables.proofs.Tables.passed.Given as goal

abbrev pub invariant-loop-r : goal.invariant-loop-r
invariant-loop-r l = Passing l.self l.now l.r-items l.r-index
