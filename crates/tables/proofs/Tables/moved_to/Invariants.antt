-- `tables::Tables::moved_to` meets its contract. The loop's invariant: what those from p on have still to do, done to the tables as they are,
-- is what all have to do.
-- Assumes nothing.
use Rattle.tables.proofs.Ticks.{Starts}
use Rattle.tables.proofs.Tables.moved_to.Given as goal

abbrev pub invariant-loop-p : goal.invariant-loop-p
invariant-loop-p l = Starts l.self.ledger.programs l.now l.initial.tables l.tables l.number l.p
