-- `tables::Tables::wake` meets its contract: the invariant is `Waking`: what is left of the list, played on the tables as they are, is
-- all of it played on those at the start.
-- Assumes nothing.
use Rattle.tables.proofs.Wakes.{Waking}
use Rattle.tables.proofs.Tables.wake.Given as goal

abbrev pub invariant-loop-p : goal.invariant-loop-p
invariant-loop-p l = Waking l.initial.t l.fn.list.ids l.fn.list.len l.t l.p-index
