-- `tables::Tables::becomes` meets its contract: p has left, so it can enter.
-- Assumes nothing.
use Rattle.tables.proofs.Turns.{became, can-anew}
use Rattle.tables.proofs.Tables.becomes.Goals as goal

pub entered-requires : goal.entered-requires
entered-requires c =
    let b = c.requires in
    can-anew _ _ _ (record { orderly = b.orderly; known = b.known }) c.left.ensures _ _ (rw c.record_of.ensures at c.in_state.ensures) b.state

pub returns : goal.returns
returns c =
    let b = c.requires in
    became _ _ _ (record { orderly = b.orderly; known = b.known }) c.left.ensures _ _ _ (rw c.record_of.ensures at c.in_state.ensures) _
    c.entered.ensures
