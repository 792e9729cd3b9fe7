-- `tables::Tables::waited` meets its contract: p has left, so it can enter the chain of 1 or of 6.
-- Assumes nothing.
use Rattle.tables.proofs.Turns.{can-wake, was-woken}
use Rattle.tables.proofs.Tables.waited.Goals as goal

pub entered-requires : goal.entered-requires
entered-requires c =
    can-wake _ _ _ c.requires c.left.ensures _ (rw c.record_of.ensures at c.wait_over.ensures)

pub returns : goal.returns
returns c =
    was-woken _ _ _ c.requires c.left.ensures _ (rw c.record_of.ensures at c.wait_over.ensures) _ c.entered.ensures
