-- `tables::Tables::priced` meets its contract: p has left, so it can enter its chain again with any priority.
-- Assumes nothing.
use Rattle.tables.proofs.Turns.{can-anew, was-priced}
use Rattle.tables.proofs.Tables.priced.Goals as goal

pub entered-requires : goal.entered-requires
entered-requires c =
    let b = c.requires in
    can-anew _ _ _ b c.left.ensures _ _ (rw c.record_of.ensures at c.with_priority.ensures) (b.orderly.states _ b.known)

pub returns : goal.returns
returns c =
    was-priced _ _ _ c.requires c.left.ensures _ _ (rw c.record_of.ensures at c.with_priority.ensures) _ c.entered.ensures
