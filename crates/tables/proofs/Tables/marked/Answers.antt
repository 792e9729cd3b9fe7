-- `tables::Tables::marked` meets its contract: a mark leaves state and priority.
-- Assumes nothing.
use mathlib.Core.Path.{refl}
use Rattle.tables.proofs.Turns.{can-note, was-marked}
use Rattle.tables.proofs.Tables.marked.Goals as goal

pub amended-requires : goal.amended-requires
amended-requires c = can-note _ _ c.requires _ _ (rw c.record_of.ensures at c.with_mark.ensures) refl refl

pub returns : goal.returns
returns c = was-marked _ _ c.requires _ (rw c.record_of.ensures at c.with_mark.ensures) _ c.amended.ensures
