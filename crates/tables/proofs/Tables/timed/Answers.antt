-- `tables::Tables::timed` meets its contract: a timer leaves state and priority.
-- Assumes nothing.
use mathlib.Core.Path.{refl}
use Rattle.tables.proofs.Turns.{can-note, was-timed}
use Rattle.tables.proofs.Tables.timed.Goals as goal

pub amended-requires : goal.amended-requires
amended-requires c = can-note _ _ c.requires _ _ (rw c.record_of.ensures at c.with_timer.ensures) refl refl

pub returns : goal.returns
returns c = was-timed _ _ c.requires _ _ _ (rw c.record_of.ensures at c.with_timer.ensures) _ c.amended.ensures
