-- `tables::Tables::unloaded` meets its contract: p has left, so its record can be replaced.
-- Assumes nothing.
use mathlib.Core.Path.{ap}
use Rattle.tables.proofs.Turns.{can-amend, was-unloaded}
use Rattle.tables.proofs.Tables.unloaded.Goals as goal

pub amended-requires : goal.amended-requires
amended-requires c =
    can-amend _ _ _ c.requires c.left.ensures _ (ap (λ x. x.state) c.unused_record.ensures)

pub returns : goal.returns
returns c = was-unloaded _ _ _ c.requires c.left.ensures _ _ c.unused_record.ensures
    c.amended.ensures
