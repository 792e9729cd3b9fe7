-- `tables::Tables::loaded` meets its contract: p has left, so its record can be replaced.
-- Assumes nothing.
use mathlib.Core.Path.{ap}
use Rattle.tables.proofs.Turns.{can-amend, was-loaded}
use Rattle.tables.proofs.Tables.loaded.Goals as goal

pub amended-requires : goal.amended-requires
amended-requires c = can-amend _ _ _ c.requires c.left.ensures _ (ap (λ x. x.state) c.newcomer.ensures)

pub returns : goal.returns
returns c = was-loaded _ _ _ c.requires c.left.ensures _ _ _ _ c.newcomer.ensures
    c.amended.ensures
