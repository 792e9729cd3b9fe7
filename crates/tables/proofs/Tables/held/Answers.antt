-- `tables::Tables::held` meets its contract.
-- Assumes nothing.
use Rattle.tables.proofs.Altered.{was-held}
use Rattle.tables.proofs.Tables.held.Goals as goal

pub returns : goal.returns
returns c = was-held _ _ c.requires
