-- `tables::Tables::numbered` meets its contract.
-- Assumes nothing.
use Rattle.tables.proofs.Altered.{was-numbered}
use Rattle.tables.proofs.Tables.numbered.Goals as goal

pub returns : goal.returns
returns c = was-numbered _ _ c.requires
