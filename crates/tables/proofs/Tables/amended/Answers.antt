-- `tables::Tables::amended` meets its contract: p keeps its state, and its priority where it is in a chain.
-- Assumes nothing.
use Rattle.tables.proofs.Turns.{amended-says}
use Rattle.tables.proofs.Tables.amended.Goals as goal

pub returns : goal.returns
returns c = amended-says _ _ _ c.requires
