-- `tables::Tables::dismissed` meets its contract.
-- Assumes nothing.
use Rattle.tables.proofs.Endings.{dismissed-gone, dismissed-idle}
use Rattle.tables.proofs.Tables.dismissed.Goals as goal

pub returns-then-k-eq8 : goal.returns-then-k-eq8
returns-then-k-eq8 c = dismissed-gone _ _ _ _ c.if-k-eq8.true c.unloaded.ensures

pub returns : goal.returns
returns c = dismissed-idle _ _ _ _ _ c.if-k-eq8.false c.becomes.ensures c.timed.ensures
