-- `tables::Tables::entered` meets its contract: what is dormant stands in no chain, so it can enter one.
-- Assumes nothing.
use Rattle.tables.proofs.Turns.{can-enter, entered-none, entered-some}
use Rattle.tables.proofs.Tables.entered.Goals as goal

pub enter-self-requires : goal.enter-self-requires
enter-self-requires c = can-enter _ _ _ c.requires

pub returns-then-x-ne-DORMANT : goal.returns-then-x-ne-DORMANT
returns-then-x-ne-DORMANT c = entered-some _ _ _ c.requires _ c.if-x-ne-DORMANT.true c.enter-self.ensures

pub returns-else-x-ne-DORMANT : goal.returns-else-x-ne-DORMANT
returns-else-x-ne-DORMANT c = entered-none _ _ _ c.requires c.if-x-ne-DORMANT.false
