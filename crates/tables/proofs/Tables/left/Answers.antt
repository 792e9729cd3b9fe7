-- `tables::Tables::left` meets its contract: a dormant program is in no chain, and another leaves the chain of its state.
-- Assumes nothing.
use Rattle.tables.proofs.Turns.{can-leave, left-none, left-some}
use Rattle.tables.proofs.Tables.left.Goals as goal

pub leave-self-requires : goal.leave-self-requires
leave-self-requires c = can-leave _ _ c.requires c.if-r-ne-DORMANT.true

pub returns-then-r-ne-DORMANT : goal.returns-then-r-ne-DORMANT
returns-then-r-ne-DORMANT c =
    left-some _ _ c.requires _ c.in_state.ensures _ c.if-r-ne-DORMANT.true c.leave-self.ensures

pub returns-else-r-ne-DORMANT : goal.returns-else-r-ne-DORMANT
returns-else-r-ne-DORMANT c = left-none _ _ c.requires _ c.in_state.ensures c.if-r-ne-DORMANT.false
