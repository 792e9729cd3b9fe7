-- `tables::Tables::ended` meets its contract. Assumes nothing.
use Rattle.rules.specs.Rules.{ends}
use Rattle.rules.specs.Keeper.{lists, view}
use Rattle.tables.specs.Tables.{plain}
use Rattle.tables.specs.Inner.{Awaits}
use Rattle.tables.proofs.Endings.{ends_is, can-free, ended-off}
use Rattle.tables.proofs.Carrying.{can-rouse}
use Rattle.tables.proofs.Tables.ended.Goals.{After-waiters-w}
use Rattle.tables.proofs.Tables.ended.Goals as goal

those : (w : After-waiters-w)
    → Awaits w.args.self (ends (view lists (plain w.args.self)) w.args.p w.args.n) w.waiters-w.result.disc
    w.waiters-w.result.general
those w = w.waiters-w.ensures _ (ends_is w.args.self w.args.p w.args.n _ w.of_ending.ensures)

pub held-freed-requires : goal.held-freed-requires
held-freed-requires c =
    can-free c.args.self c.args.k c.args.p c.requires.orderly _ c.replace_all.ensures _ c.dismissed-gone.ensures

pub settled-requires : goal.settled-requires
settled-requires c = can-rouse _ c.requires.orderly _ _ _ (those (goal.at.settled-requires c).After-waiters-w) _ c.held-freed.ensures.orderly

pub returns : goal.returns
returns c =
    let w = (goal.at.returns c).After-waiters-w in
    ended-off c.args.self c.args.k c.args.p c.requires.orderly _ c.replace_all.ensures _
    c.dismissed-gone.ensures _ w.waiters-w.result.disc w.waiters-w.result.general
    (those w).disc (those w).general _ _ c.held-freed.ensures c.settled.ensures
