-- `tables::Tables::ended_self` meets its contract. Assumes nothing.
use borrow.Author.Rules.{rules}
use mathlib.Core.Path.{◌≡◌}
use lib.ListN.{length}
use Rattle.rules.specs.Rules.{ends}
use Rattle.rules.specs.Keeper.{lists, view}
use Rattle.tables.specs.Tables.{plain}
use Rattle.tables.specs.Inner.{Awaits}
use Rattle.tables.proofs.Endings.{ends_is, ended-itself}
use Rattle.tables.proofs.Carrying.{can-rouse, roused-number}
use Rattle.tables.proofs.Tables.ended_self.Goals.{After-waiters-w}
use Rattle.tables.proofs.Tables.ended_self.Goals as goal

those : (w : After-waiters-w)
    → Awaits w.args.self (ends (view lists (plain w.args.self)) w.args.p 0) w.waiters-w.result.disc
    w.waiters-w.result.general
those w = w.waiters-w.ensures _ (ends_is w.args.self w.args.p 0 _ w.of_ending.ensures)

long : (w : After-waiters-w) → (length w.waiters-w.result.disc.ids ≡ 32) × (length w.waiters-w.result.general.ids ≡ 32)
long w = (search rules, search rules)

pub settled-tables-requires : goal.settled-tables-requires
settled-tables-requires c = can-rouse _ c.requires.orderly _ _ _ (those (goal.at.settled-tables-requires c).After-waiters-w) _ c.becomes-idle.ensures.orderly

pub how_many-requires : goal.how_many-requires
how_many-requires c = let W = those (goal.at.how_many-requires c).After-waiters-w in record { disc = W.disc.most; general = W.general.most }

pub returns : goal.returns
returns c =
    let w = (goal.at.returns c).After-waiters-w in
    record {
      played = ended-itself _ _ w.waiters-w.result.disc w.waiters-w.result.general (those w).disc (those w).general c.args.p _ _
          c.becomes-idle.ensures c.settled-tables.ensures;
      number = roused-number _ c.requires.orderly _ _ _ (those w) _ c.how_many.ensures (long w).0 (long w).1;
    }
