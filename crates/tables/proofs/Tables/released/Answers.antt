-- `tables::Tables::released` meets its contract. Assumes nothing.
use borrow.Author.Rules.{rules}
use mathlib.Core.Path.{◌≡◌}
use mathlib.Core.List.{[], ◌∷◌}
use lib.ListN.{length}
use Rattle.rules.specs.Plans.{wake, woken}
use Rattle.rules.specs.Rules.{clears, assigned}
use Rattle.rules.specs.Keeper.{lists, view}
use Rattle.tables.specs.Tables.{plain}
use Rattle.tables.specs.Inner.{Awaits}
use Rattle.tables.proofs.Endings.{played-on}
use Rattle.tables.proofs.Carrying.{can-rouse, roused, roused-number}
use Rattle.tables.proofs.Tables.released.Goals.{After-waiters-w}
use Rattle.tables.proofs.Tables.released.Goals as goal

those : (w : After-waiters-w)
    → Awaits w.args.self (clears w.args.r w.args.dealt) w.waiters-w.result.disc w.waiters-w.result.general
those w = w.waiters-w.ensures _ w.of_number.ensures

long : (w : After-waiters-w) → (length w.waiters-w.result.disc.ids ≡ 32) × (length w.waiters-w.result.general.ids ≡ 32)
long w = (search rules, search rules)

pub roused-requires : goal.roused-requires
roused-requires c = can-rouse _ c.requires.orderly _ _ _ (those (goal.at.roused-requires c).After-waiters-w) _ c.with_number.ensures.orderly

pub how_many-requires : goal.how_many-requires
how_many-requires c = let W = those (goal.at.how_many-requires c).After-waiters-w in record { disc = W.disc.most; general = W.general.most }

pub returns : goal.returns
returns c =
    let v = view lists (plain c.args.self) in
    record {
      played =
          played-on _ _ _ (assigned v c.args.r c.args.owner c.args.lock ∷ [])
          (wake (woken v (clears c.args.r c.args.dealt))) c.with_number.ensures
          (roused _ c.requires.orderly _ _ _ (those (goal.at.returns c).After-waiters-w) _ _ c.roused.ensures);
      number = roused-number _ c.requires.orderly _ _ _ (those (goal.at.returns c).After-waiters-w) _ c.how_many.ensures (long (goal.at.returns c).After-waiters-w).0 (long (goal.at.returns c).After-waiters-w).1;
    }
