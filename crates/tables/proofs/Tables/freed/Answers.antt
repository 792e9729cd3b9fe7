-- `tables::Tables::freed` meets its contract. Assumes nothing.
use mathlib.Core.List.{[], ◌∷◌}
use Rattle.tracks.specs.Tracks.{holders}
use Rattle.rules.specs.Plans.{held, wake, woken}
use Rattle.rules.specs.Rules.{frees}
use Rattle.rules.specs.Keeper.{lists, view}
use Rattle.tables.specs.Tables.{plain}
use Rattle.tables.proofs.Endings.{played-on}
use Rattle.tables.proofs.Carrying.{can-rouse, roused}
use Rattle.tables.proofs.Tables.freed.Goals as goal

pub roused-requires : goal.roused-requires
roused-requires c =
    can-rouse _ c.requires.orderly _ _ _ (c.waiters-w.ensures _ c.of_tracks.ensures) _
    c.held.ensures.orderly

pub returns : goal.returns
returns c =
    played-on _ _ _ (held (holders c.args.tracks) ∷ []) (wake (woken (view lists (plain c.args.self)) (frees c.args.n)))
    c.held.ensures
    (roused _ c.requires.orderly _ _ _ (c.waiters-w.ensures _ c.of_tracks.ensures) _ _ c.roused.ensures)
