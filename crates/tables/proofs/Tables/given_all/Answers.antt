-- `tables::Tables::given_all` meets its contract. Assumes nothing.
use Rattle.tracks.proofs.Fits.{replaced-holds}
use Rattle.rules.specs.Plans.{wake, woken}
use Rattle.rules.specs.Rules.{frees}
use Rattle.rules.specs.Keeper.{lists, view}
use Rattle.tables.specs.Tables.{plain}
use Rattle.tables.proofs.Carrying.{can-hold, now-held}
use Rattle.tables.proofs.Tables.given_all.Goals as goal

pub freed-requires : goal.freed-requires
freed-requires c =
    can-hold _ _ _ (replaced-holds _ _ c.requires.tracks _ _ c.replace_all.ensures) c.requires

pub returns : goal.returns
returns c =
    now-held _ _ _ (replaced-holds _ _ c.requires.tracks _ _ c.replace_all.ensures)
    (wake (woken (view lists (plain c.args.self)) (frees c.args.n))) _ c.freed.ensures
