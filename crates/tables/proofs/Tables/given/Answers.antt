-- `tables::Tables::given` meets its contract. Assumes nothing.
use Rattle.tracks.specs.Tracks.{nobody}
use Rattle.tracks.proofs.Fits.{filled-holds}
use Rattle.rules.specs.Plans.{wake, woken}
use Rattle.rules.specs.Rules.{frees}
use Rattle.rules.specs.Keeper.{lists, view}
use Rattle.tables.specs.Tables.{plain}
use Rattle.tables.proofs.Carrying.{can-hold, now-held}
use Rattle.tables.proofs.Tables.given.Goals as goal

pub freed-requires : goal.freed-requires
freed-requires c =
    can-hold _ _ _ (filled-holds _ _ c.requires.orderly.tracks c.args.at c.args.n nobody c.filled.ensures) c.requires.orderly

pub returns : goal.returns
returns c =
    now-held _ _ _ (filled-holds _ _ c.requires.orderly.tracks c.args.at c.args.n nobody c.filled.ensures)
    (wake (woken (view lists (plain c.args.self)) (frees c.args.n))) _ c.freed.ensures
