-- `tables::Tables::taken` meets its contract. Assumes nothing.
use mathlib.Core.List.{[]}
use Rattle.tracks.proofs.Fits.{filled-holds}
use Rattle.tables.proofs.Carrying.{can-hold, now-held}
use Rattle.tables.proofs.Tables.taken.Goals as goal

pub held-requires : goal.held-requires
held-requires c =
    can-hold _ _ _ (filled-holds _ _ c.requires.orderly.tracks c.args.at c.args.n c.args.h c.filled.ensures)
    c.requires.orderly

pub returns : goal.returns
returns c =
    now-held _ _ _ (filled-holds _ _ c.requires.orderly.tracks c.args.at c.args.n c.args.h c.filled.ensures) [] _
    c.held.ensures
