-- `tables::Tables::roused` meets its contract. Assumes nothing.
use lib.ListN.{take}
use Rattle.rules.specs.Plans.{wake}
use Rattle.tables.proofs.Endings.{played-on}
use Rattle.tables.proofs.Tables.roused.Goals as goal

pub returns : goal.returns
returns c =
    let w = c.args.w in
    played-on _ _ _ (wake (take w.disc.len w.disc.ids)) (wake (take w.general.len w.general.ids)) c.wake.ensures
    c.wake-2.ensures
