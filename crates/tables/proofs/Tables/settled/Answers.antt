-- `tables::Tables::settled` meets its contract. Assumes nothing.
use mathlib.Core.List.{◌++◌}
use lib.ListN.{take}
use Rattle.rules.specs.Plans.{wake}
use Rattle.tables.proofs.Endings.{can-number, settled_on}
use Rattle.tables.proofs.Tables.settled.Goals as goal

pub numbered-requires : goal.numbered-requires
numbered-requires c = can-number _ _ _ c.requires.first.orderly c.without.ensures

pub returns : goal.returns
returns c =
    settled_on _ _ _ c.requires.first.orderly c.without.ensures
    (wake (take c.args.w.disc.len c.args.w.disc.ids) ++ wake (take c.args.w.general.len c.args.w.general.ids)) _ _
    c.numbered.ensures c.roused.ensures
