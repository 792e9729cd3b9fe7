-- `tables::Tables::with_number` meets its contract. Assumes nothing.
use Rattle.tables.proofs.Carrying.{can-put, was-put}
use Rattle.tables.proofs.Tables.with_number.Goals as goal

pub numbered-requires : goal.numbered-requires
numbered-requires c = can-put _ c.requires.orderly _ _ _ _ c.with_number.ensures

pub returns : goal.returns
returns c =
    was-put _ c.requires.orderly _ _ _ _ c.with_number.ensures _ c.numbered.ensures
