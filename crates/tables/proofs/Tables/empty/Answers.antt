-- `tables::Tables::empty` meets its contract, piece by piece.
-- Assumes nothing.
use Rattle.tables.proofs.FreshTables.{fresh-laid}
use Rattle.tables.proofs.Tables.empty.Goals as goal

pub returns : goal.returns
returns c =
    fresh-laid c.args.tracks c.args.system c.args.numbers c.args.year c.unused_record.result c.from_ticks.result c.fresh.result
    c.fresh-2.result
    c.unused_record.ensures c.from_ticks.ensures c.fresh.ensures c.fresh-2.ensures
