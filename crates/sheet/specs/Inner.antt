-- What turn after turn over a block comes to, where all that was printed was written: the tables after every line that ended in the block,
-- and the place of the one that did not.
-- Assumes nothing.
use Rattle.std.specs.Prelude.{◌≡◌, List, ℕ, drop}
use Rattle.text.specs.Text.{parts}
use Rattle.text.specs.Lines.{lines_ended, last_bytes}
use Rattle.tables.specs.declared.Tables.{Tables}
use Rattle.blocks.specs.Blocks.{tables_after}
use Rattle.sheet.specs.declared.Reached.{Reached}

pub record Through (t : Tables) (block : List ℕ) (r : Reached) : Type 0 where
  pub tables : r.tables ≡ tables_after t (lines_ended (parts 10 block))
  pub rest : drop r.place block ≡ last_bytes (parts 10 block)
