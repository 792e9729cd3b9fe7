-- What the theorems say of lines that come in blocks.
-- Assumes nothing.
use Rattle.std.specs.Prelude.{ℕ, ◌≡◌, List, []}
use Rattle.lists.specs.Lists.{join}
use Rattle.text.specs.Lines.{lines_of}
use Rattle.tables.specs.declared.Tables.{Tables}
use Rattle.blocks.specs.Blocks.{shown_for, arriving, tables_after}
use Rattle.showing.specs.Showing.{on_follow, begun}

-- however a file of lines comes in blocks, what is shown of it is what is shown of the whole, and the tables after it are the same
pub record ArrivesWhole (t : Tables) (bs : List (List ℕ)) : Type 0 where
  pub bytes : (arriving on_follow (begun t) [] bs).bytes ≡ shown_for on_follow (begun t) (lines_of (join bs))
  pub tables : (arriving on_follow (begun t) [] bs).kept.tables ≡ tables_after t (lines_of (join bs))
