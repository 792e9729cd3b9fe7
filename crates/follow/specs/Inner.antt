-- What inner functions promise; no contract can say what a program reads or prints.
-- Assumes nothing.
use Rattle.std.specs.Prelude.{◌≡◌, ℕ, ◌≤◌, ◌<◌, List, length, drop, ◌==◌, is_some, IfSome}
use Rattle.std.specs.declared.option.Option.{Option}
use Rattle.text.specs.Text.{parts}
use Rattle.text.specs.Lines.{lines_ended, last_bytes}
use Rattle.tables.specs.declared.Tables.{Tables}
use Rattle.reader.specs.Reading.{reading}
use Rattle.console.specs.Console.{keyed}
use Rattle.console.specs.Sheet.{lent}
use Rattle.blocks.specs.Blocks.{most, tables_after}
use Rattle.follow.specs.declared.pages.Page.{Page}
use Rattle.follow.specs.declared.requests.Keying.{Keying}
use Rattle.follow.specs.declared.requests.Passed.{Passed}

-- a page fits its room, with a byte left of that; its tables are as its reading comes to
pub record Shows (room : List ℕ) (r : Page) : Type 0 where
  pub page : length r.bytes.now < length room
  pub taken : (reading r.bytes.now).number ≡ 0
  pub tables : r.tables ≡ (reading r.bytes.now).tables

-- a text is shown as its reading comes to: its tables, where it is a page
pub record Reads (page : List ℕ) (r : Option Tables) : Type 0 where
  pub taken : is_some r ≡ ((reading page).number == 0)
  pub tables : IfSome r (λ t. t ≡ (reading page).tables)

-- behind a verdict the next step goes on from the page given
abbrev pub GoesOn : List ℕ → Tables → Type 0
GoesOn page t = t ≡ (reading page).tables

-- a line is obeyed
abbrev pub KeysIn : Tables → List ℕ → Keying → Type 0
KeysIn t line r = r.tables ≡ (keyed t line lent).tables

-- What line after line over a block comes to: the tables after every line that ended in the block, and the place of the one that did not.
pub record Through (t : Tables) (block : List ℕ) (r : Passed) : Type 0 where
  pub tables : r.keying.tables ≡ tables_after t (lines_ended (parts 10 block))
  pub rest : drop r.place block ≡ last_bytes (parts 10 block)

-- between two reads no more is held than `blocks` carries
abbrev pub Holds : Keying → Type 0
Holds r = r.held ≤ most
