-- What the reader's functions on the parts of a page promise; no public call mentions it.
-- Assumes nothing.
use Rattle.std.specs.Prelude.{Result, Ok, Err}
use Rattle.std.specs.Prelude.{ℕ, suc, ◌+◌, ◌≤◌, ◌≡◌, List, [], ◌∷◌, map, length, drop, replicate}
use Rattle.limits.specs.Limits.{most_programs}
use Rattle.lists.specs.Lists.{hit}
use Rattle.text.specs.Text.{text, parts}
use Rattle.records.specs.declared.Program.{Program}
use Rattle.records.specs.declared.Numbers.{Numbers}
use Rattle.records.specs.declared.Resource.{Resource}
use Rattle.records.specs.Records.{unused}
use Rattle.records.specs.Numbers as numbers
use Rattle.tracks.specs.declared.Tracks.{Tracks}
use Rattle.tracks.specs.Tracks as tracks
use Rattle.chains.specs.Links.{slots, lay_chain}
use Rattle.rules.specs.Book.{Book, altered, with_holders, with_resources}
use Rattle.rules.specs.Keeper.{lists, State}
use Rattle.page.specs.Page.{chained, number_key}
use Rattle.reader.specs.declared.parts.BadLine.{BadLine}
use Rattle.reader.specs.declared.parts.Year.{Year}
use Rattle.reader.specs.declared.parts.Head.{Head}
use Rattle.reader.specs.declared.parts.Record.{Record}
use Rattle.reader.specs.declared.parts.Records.{Records}
use Rattle.reader.specs.declared.parts.Chains.{Chains}
use Rattle.reader.specs.declared.parts.Held.{Held}
use Rattle.reader.specs.declared.parts.Numbered.{Numbered}
use Rattle.reader.specs.Order.{page_ahead, year_ahead, year_form, heading, size_forms, recording, records_ahead, chains_ahead, holding, numbering, record_forms, chain_forms}
use Rattle.reader.specs.Order.{Place, first_bad}
use Rattle.reader.specs.Said.{begins_with, year_said, on_book, with_chain, with_record, started, rest_said, chains_said, records_said, said}
use Rattle.tables.specs.declared.Tables.{Tables}
use Rattle.reader.specs.Reading.{not_read, judged, reading}
use Rattle.shapes.specs.Inner.{byte, narrow_resource, number_in, NoLine}
use Rattle.reader.specs.Inner.{narrow_record}

-- the lines from a place on
abbrev pub ahead : List ℕ → ℕ → List (List ℕ)
ahead s at = parts 10 (drop at s)

-- a line of a part is not well formed, and b is the number of the first one
pub record Stops (p : Place) (line : ℕ) (ls : List (List ℕ)) (b : BadLine) : Type 0 where
  pub some : 1 ≤ b.0
  pub scan : first_bad p line ls ≡ b.0

-- the year's line, where it stands, and the place behind it: what it says, where a line comes there
pub record YearRead (s : List ℕ) (at : ℕ) (r : Year) : Type 0 where
  pub few : r.lines ≤ 1
  pub beyond : at ≤ r.at
  pub within : r.at ≤ length s
  pub scan : (k : ℕ) → first_bad year_ahead k (ahead s at) ≡ first_bad (heading size_forms) (k + r.lines) (ahead s r.at)
  pub says : 2 ≤ length (ahead s r.at) → (year_said (ahead s at) ≡ r.year) × (drop (hit (begins_with year_form (ahead s at))) (ahead s at) ≡ ahead s r.at)

pub record HeadIs (s : List ℕ) (at : ℕ) (r : Head) : Type 0 where
  pub beyond : at + 12 ≤ r.at
  pub within : r.at ≤ length s
  pub few : r.line ≤ 8
  pub some : 1 ≤ r.line
  pub scan : first_bad page_ahead 1 (ahead s at) ≡ first_bad (records_ahead r.programs) r.line (ahead s r.at)
  pub says : said (ahead s at)
      ≡ records_said r.programs (started r.clock r.tracks r.system r.numbers r.year) (ahead s r.at)

abbrev pub HeadRead : List ℕ → ℕ → Result Head BadLine → Type 0
HeadRead s at (Ok r) = HeadIs s at r
HeadRead s at (Err b) = Stops page_ahead 1 (ahead s at) b

-- a record, as the tables hold it, and the place behind it
pub record RecordIs (s : List ℕ) (at : ℕ) (r : Record) : Type 0 where
  pub told : Program
  pub held : r.program ≡ narrow_record told
  pub beyond : at + r.lines ≤ r.at
  pub within : r.at ≤ length s
  pub scan : (n line : ℕ) → first_bad (recording record_forms n) line (ahead s at)
      ≡ first_bad (records_ahead n) (line + r.lines) (ahead s r.at)
  -- what it says, where the lines behind it are well formed: a mark that is not ended is none
  pub says : (n line : ℕ) → 1 ≤ line → first_bad (records_ahead n) line (ahead s r.at) ≡ 0
      → (a : State lists) → records_said (suc n) a (ahead s at) ≡ records_said n (with_record r.id told a) (ahead s r.at)

-- seven lines, and the mark's where it stands
abbrev pub RecordRead : List ℕ → ℕ → ℕ → Result Record BadLine → Type 0
RecordRead s at line (Ok r) = RecordIs s at r
RecordRead s at line (Err b) = (n : ℕ) → Stops (recording record_forms n) line (ahead s at) b

-- where a part is read: the next begins at `at`, with line `line`
pub record Onward (s : List ℕ) (at line : ℕ) : Type 0 where
  pub within : at ≤ length s
  pub some : 1 ≤ line
  pub counted : line ≤ at + 1

-- a state with other records
abbrev pub with_programs : List Program → State lists → State lists
with_programs ps a = on_book (λ b. altered b ps b.clock b.holders b.resources) a

pub record RecordsAre (s : List ℕ) (at line count : ℕ) (r : Records) : Type 0 where
  pub onward : Onward s r.at r.line
  pub told : List Program
  pub held : r.programs ≡ map narrow_record told
  pub scan : first_bad (records_ahead count) line (ahead s at) ≡ first_bad (chains_ahead chain_forms) r.line (ahead s r.at)
  pub says : first_bad (chains_ahead chain_forms) r.line (ahead s r.at) ≡ 0
      → (a : State lists) → a.book.programs ≡ replicate most_programs unused
      → records_said count a (ahead s at) ≡ chains_said chained (with_programs told a) (ahead s r.at)

abbrev pub RecordsRead : List ℕ → ℕ → ℕ → ℕ → Result Records BadLine → Type 0
RecordsRead s at line count (Ok r) = RecordsAre s at line count r
RecordsRead s at line count (Err b) = Stops (records_ahead count) line (ahead s at) b

-- chains of these states, in a state and in links
abbrev pub with_chains : List ℕ → List (List ℕ) → State lists → State lists
with_chains [] cs a = a
with_chains (s ∷ ss) [] a = a
with_chains (s ∷ ss) (c ∷ cs) a = with_chains ss cs (with_chain s c a)

abbrev pub lay_these : List ℕ → List (List ℕ) → List ℕ → List ℕ
lay_these [] cs l = l
lay_these (s ∷ ss) [] l = l
lay_these (s ∷ ss) (c ∷ cs) l = lay_these ss cs (lay_chain l s (map byte c))

pub record ChainsAre (s : List ℕ) (at line : ℕ) (r : Chains) : Type 0 where
  pub onward : Onward s r.at r.line
  pub told : List (List ℕ)
  pub held : r.links ≡ lay_these chained told (replicate slots 0)
  pub scan : first_bad (chains_ahead chain_forms) line (ahead s at) ≡ first_bad holding r.line (ahead s r.at)
  pub says : (a : State lists) → chains_said chained a (ahead s at) ≡ rest_said (with_chains chained told a) (ahead s r.at)

abbrev pub ChainsRead : List ℕ → ℕ → ℕ → Result Chains BadLine → Type 0
ChainsRead s at line (Ok r) = ChainsAre s at line r
ChainsRead s at line (Err b) = Stops (chains_ahead chain_forms) line (ahead s at) b

-- a table of tracks holds what a state says
pub record Holds (t : Tracks) (a : State lists) : Type 0 where
  pub table : t ≡ tracks.table_of a.book.tracks a.book.system (map byte a.book.holders)
  pub long : length a.book.holders ≡ a.book.tracks

pub record HeldOf (s : List ℕ) (at : ℕ) (a : State lists) (r : Held) : Type 0 where
  pub told : List ℕ
  pub held : Holds r.tracks (on_book (with_holders told) a)
  pub says : rest_said a (ahead s at) ≡ rest_said (on_book (with_holders told) a) (ahead s r.at)

pub record HeldRead (s : List ℕ) (at line : ℕ) (t : Tracks) (r : Held) : Type 0 where
  pub onward : Onward s r.at r.line
  pub scan : first_bad holding line (ahead s at) ≡ first_bad numbering r.line (ahead s r.at)
  pub of : (a : State lists) → Holds t a → HeldOf s at a r

-- a table of numbers holds what a state says
pub record Keeps (t : Numbers) (a : State lists) : Type 0 where
  pub table : t ≡ numbers.table_of a.book.numbers (map narrow_resource a.book.resources)
  pub long : length a.book.resources ≡ a.book.numbers

pub record NumbersOf (s : List ℕ) (at : ℕ) (a : State lists) (r : Numbered) : Type 0 where
  pub told : List Resource
  pub held : Keeps r.numbers (on_book (with_resources told) a)
  pub says : rest_said a (ahead s at) ≡ rest_said (on_book (with_resources told) a) (ahead s r.at)

pub record NumbersRead (s : List ℕ) (at line : ℕ) (t : Numbers) (r : Numbered) : Type 0 where
  pub onward : Onward s r.at r.line
  pub scan : first_bad numbering line (ahead s at) ≡ first_bad numbering r.line (ahead s r.at)
  pub next : NoLine number_in s r.at (text number_key)  -- the next line is no number
  pub of : (a : State lists) → Keeps t a → NumbersOf s at a r

-- the last line
pub record EndIs (s : List ℕ) (at line : ℕ) : Type 0 where
  pub scan : first_bad numbering line (ahead s at) ≡ 0
  pub says : (a : State lists) → rest_said a (ahead s at) ≡ a

abbrev pub EndRead : List ℕ → ℕ → ℕ → Result (Unit {0}) BadLine → Type 0
EndRead s at line (Ok u) = EndIs s at line
EndRead s at line (Err b) = Stops numbering line (ahead s at) b

-- a state in the tables' bytes
abbrev pub narrow : State lists → State lists
narrow a =
    let b : Book = a.book in
    record {
      book = altered b (map narrow_record b.programs) b.clock (map byte b.holders) (map narrow_resource b.resources);
      kept = map (map byte) a.kept;
    }

-- the tables that the lines say, which are judged then, or the line that is not well formed
abbrev pub PageRead : List ℕ → ℕ → Result Tables BadLine → Type 0
PageRead s at (Ok t) = judged (drop at s) 0 t ≡ reading (drop at s)
PageRead s at (Err b) = not_read b.0 ≡ reading (drop at s)
