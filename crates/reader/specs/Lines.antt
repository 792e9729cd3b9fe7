-- What the value of a refused reading says of the page's lines (request (i)): which of them is the first that is not well formed. And
-- what it is that exactly the pages of sound tables are read.
-- Assumes nothing.
use Rattle.std.specs.Prelude.{ℕ, ◌≤◌, ◌<◌, ◌≡◌, List, [], ◌∷◌, length, get_or, take}
use Rattle.std.proofs.Math.Option.{Option, none, some}
use Rattle.text.specs.Text.{parts}
use Rattle.text.specs.Lines.{lines_ended, last_bytes}
use Rattle.tables.specs.declared.Tables.{Tables}
use Rattle.tables.specs.Tables.{plain, Arrays}
use Rattle.tables.specs.Sound.{Sound}
use Rattle.page.specs.Page.{page}
use Rattle.reader.specs.Order.{Place, page_ahead, behind_line, ended}
use Rattle.reader.specs.Reading.{was_read, reading}

-- the lines of a text that are ended by byte 10
abbrev pub ended_lines : List ℕ → List (List ℕ)
ended_lines s = lines_ended (parts 10 s)

-- lines one after another, each of them well formed where it stands: where the reader stands behind them
abbrev pub behind_these : Place → List (List ℕ) → Option Place
behind_these p [] = some p
behind_these p (l ∷ ls) = elim (behind_line p l) [ none ↦ none | some q ↦ behind_these q ls ]

-- the first k lines of a text are well formed, and the reader stands at p behind them
pub record FormedTo (s : List ℕ) (k : ℕ) (p : Place) : Type 0 where
  pub there : k ≤ length (ended_lines s)
  pub formed : behind_these page_ahead (take k (ended_lines s)) ≡ some p

-- Line k + 1 is the first that is not well formed: those before it are, and it may not come; or it is not there, or not ended, and the
-- page is not at its end before it
pub data FirstNot (s : List ℕ) (k : ℕ) : Type 0 where
  not-formed : (p : Place) → FormedTo s k p → k < length (ended_lines s) → behind_line p (get_or (ended_lines s) k []) ≡ none → FirstNot s k
  not_there : (p : Place) → FormedTo s k p → k ≡ length (ended_lines s) → (p ≡ ended → last_bytes (parts 10 s) ≡ [] → ⊥) → FirstNot s k

-- all lines are well formed, and the page is at its end behind the last
pub record AllFormed (s : List ℕ) : Type 0 where
  pub formed : behind_these page_ahead (ended_lines s) ≡ some ended
  pub nothing : last_bytes (parts 10 s) ≡ []

-- sound tables write these bytes
pub record WrittenBy (t : Tables) (s : List ℕ) : Type 0 where
  pub arrays : Arrays t
  pub lawful : Sound t
  pub bytes : page (plain t) ≡ s

-- these bytes are read exactly where sound tables write them: what is read was written from the tables that it gives, and what sound
-- tables write is read and gives those tables
pub record Exactly (s : List ℕ) : Type 0 where
  pub read : (reading s).number ≡ 0 → (t : Tables) × WrittenBy t s × (reading s ≡ was_read t)
  pub written : (t : Tables) → WrittenBy t s → reading s ≡ was_read t
