-- The tables as a plain state, the book and the chains as lists; and a plain state laid out as tables.
-- Assumes nothing.
use Rattle.std.specs.Prelude.{ℕ, ◌≡◌, length}
use Rattle.limits.specs.Limits.{most_programs, most_tracks, most_numbers, usual_year}
use Rattle.rules.specs.Rules.{head}
use Rattle.rules.specs.Keeper.{lists, State, scheduled_chain, fresh}
use Rattle.chains.specs.Links.{slots, read, links_of}
use Rattle.ledger.specs.Ledger.{book_of, ledger_of}
use Rattle.tables.specs.declared.Tables.{Tables}

abbrev pub plain : Tables → State lists
plain t = record { book = book_of t.ledger; kept = read t.links }

abbrev pub lay : State lists → Tables
lay a = record { ledger = ledger_of a.book; links = links_of a.kept }

-- fresh tables; and the smallest: T=1, S=0, R=0, of the usual year (OUTLINE, "Answer numbers")
abbrev pub freshly : ℕ → ℕ → ℕ → ℕ → Tables
freshly T S R Y = lay (fresh lists T S R Y)

abbrev pub smallest : Tables
smallest = freshly 1 0 0 usual_year

-- the caller: the head of the scheduled chain, or 0
abbrev pub caller_of : Tables → ℕ
caller_of t = head (scheduled_chain lists (plain t))

-- their clock
abbrev pub clock_of : Tables → ℕ
clock_of t = (plain t).book.clock

-- the arrays of tables are as long as the code's types say: theorems about any tables ask this where a list could be longer or shorter
pub record Arrays (t : Tables) : Type 0 where
  pub programs : length t.ledger.programs ≡ most_programs
  pub links : length t.links ≡ slots
  pub holders : length t.ledger.tracks.holders ≡ most_tracks
  pub resources : length t.ledger.numbers.resources ≡ most_numbers
