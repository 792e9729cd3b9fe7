-- The book: everything that the executive keeps but the order of its chains (OUTLINE, "The tables").
-- Assumes nothing.
use Rattle.std.specs.Prelude.{ℕ, ◌-◌, List, ◌++◌, get_or, set, replicate}
use Rattle.limits.specs.Limits.{most_programs}
use Rattle.records.specs.declared.Program.{Program}
use Rattle.records.specs.declared.Resource.{Resource}
use Rattle.records.specs.declared.Why.{Why}
use Rattle.records.specs.Records.{record_at, unused}
use Rattle.records.specs.Numbers.{free}
use Rattle.tracks.specs.Tracks.{nobody, system}

-- 32 records, T tracks of which the first S are the system's, R numbers
pub record Book : Type 0 where
  pub programs : List Program
  pub clock : ℕ
  pub year : ℕ  -- in which the clock started
  pub tracks : ℕ
  pub system : ℕ
  pub numbers : ℕ
  pub holders : List ℕ
  pub resources : List Resource

-- the record of program p, its state, its priority, its why
abbrev pub at : Book → ℕ → Program
at b p = record_at b.programs p

abbrev pub state_of : Book → ℕ → ℕ
state_of b p = (at b p).state

abbrev pub prio_of : Book → ℕ → ℕ
prio_of b p = (at b p).priority

abbrev pub why_of : Book → ℕ → Why
why_of b p = (at b p).why

-- who holds track i
abbrev pub holder_of : Book → ℕ → ℕ
holder_of b i = get_or b.holders i nobody

-- the book with other records, another clock, other holders, other numbers
abbrev pub altered : Book → List Program → ℕ → List ℕ → List Resource → Book
altered b ps c hs rs = record {
  programs = ps;
  clock = c;
  year = b.year;
  tracks = b.tracks;
  system = b.system;
  numbers = b.numbers;
  holders = hs;
  resources = rs;
}

-- another record of program p; and each of the other three
abbrev pub put : ℕ → Program → Book → Book
put p r b = altered b (set b.programs (p - 1) r) b.clock b.holders b.resources

abbrev pub with_clock : ℕ → Book → Book
with_clock c b = altered b b.programs c b.holders b.resources

abbrev pub with_holders : List ℕ → Book → Book
with_holders h b = altered b b.programs b.clock h b.resources

abbrev pub with_resources : List Resource → Book → Book
with_resources r b = altered b b.programs b.clock b.holders r

-- clock 0 of year Y, no record used, every track from S up and every number free (OUTLINE, FRESH and "Leap years")
abbrev pub fresh_book : ℕ → ℕ → ℕ → ℕ → Book
fresh_book T S R Y = record {
  programs = replicate most_programs unused;
  clock = 0;
  year = Y;
  tracks = T;
  system = S;
  numbers = R;
  holders = replicate S system ++ replicate (T - S) nobody;
  resources = replicate R free;
}
