-- What demand 2 says of claims and counts, and what tests had left open of a program removed and of a tick: of the tables themselves.
-- Assumes nothing.
use Rattle.std.specs.Prelude.{ℕ, ◌+◌, ◌≡◌, ◌≢◌, true, false, cond, List, [], ◌∷◌, eqb}
use Rattle.limits.specs.Limits as limits
use Rattle.records.specs.declared.Program.{Program}
use Rattle.records.specs.declared.Why.TheVariants.{Nothing, Son}
use Rattle.records.specs.Records.{Known, find, in_state, wait_over, with_timer, with_mark}
use Rattle.tracks.specs.Tracks.{LowestRun}
use Rattle.rules.specs.Book.{at, why_of, put}
use Rattle.rules.specs.Requests.{SS, OF, EXEC5, EXEC16, EXEC5ALL, EXEC6, CLEAR, FREE, Request, operator, TICK, running}
use Rattle.rules.specs.Claims.{NoRun, Gained}
use Rattle.rules.specs.Counts.{Freed, awoken, roused}
use Rattle.tables.specs.declared.Tables.{Tables}
use Rattle.tables.specs.Tables.{plain}
use Rattle.tables.specs.Calls.{Result, asked, many_ticks}

-- what is handed back for a claim of n tracks for h: the lowest free run, or state 5, or 8 and the tables as they were; the
-- latter two exactly where there is no run
pub record Claim (t : Tables) (h n w : ℕ) (r : Result) : Type 0 where
  pub granted : (i : ℕ) → LowestRun (plain t).book.holders i n → (r.number ≡ 0) × (r.values ≡ i ∷ [])
  pub gained : (i : ℕ) → LowestRun (plain t).book.holders i n → Gained (plain t).book (plain r.tables).book h i n
  pub waits : NoRun (plain t).book.holders n → w ≡ 0 → (r.number ≡ 1) × (r.values ≡ limits.disc ∷ [])
  pub told : NoRun (plain t).book.holders n → w ≡ 1 → (r.number ≡ 8) × (r.values ≡ 0 ∷ []) × (r.tables ≡ t)
  pub only-waits : r.number ≡ 1 → NoRun (plain t).book.holders n
  pub only-told : r.number ≡ 8 → NoRun (plain t).book.holders n

-- the value is a difference of the tables before and after: free tracks, programs woken, programs started
abbrev pub ValueFreed : Tables → Result → Type 0
ValueFreed t r = Freed (plain t).book (plain r.tables).book r.values

abbrev pub ValueAwoken : Tables → Result → Type 0
ValueAwoken t r = r.values ≡ awoken (plain t).book (plain r.tables).book ∷ []

abbrev pub ValueRoused : Tables → Result → Type 0
ValueRoused t r = r.values ≡ roused (plain t).book (plain r.tables).book ∷ []

-- every count that a call gives
pub record Counted (t : Tables) : Type 0 where
  pub off : (k : ℕ) (nm : List ℕ) → (asked t (operator (OF k) nm)).number ≡ 0 → ValueFreed t (asked t (operator (OF k) nm))
  pub own : (n s : ℕ) → (asked t (running (EXEC5 n s))).number ≡ 0 → ValueFreed t (asked t (running (EXEC5 n s)))
  pub global : (n s : ℕ) → (asked t (running (EXEC16 n s))).number ≡ 0 → ValueFreed t (asked t (running (EXEC16 n s)))
  pub each : (asked t (running EXEC5ALL)).number ≡ 0 → ValueFreed t (asked t (running EXEC5ALL))
  pub ending : (asked t (running EXEC6)).number ≡ 0 → ValueAwoken t (asked t (running EXEC6))
  pub clearing : (r : ℕ) → (asked t (running (CLEAR r))).number ≡ 0 → ValueAwoken t (asked t (running (CLEAR r)))
  pub freeing : (r : ℕ) → (asked t (running (FREE r))).number ≡ 0 → ValueAwoken t (asked t (running (FREE r)))
  pub tick : (asked t TICK).number ≡ 0 → ValueRoused t (asked t TICK)
  pub ticks : (n : ℕ) → (many_ticks t n).number ≡ 0 → ValueRoused t (many_ticks t n)

-- A program removed while another waits for it: the program of that name is removed by OF 8, and f waited for it as its son. f's wait is
-- over, so that it is scheduled, or suspended where its mark stood; the name is free, and no why names the record.
pub record Removed (t : Tables) (nm : List ℕ) (f : ℕ) : Type 0 where
  pub done : (asked t (operator (OF 8) nm)).number ≡ 0
  pub over : at (plain (asked t (operator (OF 8) nm)).tables).book f ≡ wait_over (at (plain t).book f)
  pub unnamed : find (plain (asked t (operator (OF 8) nm)).tables).book.programs nm ≡ 0
  pub unawaited : (q : ℕ) → Known q → why_of (plain (asked t (operator (OF 8) nm)).tables).book q ≢ Son (find (plain t).book.programs nm)

-- SS of the program of that name, p, which waits: done, with value 0. Where its mark stands the tables are the very same; else p has the mark
-- and nothing else is another.
pub record Held (t : Tables) (nm : List ℕ) (p : ℕ) : Type 0 where
  pub done : (asked t (operator SS nm)).number ≡ 0
  pub value : (asked t (operator SS nm)).values ≡ 0 ∷ []
  pub again : (at (plain t).book p).suspend ≡ true → (asked t (operator SS nm)).tables ≡ t
  pub marks : (at (plain t).book p).suspend ≡ false
      → plain (asked t (operator SS nm)).tables
      ≡ record { book = put p (with_mark (at (plain t).book p)) (plain t).book; kept = (plain t).kept }

-- A request q, no FRESH, wakes p, which has nothing else to do with it: p's wait is over.
abbrev pub Over : Tables → Request → ℕ → Type 0
Over t q p = at (plain (asked t q).tables).book p ≡ wait_over (at (plain t).book p)

-- What becomes of a marked program's record r by a request that is no FRESH, and no OF of it: it waits on, for what it waited for, and its mark
-- stands; or its wait is over, and it is suspended.
pub data Fate (r s : Program) : Type 0 where
  waits-on : s.state ≡ r.state → s.why ≡ r.why → s.suspend ≡ true → Fate r s
  suspended : s ≡ in_state limits.suspended Nothing r → Fate r s

-- A tick at any clock, the last of a day among them, with timers due: what becomes of a record r where the clock is now `now`. A due timer
-- moves on, or goes; a dormant program is scheduled.
abbrev pub moved : Program → Program
moved r = with_timer (cond (eqb r.interval 0) 0 (r.due + r.interval)) r.interval r

abbrev pub on_tick : ℕ → Program → Program
on_tick now r = cond (eqb r.due now) (cond (eqb r.state limits.dormant) (in_state limits.scheduled Nothing (moved r)) (moved r)) r

pub record Ticked (t : Tables) : Type 0 where
  pub done : (asked t TICK).number ≡ 0
  pub clock : (plain (asked t TICK).tables).book.clock ≡ (plain t).book.clock + 1
  pub records : (p : ℕ) → Known p → at (plain (asked t TICK).tables).book p ≡ on_tick ((plain t).book.clock + 1) (at (plain t).book p)
  pub rest : ((plain (asked t TICK).tables).book.holders ≡ (plain t).book.holders)
      × ((plain (asked t TICK).tables).book.resources ≡ (plain t).book.resources)
