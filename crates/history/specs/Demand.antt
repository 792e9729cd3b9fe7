-- Demands 1 and 3, of the tables themselves.
-- Assumes nothing.
use Rattle.std.specs.Prelude.{ℕ, ◌≤◌, ◌<◌, ◌≡◌, ◌≢◌, true, not, List, [], ◌∷◌, ◌++◌, map, get_or, replicate, eqb}
use Rattle.limits.specs.Limits.{scheduled, states}
use Rattle.lists.specs.Lists.{sum, from, every, join}
use Rattle.records.specs.declared.Program.{Program}
use Rattle.records.specs.Records.{Known}
use Rattle.rules.specs.Book.{Book, at, state_of}
use Rattle.rules.specs.Requests.{Call, Request, FRESH, TICK, running}
use Rattle.rules.specs.Plans.{number_of, values_of}
use Rattle.rules.specs.Rules.{may_start, due_at, call}
use Rattle.rules.specs.Keeper.{lists, Entries, entries, sorted, State, view, asks, after, fresh}
use Rattle.rules.specs.Engine.{Handed, Engine, after_ticks, made_by}
use Rattle.rules.specs.Replay.{Fits, First}
use Rattle.rules.specs.Frame.{Party, Concerned}
use Rattle.tables.specs.declared.Tables.{Tables}
use Rattle.tables.specs.Tables.{plain}
use Rattle.tables.specs.Sound.{sound}
use Rattle.tables.specs.Calls.{planned, asked, many_ticks}
use Rattle.page.specs.Page.{page}
use Rattle.page.specs.Paging.{linked}
use Rattle.console.specs.Line.{line_of}
use Rattle.console.specs.Line as line
use Rattle.reader.specs.Reading.{reading}
use Rattle.history.specs.Runs.{Beginning, Made, lent_to, step, run, outcomes}
use Rattle.history.specs.Runs as calls

-- DEMAND 1, of a call c on any tables t: its number is of the outline's list; where that is a refusal, the tables and
-- the lent buffer are afterwards as before
pub record Refuses (t : Tables) (c : Made) : Type 0 where
  pub listed : (step linked t c).number ≤ 14
  pub tables : 2 ≤ (step linked t c).number → (step linked t c).tables ≡ t
  pub buffer : 2 ≤ (step linked t c).number → (step linked t c).buffer ≡ lent_to c

-- DEMAND 3. The replay of a history keeps no chain: it has the book, and when each program last entered its chain; a chain is sorted out of
-- these whenever one is asked for. As a page shows them:
abbrev pub sorted_out : State entries → State lists
sorted_out n = record { book = n.book; kept = [] ∷ map (sorted n.book n.kept) (from 1 6) }

abbrev pub replaying : Engine
replaying = record {
  Form = State entries;
  sound = λ n. true;
  clock = λ n. n.book.clock;
  asked = λ n q. record { number = number_of (asks entries n q); values = values_of (asks entries n q); tables = after entries n q };
  fresh = fresh entries;
  page = λ n. page (sorted_out n);
}

-- THE FIRST ENTRIES, of tables that were read: the programs in chains enter one after another, in the order in which the chains list them
-- and one chain behind another, and so are numbered from 1 on. Which chain comes first is no matter: entries are compared within a
-- chain only, and demand 3 holds with any entries that account for the chains (proofs/Demand3.antt `demand-sound`).
unfoldable pub in_turn : Book → List ℕ → Entries → Entries
in_turn b [] e = e
in_turn b (p ∷ ps) e = in_turn b ps (entries.entered b p (state_of b p) e)

abbrev pub first_entries : State lists → State entries
first_entries a = record { book = a.book; kept = in_turn a.book (join a.kept) entries.none }

-- what the replay begins with: fresh notes, those of the smallest tables where FRESH is refused; of tables that were read, the first entries
unfoldable pub notes_of : Beginning → State entries
notes_of (calls.fresh T S R Y) = (made_by (fresh entries) T S R Y).tables
notes_of (calls.read s) = first_entries (plain (reading s).tables)

-- what a call is told: its number, its values, and the buffer that was lent to it, without the tables
abbrev pub told_of : {S : Type 0} → Handed S → Handed (Unit {0})
told_of w = record { number = w.number; values = w.values; tables = tt; buffer = w.buffer }

-- a call of the running program on tables t: refused with 2 where the replay has no program scheduled; else it acts for
-- the program that the replay has first
pub data ActsFor (t : Tables) (n : State entries) (c : Call) : Type 0 where
  for-none : ((p : ℕ) → Known p → state_of n.book p ≢ scheduled)
      → asked t (running c) ≡ record { number = 2; values = 0 ∷ []; tables = t } → ActsFor t n c
  for-first : (p : ℕ) → First n.book n.kept.entry scheduled p → asked t (running c) ≡ planned t (call (view lists (plain t)) p c)
      → ActsFor t n c

-- tables t, and the replay n of the history that led to them
pub record Agrees (t : Tables) (n : State entries) : Type 0 where
  pub book : (plain t).book ≡ n.book  -- each program's state and priority, and the rest of the book
  -- exactly the programs in that state, once each, in order
  pub chains : (s : ℕ) → 1 ≤ s → s < states → Fits n.book n.kept.entry s (get_or (plain t).kept s [])
  pub acts : (c : Call) → ActsFor t n c

-- a run of calls from tables t, and its replay from notes n
pub record Demanded (t : Tables) (n : State entries) (cs : List Made) : Type 0 where
  pub agrees : Agrees (run linked t cs) (run replaying n cs)
  pub told : map told_of (outcomes linked t cs) ≡ map told_of (outcomes replaying n cs)
  pub sound : every (λ a. not (eqb a 14)) (map (λ (w : Handed Tables). w.number) (outcomes linked t cs)) ≡ true  -- none answers 14

-- TICK,n READ AS n CALLS. A call asks for n ticks at once
pub data AsksTicks (n : ℕ) : Made → Type 0 where
  ticks-call : AsksTicks n (calls.ticks n)
  ticks-line : (bytes buf : List ℕ) → line_of bytes ≡ line.ticks n → AsksTicks n (calls.line bytes buf)

-- n single ticks
abbrev pub singly : ℕ → List Made
singly n = replicate n (calls.request TICK)

-- Where a call c behind the calls cs of a run is an accepted TICK,n, n TICKs may stand in its place: each is accepted, their values add up to
-- its value, they leave the tables that it leaves, and in both runs the calls cs before and ds behind are told the same.
pub record ReadSingly (E : Engine) (t : E.Form) (cs : List Made) (c : Made) (n : ℕ) (ds : List Made) : Type 0 where
  pub each : map (λ (w : Handed E.Form). w.number) (outcomes E (run E t cs) (singly n)) ≡ replicate n 0
  pub value : (step E (run E t cs) c).values
      ≡ sum (join (map (λ (w : Handed E.Form). w.values) (outcomes E (run E t cs) (singly n)))) ∷ []
  pub leaves : (step E (run E t cs) c).tables ≡ run E (run E t cs) (singly n)
  pub goes_on : run E t (cs ++ c ∷ ds) ≡ run E t (cs ++ (singly n ++ ds))
  pub told : outcomes E t (cs ++ c ∷ ds)
      ≡ outcomes E t cs ++ (step E (run E t cs) c ∷ outcomes E (run E t (cs ++ singly n)) ds)
  pub told-singly : outcomes E t (cs ++ (singly n ++ ds))
      ≡ outcomes E t cs ++ (outcomes E (run E t cs) (singly n) ++ outcomes E (run E t (cs ++ singly n)) ds)

-- The frame, of any tables. The request that a call makes, if it makes one
pub data Asks (q : Request) : Made → Type 0 where
  by_call : Asks q (calls.request q)
  by-line : (bytes buf : List ℕ) → line_of bytes ≡ line.asks q → Asks q (calls.line bytes buf)

-- the year in which the clock of tables started: FRESH's alone
abbrev pub year_of : Tables → ℕ
year_of t = (plain t).book.year

pub record YearStays (t : Tables) (c : Made) : Type 0 where
  pub same : ((T S R Y : ℕ) → Asks (FRESH T S R Y) c → ⊥) → year_of (step linked t c).tables ≡ year_of t

-- the call is an accepted FRESH, which takes no tables; or the tables are sound and it concerns program p: its caller, named
-- in it, due at that tick, or woken by it; or it is an accepted TICK,n, and p is due at one of its ticks
pub data Touches (t : Tables) (c : Made) (p : ℕ) : Type 0 where
  anew : (T S R Y : ℕ) → c ≡ calls.request (FRESH T S R Y) → may_start T S R Y ≡ true → Touches t c p
  concerns : (q : Request) → Asks q c → sound t ≡ true → Concerned (view lists (plain t)) q p → Touches t c p
  -- k of its ticks are made, and p is due at the next
  ticking : (n k : ℕ) → AsksTicks n c → (many_ticks t n).number ≡ 0 → k < n → due_at (plain (after_ticks asked k t)).book p ≡ true
      → Touches t c p

-- p's record before and after
abbrev pub before : Tables → ℕ → Program
before t p = at (plain t).book p

abbrev pub afterwards : Tables → Made → ℕ → Program
afterwards t c p = at (plain (step linked t c).tables).book p

-- p has nothing to do with the call but that it may be woken by it: the call is no FRESH, and neither is p its caller,
-- nor named in it, nor due at that tick or, where the call is an accepted TICK,n, at one of its ticks
pub record Bystander (t : Tables) (c : Made) (p : ℕ) : Type 0 where
  pub old : (T S R Y : ℕ) → Asks (FRESH T S R Y) c → ⊥
  pub apart : (q : Request) → Asks q c → Party (view lists (plain t)) p q → ⊥
  pub undue : (n k : ℕ) → AsksTicks n c → (many_ticks t n).number ≡ 0 → k < n → due_at (plain (after_ticks asked k t)).book p ≡ true → ⊥
