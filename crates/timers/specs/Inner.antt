-- What inner functions ask and promise of timers, and what ticks come to where they are made in one move; nothing here need be believed for
-- the calls.
-- Assumes nothing.
use Rattle.std.specs.Prelude.{ℕ, zero, suc, ◌+◌, ◌-◌, ◌*◌, ◌/◌, ◌≤◌, ◌≡◌, Bool, true, false, cond, ◌&&◌, List, [], ◌∷◌, map, length, get_or, set, leb, ltb, eqb, Result, Ok, Err}
use Rattle.limits.specs.Limits.{dormant, scheduled, most_ticks}
use Rattle.lists.specs.Lists.{sum, keep, insert, join, up_to}
use Rattle.clock.specs.Clock.{ceiling}
use Rattle.records.specs.declared.Program.{Program}
use Rattle.records.specs.declared.Why.TheVariants.{Nothing}
use Rattle.records.specs.Records.{all, missing, in_state, with_timer}
use Rattle.rules.specs.Book.{Book, at, state_of, prio_of, altered}
use Rattle.rules.specs.Requests.{TICK}
use Rattle.rules.specs.Plans.{Event, on, becomes, values_of}
use Rattle.rules.specs.Keeper.{lists, State, asks, after}
use Rattle.timers.specs.declared.NoSpan.{NoSpan}
use Rattle.timers.specs.declared.NoSpan.TheVariants.{NotAllowed, AtCeiling}

-- the timer of a record falls due by the time the clock stands at `now`
unfoldable pub falls_due : ℕ → Program → Bool
falls_due now r = ltb 0 r.due && leb r.due now

-- the first due beyond `now` of a timer that fell due: none where it runs once
unfoldable pub due_beyond : ℕ → ℕ → ℕ → ℕ
due_beyond now d i = cond (eqb i 0) 0 (d + ((now - d) / i + 1) * i)

-- the record with its timer beyond `now`
abbrev pub moved : ℕ → Program → Program
moved now r = cond (falls_due now r) (with_timer (due_beyond now r.due r.interval) r.interval r) r

-- a dormant program whose timer falls due starts; and what becomes of a record
unfoldable pub starts : ℕ → Program → Bool
starts now r = falls_due now r && eqb r.state dormant

abbrev pub struck : ℕ → Program → Program
struck now r = cond (starts now r) (in_state scheduled Nothing (moved now r)) (moved now r)

-- the programs that start, by number
unfoldable pub starters : ℕ → Book → List ℕ
starters now b = keep (λ p. starts now (at b p)) all

-- programs enter the scheduled chain one after another, by their priorities
abbrev pub enter_all : (ℕ → ℕ) → List ℕ → List (List ℕ) → List (List ℕ)
enter_all pr [] k = k
enter_all pr (p ∷ ps) k = enter_all pr ps (set k scheduled (insert pr p (get_or k scheduled [])))

-- a state when the clock has gone on to `now` in one move
abbrev pub moved_to : ℕ → State lists → State lists
moved_to now a = record {
  book = altered a.book (map (struck now) a.book.programs) now a.book.holders a.book.resources;
  kept = enter_all (prio_of a.book) (starters now a.book) a.kept;
}

-- the same in two steps: all timers are moved on, and the clock; then programs are scheduled one after another
abbrev pub passed : ℕ → State lists → State lists
passed now a = record {
  book = altered a.book (map (moved now) a.book.programs) now a.book.holders a.book.resources;
  kept = a.kept;
}

abbrev pub starting : List ℕ → List Event
starting l = join (map (λ p. on p (becomes scheduled Nothing) ∷ []) l)

-- nobody starts by then
abbrev pub NoStart : ℕ → List Program → Type 0
NoStart now ps = (i : ℕ) → starts now (get_or ps i missing) ≡ false

-- how many programs are dormant
unfoldable pub sleepers : Book → ℕ
sleepers b = length (keep (λ p. eqb (state_of b p) dormant) all)

-- so many ticks, by the rule of one; and how many programs they start
unfoldable pub ticks_on : ℕ → State lists → State lists
ticks_on zero a = a
ticks_on (suc n) a = ticks_on n (after lists a TICK)

unfoldable pub started_on : ℕ → State lists → ℕ
started_on zero a = 0
started_on (suc n) a = sum (values_of (asks lists a TICK)) + started_on n (after lists a TICK)

-- the sooner of `end` and the moment at which a dormant program falls due; and of all programs
abbrev pub sooner : Program → ℕ → ℕ
sooner r end = cond (ltb 0 r.due && ltb r.due end && eqb r.state dormant) r.due end

abbrev pub next_start : ℕ → List Program → ℕ
next_start end [] = end
next_start end (r ∷ rs) = next_start (sooner r end) rs

-- dues beyond `now` can be told in the code's numbers
abbrev pub CanMove : ℕ → Program → Type 0
CanMove now r = now + r.interval ≤ 18446744073709551615

abbrev pub CanMoveAll : ℕ → List Program → Type 0
CanMoveAll now ps = (i : ℕ) → CanMove now (get_or ps i missing)

-- what n ticks come to before any is made
unfoldable pub span_of : ℕ → ℕ → Result ℕ NoSpan
span_of clock n =
    elim (up_to 1 most_ticks n) [
      | true ↦ elim (leb (clock + n) ceiling) [ true ↦ Ok (clock + n) | false ↦ Err AtCeiling ]
      | false ↦ Err NotAllowed
    ]
