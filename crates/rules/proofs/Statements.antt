-- What is shown of the rules, in any plain state and under any keeper: refusals, claims, counts, and the replay of runs of requests. The
-- theorems about the tables say the same of the tables themselves, in words of their own; nothing here need be read for them.
-- Assumes nothing.
use Prim.Native.Nat.{ℕ, ◌≤◌, ◌<◌}
use mathlib.Core.Path.{◌≡◌}
use mathlib.Core.Logic.{◌≢◌}
use mathlib.Core.List.{List, [], ◌∷◌}
use lib.ListN.{get_or}
use Rattle.limits.specs.Limits.{scheduled, disc, states}
use Rattle.records.specs.declared.Why.TheVariants.{Tracks}
use Rattle.records.specs.Records.{Known}
use Rattle.tracks.specs.Tracks.{LowestRun, filled}
use Rattle.rules.specs.Book.{state_of, with_holders}
use Rattle.rules.specs.Requests.{OF, EXEC5, EXEC16, EXEC5ALL, EXEC6, CLEAR, FREE, Call, Request, operator, TICK, running}
use Rattle.rules.specs.Plans.{Plan, refused, done, waiting, on, becomes, held, number_of, values_of, events_of}
use Rattle.rules.specs.Rules.{head, call}
use Rattle.rules.specs.Keeper.{Keeper, lists, entries, sorted, State, view, scheduled_chain, asks, after}
use Rattle.rules.specs.Claims.{NoRun, Gained}
use Rattle.rules.specs.Counts.{Freed, awoken, roused}
use Rattle.rules.specs.Replay.{Fits, Accounts, First}

-- REFUSALS: what is said of the answer to a request
pub record Answered (K : Keeper) (t : State K) (q : Request) : Type 0 where
  pub highest : number_of (asks K t q) ≤ 11  -- 12, 13 and 14 are of the buffer, the line and the tables
  pub lowest : (a v : ℕ) → asks K t q ≡ refused a v → 2 ≤ a
  pub nothing : 2 ≤ number_of (asks K t q) → events_of (view K t) (asks K t q) ≡ []
  pub stays : 2 ≤ number_of (asks K t q) → after K t q ≡ t

-- CLAIMS A plan x for caller c, who asks n tracks for holder h, w being 0 to wait and 1 to be told, is the outline's where xs are the
-- holders: the lowest run, or state 5, or 8; and each of the three only then.
pub record Claims (xs : List ℕ) (c h n w : ℕ) (x : Plan) : Type 0 where
  pub granted : (i : ℕ) → LowestRun xs i n → x ≡ done (i ∷ []) (held (filled i n h xs) ∷ [])
  pub waits : NoRun xs n → w ≡ 0 → x ≡ waiting disc (on c (becomes disc (Tracks n)) ∷ [])
  pub told : NoRun xs n → w ≡ 1 → x ≡ refused 8 0
  pub only-granted : number_of x ≡ 0 → (i : ℕ) × LowestRun xs i n × (values_of x ≡ i ∷ [])
  pub only-waits : number_of x ≡ 1 → (w ≡ 0) × NoRun xs n
  pub only-told : number_of x ≡ 8 → (w ≡ 1) × NoRun xs n

-- A request q for n tracks for holder h, in the state t of a keeper K: what it comes to, and that the run is
-- h's after it, all else being as it was.
pub record Claimed (K : Keeper) (t : State K) (h n w : ℕ) (q : Request) : Type 0 where
  pub answer : Claims t.book.holders (head (scheduled_chain K t)) h n w (asks K t q)
  pub tracks : (i : ℕ) → LowestRun t.book.holders i n → Gained t.book (after K t q).book h i n
  pub rest : (i : ℕ) → LowestRun t.book.holders i n
      → after K t q ≡ record { book = with_holders (after K t q).book.holders t.book; kept = t.kept }
  pub same : NoRun t.book.holders n → w ≡ 1 → after K t q ≡ t

-- COUNTS
-- the request is done
abbrev pub Done : State lists → Request → Type 0
Done a q = number_of (asks lists a q) ≡ 0

-- its one value is the count of tracks freed by it; of programs that waited and are scheduled by it; of programs
-- that were dormant and are scheduled by it
abbrev pub TellsFreed : State lists → Request → Type 0
TellsFreed a q = Freed a.book (after lists a q).book (values_of (asks lists a q))

abbrev pub TellsAwoken : State lists → Request → Type 0
TellsAwoken a q = values_of (asks lists a q) ≡ awoken a.book (after lists a q).book ∷ []

abbrev pub TellsRoused : State lists → Request → Type 0
TellsRoused a q = values_of (asks lists a q) ≡ roused a.book (after lists a q).book ∷ []

-- The counts of the requests that answer one, in a plain state a.
pub record Counts (a : State lists) : Type 0 where
  pub off : (k : ℕ) (nm : List ℕ) → Done a (operator (OF k) nm) → TellsFreed a (operator (OF k) nm)
  pub own : (n s : ℕ) → Done a (running (EXEC5 n s)) → TellsFreed a (running (EXEC5 n s))
  pub global : (n s : ℕ) → Done a (running (EXEC16 n s)) → TellsFreed a (running (EXEC16 n s))
  pub each : Done a (running EXEC5ALL) → TellsFreed a (running EXEC5ALL)
  pub ending : Done a (running EXEC6) → TellsAwoken a (running EXEC6)
  pub clearing : (r : ℕ) → Done a (running (CLEAR r)) → TellsAwoken a (running (CLEAR r))
  pub freeing : (r : ℕ) → Done a (running (FREE r)) → TellsAwoken a (running (FREE r))
  pub tick : Done a TICK → TellsRoused a TICK

-- RUNS
module _ (K : Keeper) where
  -- a run of requests, its numbers and values
  abbrev pub runs : State K → List Request → State K
  runs t [] = t
  runs t (q ∷ qs) = runs (after K t q) qs

  abbrev pub answers : State K → List Request → List (ℕ × List ℕ)
  answers t [] = []
  answers t (q ∷ qs) = (number_of (asks K t q), values_of (asks K t q)) ∷ answers (after K t q) qs

-- a call of the running program acts for the first of those in state 1; where there is none it is refused
pub data Acts (a : State lists) (en : ℕ → ℕ) (c : Call) : Type 0 where
  for-none : ((z : ℕ) → Known z → state_of a.book z ≢ scheduled) → asks lists a (running c) ≡ refused 2 0 → Acts a en c
  for-first : (p : ℕ) → First a.book en scheduled p → asks lists a (running c) ≡ call (view lists a) p c → Acts a en c

-- the chains a, and the replay t that keeps none
pub record Holds (a : State lists) (t : State entries) : Type 0 where
  pub book : t.book ≡ a.book
  pub accounts : Accounts a t.kept
  pub sorts : (s : ℕ) → 1 ≤ s → s < states → Fits a.book t.kept.entry s (sorted a.book t.kept s)
  pub chains : (s : ℕ) → 1 ≤ s → s < states → get_or a.kept s [] ≡ sorted a.book t.kept s
  pub acts : (c : Call) → Acts a t.kept.entry c

-- the same after a run of requests, which have the same answers
pub record Replayed (a : State lists) (t : State entries) (qs : List Request) : Type 0 where
  pub holds : Holds (runs lists a qs) (runs entries t qs)
  pub answered : answers lists a qs ≡ answers entries t qs
