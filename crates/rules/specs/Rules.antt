-- The outline's rules, each once, its tests in the order 2, 3, 4, 6, 7, 10, 9, 5, 8, 11 (OUTLINE,
-- "Answer numbers"). 14, 13 and 12 are tested where the tables, the line and the buffer are; TICK,n, with its 3 and 11, stands in Engine.antt.
-- Assumes nothing.
use Rattle.std.specs.Prelude.{ℕ, ◌+◌, ◌*◌, Bool, true, false, cond, ◌&&◌, ◌||◌, List, [], ◌∷◌, ◌++◌, map, length, drop, leb, ltb, eqb}
use Rattle.limits.specs.Limits.{dormant, scheduled, general, disc, suspended, most_tracks, most_numbers, last_priority, most_units, first_year, last_year}
use Rattle.lists.specs.Lists.{count, keep, first, any, from, up_to, join}
use Rattle.clock.specs.Clock.{ceiling, unit, time_of}
use Rattle.records.specs.declared.Program.{Program}
use Rattle.records.specs.declared.Resource.{Resource}
use Rattle.records.specs.declared.Why.{Why}
use Rattle.records.specs.declared.Why.TheVariants.{Nothing, Tracks, Son, Lock, Number}
use Rattle.records.specs.Names.{legal}
use Rattle.records.specs.Records.{all, in_wait, find, lowest_unused}
use Rattle.records.specs.Numbers.{globally, number_at, with_number, concerns, without}
use Rattle.tracks.specs.Tracks.{nobody, everybody, run, lowest, filled, replaced}
use Rattle.rules.specs.Book.{Book, at, state_of, prio_of}
use Rattle.rules.specs.Requests.{Order, RU, SS, GO, PR, OF, Call, EXEC4, EXEC15, EXEC5, EXEC16, EXEC5ALL, EXEC6, EXEC7, EXEC11}
use Rattle.rules.specs.Requests.{EXEC9, EXEC10, EXEC12, ALLOC, LOCK, CLEAR, FREE, Request, FRESH, LOAD, operator, TICK, running}
use Rattle.rules.specs.Plans.{becomes, priced, loaded, unloaded, timed, marked, Event, on, clocked, held, numbered, renewed, Release, Plan}
use Rattle.rules.specs.Plans.{refused, done, releasing, waiting, View, woken, need, either, found}

-- the program of that name: 3 where the name is not legal, 4 where there is none
unfoldable pub named : View → List ℕ → (ℕ → Plan) → Plan
named v nm f = need (legal nm) 3 0 (need (ltb 0 (find v.book.programs nm)) 4 0 (f (find v.book.programs nm)))

-- 5, with its state, where p is not in state s
unfoldable pub inside : View → ℕ → ℕ → Plan → Plan
inside v p s x = need (eqb (state_of v.book p) s) 5 (state_of v.book p) x

-- the caller waits in state s for a reason, or is told 8
unfoldable pub waits : ℕ → ℕ → ℕ → Why → Plan
waits c w s y = either (eqb w 0) (waiting s (on c (becomes s y) ∷ [])) (refused 8 0)

-- what tracks given back, a number cleared or deallocated, and the ending of p set free
unfoldable pub frees : ℕ → Release
frees n = record { ended = 0; tracks = n; cleared = λ r. false; dealt = false }

unfoldable pub clears : ℕ → Bool → Release
clears r d = record { ended = 0; tracks = 0; cleared = eqb r; dealt = d }

unfoldable pub ends_in : List Resource → ℕ → ℕ → ℕ → Release
ends_in rs R p n = record {
  ended = p;
  tracks = n;
  cleared = λ r. concerns p (number_at rs r);
  dealt = any (λ r. eqb (number_at rs r).owner p) (from 1 R);
}

abbrev pub ends : View → ℕ → ℕ → Release
ends v p n = ends_in v.book.resources v.book.numbers p n

-- p's numbers are deallocated and its locks cleared
abbrev pub quit : View → ℕ → Event
quit v p = numbered (map (without p) v.book.resources)

-- OF 8 makes the record unused; OF 1 makes the program dormant without a timer
abbrev pub dismissed : ℕ → ℕ → List Event
dismissed k p = cond (eqb k 8) (on p unloaded ∷ []) (on p (becomes dormant Nothing) ∷ on p (timed 0 0) ∷ [])

-- the figure of an order is allowed (OUTLINE, "Operator requests")
abbrev pub allowed : Order → Bool
allowed RU = true
allowed SS = true
allowed GO = true
allowed (PR n) = up_to 1 last_priority n
allowed (OF k) = eqb k 1 || eqb k 8

-- what the operator asks of program p; SS of one that waits sets its mark, if that does not stand yet
unfoldable pub order : View → Order → ℕ → Plan
order v RU p = inside v p dormant (done (0 ∷ []) (on p (becomes scheduled Nothing) ∷ []))
order v SS p =
    either (in_wait (state_of v.book p))
    (either (at v.book p).suspend (done (0 ∷ []) []) (done (0 ∷ []) (on p marked ∷ [])))
    (inside v p scheduled (done (0 ∷ []) (on p (becomes suspended Nothing) ∷ [])))
order v GO p = inside v p suspended (done (0 ∷ []) (on p (becomes scheduled Nothing) ∷ []))
order v (PR n) p = done (prio_of v.book p ∷ []) (on p (priced n) ∷ [])
order v (OF k) p =
    let n = count p v.book.holders in
    releasing (n ∷ []) (dismissed k p ++ (held (replaced p nobody v.book.holders) ∷ quit v p ∷ [])) (ends v p n)

-- a timer is due at the tick that follows; it moves on by its interval, or goes; a dormant program is scheduled
unfoldable pub due_at : Book → ℕ → Bool
due_at b p = eqb (at b p).due (b.clock + 1)

abbrev pub ticked : ℕ → Program → List Event
ticked p r =
    on p (timed (cond (eqb r.interval 0) 0 (r.due + r.interval)) r.interval)
    ∷ cond (eqb r.state dormant) (on p (becomes scheduled Nothing) ∷ []) []

-- EXEC 4 and 15: the lowest run of n free tracks becomes h's
unfoldable pub takes : View → ℕ → ℕ → ℕ → ℕ → Plan
takes v c h n w =
    need (up_to 1 v.book.tracks n && leb w 1) 3 0
    (found (lowest n 0 v.book.holders)
    (λ i. done (i ∷ []) (held (filled i n h v.book.holders) ∷ []))
    (waits c w disc (Tracks n)))

-- EXEC 5 and 16: n tracks from start on, each of them h's, are given back
unfoldable pub gives : View → ℕ → ℕ → ℕ → Plan
gives v h n start =
    need (leb 1 n && leb (start + n) v.book.tracks) 3 0
    (need (run h n (drop start v.book.holders)) 9 0
    (releasing (n ∷ []) (held (filled start n nobody v.book.holders) ∷ []) (frees n)))

-- number r: 3 where it is none of ours, 10 where it is not allocated
unfoldable pub allocated : View → ℕ → (Resource → Plan) → Plan
allocated v r f =
    need (up_to 1 v.book.numbers r) 3 0
    (need (ltb 0 (number_at v.book.resources r).owner) 10 0 (f (number_at v.book.resources r)))

-- number r gets another owner and lock
abbrev pub assigned : View → ℕ → ℕ → ℕ → Event
assigned v r o l = numbered (with_number r o l v.book.resources)

-- what the running program c asks (OUTLINE, "Calls of the running program")
unfoldable pub call : View → ℕ → Call → Plan
call v c (EXEC4 n w) = takes v c c n w
call v c (EXEC15 n w) = takes v c everybody n w
call v c (EXEC5 n start) = gives v c n start
call v c (EXEC16 n start) = gives v everybody n start
call v c EXEC5ALL =
    let n = count c v.book.holders in
    releasing (n ∷ []) (held (replaced c nobody v.book.holders) ∷ []) (frees n)
call v c EXEC6 = releasing (length (woken v (ends v c 0)) ∷ []) (on c (becomes dormant Nothing) ∷ quit v c ∷ []) (ends v c 0)
call v c EXEC7 = done (0 ∷ []) (on c (becomes suspended Nothing) ∷ [])
call v c EXEC11 = done (time_of v.book.year v.book.clock) []
call v c (EXEC9 nm) =
    named v nm λ p. inside v p dormant
    (waiting general (on p (becomes scheduled Nothing) ∷ on c (becomes general (Son p)) ∷ []))
call v c (EXEC10 nm) = named v nm λ p. inside v p dormant (done (p ∷ []) (on p (becomes scheduled Nothing) ∷ []))
call v c (EXEC12 nm res mult off) =
    need (up_to 1 4 res && leb mult most_units && up_to 1 most_units off) 3 0 (named v nm λ p.
    let due = v.book.clock + off * unit res in
    done (due ∷ []) (on p (timed due (mult * unit res)) ∷ []))
call v c (ALLOC g w) =
    need (leb w 1) 3 0
    (let r = first (λ r. eqb (number_at v.book.resources r).owner 0) (from 1 v.book.numbers) in
    either (ltb 0 r) (done (r ∷ []) (assigned v r (cond g globally c) 0 ∷ [])) (waits c w general Number))
call v c (LOCK r w) =
    need (leb w 1) 3 0 (allocated v r λ x.
    either (eqb x.lock c) (done (r ∷ []) [])
    (either (eqb x.lock 0) (done (r ∷ []) (assigned v r x.owner c ∷ [])) (waits c w general (Lock r))))
call v c (CLEAR r) =
    allocated v r λ x.
    either (eqb x.lock 0) (done (0 ∷ []) [])
    (need (eqb x.lock c) 9 0
    (releasing (length (woken v (clears r false)) ∷ []) (assigned v r x.owner 0 ∷ []) (clears r false)))
call v c (FREE r) =
    allocated v r λ x.
    need ((eqb x.owner c || eqb x.owner globally) && (eqb x.lock c || eqb x.lock 0)) 9 0
    (releasing (length (woken v (clears r true)) ∷ []) (assigned v r 0 0 ∷ []) (clears r true))

-- the caller is the head of the scheduled chain: 2 where that is empty
abbrev pub head : List ℕ → ℕ
head [] = 0
head (p ∷ ps) = p

unfoldable pub as_caller : View → (ℕ → Plan) → Plan
as_caller v f = need (ltb 0 (head (v.chain scheduled))) 2 0 (f (head (v.chain scheduled)))

-- T from 1 to 256, S from 0 to T, R from 0 to 16 (OUTLINE, "The tables")
abbrev pub sizes : ℕ → ℕ → ℕ → Bool
sizes T S R = up_to 1 most_tracks T && leb S T && leb R most_numbers

-- and the start year from 1970 to 2099 (OUTLINE, "Leap years")
abbrev pub may_start : ℕ → ℕ → ℕ → ℕ → Bool
may_start T S R Y = sizes T S R && up_to first_year last_year Y

-- a request
unfoldable pub plan : View → Request → Plan
plan v (FRESH T S R Y) = need (may_start T S R Y) 3 0 (done (0 ∷ []) (renewed T S R Y ∷ []))
plan v (LOAD nm n) =
    need (legal nm && leb n last_priority) 3 0
    (need (eqb (find v.book.programs nm) 0) 6 0
    (need (ltb 0 (lowest_unused v.book.programs)) 7 0
    (done (lowest_unused v.book.programs ∷ []) (on (lowest_unused v.book.programs) (loaded nm n) ∷ []))))
plan v (operator o nm) = need (allowed o) 3 0 (named v nm (order v o))
plan v TICK =
    need (ltb v.book.clock ceiling) 11 0
    (done (length (keep (λ p. due_at v.book p && eqb (state_of v.book p) dormant) all) ∷ [])
    (clocked (v.book.clock + 1) ∷ join (map (λ p. ticked p (at v.book p)) (keep (due_at v.book) all))))
plan v (running c) = as_caller v (λ p. call v p c)
