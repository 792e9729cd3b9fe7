-- The bench sheet and more, as one table (OUTLINE, "Bench sheet", "Errors a good programmer makes here"). Each number
-- and value stands as the outline says it.
-- Assumes nothing.
use Rattle.std.specs.Prelude.{ℕ, ◌+◌, true, false, List, [], ◌∷◌, ◌++◌, set, replicate}
use Prim.Native.String.{String}
use Rattle.text.specs.Text.{text}
use Rattle.records.specs.Records.{newcomer, in_state}
use Rattle.records.specs.declared.Why.TheVariants.{Nothing}
use Rattle.rules.specs.Requests.{EXEC5, running}
use Rattle.rules.specs.Book.{put, with_clock, fresh_book}
use Rattle.rules.specs.Keeper.{lists, State}
use Rattle.tables.specs.declared.Tables.{Tables}
use Rattle.tables.specs.Tables.{lay, smallest}
use Rattle.bench.specs.Case.{Step, key, ask, many, chain, noted, mark, clock, written, Case, Printed, Bench}

-- a case that starts with the smallest tables, as `sheet` does
abbrev case : List Step → Case
case ss = record { start = smallest; steps = ss }

-- a line that is done with value v; one that makes its caller wait; one that is refused
abbrev ok : String → ℕ → Step
ok s v = key s 0 (v ∷ [])

abbrev waits : String → ℕ → Step
waits s v = key s 1 (v ∷ [])

abbrev told : String → ℕ → Step
told s a = key s a (0 ∷ [])

-- program A, of priority 10, is the running one, at a clock that started in a year, or in the usual one
abbrev running_from : ℕ → ℕ → State lists
running_from y c = record {
  book = put 1 (in_state 1 Nothing (newcomer (text "A    ") 10)) (with_clock c (fresh_book 4 1 1 y));
  kept = [] ∷ (1 ∷ []) ∷ [] ∷ [] ∷ [] ∷ [] ∷ [] ∷ [];
}

abbrev a_running : ℕ → State lists
a_running c = running_from 1975 c

-- the same with a link that leads from A to A
abbrev circular : Tables
circular = record { ledger = (lay (a_running 0)).ledger; links = set (lay (a_running 0)).links 8 1 }

abbrev worked_page : String
worked_page = "page=rte2\nclock=0\ntracks=4\nsystem=1\nnumbers=1\nprograms=1\nid=1\nname=WHZAT\npriority=10\nstate=1\nwhy=-\ndue=-\ninterval=-\nchain1=1\nchain3=\nchain5=\nchain6=\nheld=1-2:1\nend=page\n"

-- the worked example, then bench 1 and 11
abbrev bench1 : Case
bench1 = case (
    ok "FRESH,4,1,1" 0 ∷ ok "LOAD,WHZAT,10" 1 ∷ ok "RU,WHZAT" 0 ∷ ok "EXEC,4,2,0" 1 ∷ written 169 0 (169 ∷ []) (text worked_page)
    ∷ written 168 12 (169 ∷ []) (replicate 168 0) ∷ written 171 0 (169 ∷ []) (text worked_page ++ (0 ∷ 0 ∷ []))
    ∷ told "EXEC,4,2,1" 8 ∷ ok "EXEC,4,1,1" 3 ∷ [])

abbrev bench2 : Case
bench2 = case (ok "FRESH,256,1,0" 0 ∷ ok "LOAD,A,10" 1 ∷ ok "RU,A" 0 ∷ told "EXEC,4,257,1" 3 ∷ told "EXEC,4,256,1" 8 ∷ [])

abbrev bench3 : Case
bench3 = case (
    ok "FRESH,4,1,1" 0 ∷ ok "LOAD,A,10" 1 ∷ ok "LOAD,B,10" 2 ∷ ok "RU,B" 0 ∷ ok "RU,A" 0 ∷ chain 1 (2 ∷ 1 ∷ [])
    ∷ ok "PR,B,10" 10 ∷ chain 1 (1 ∷ 2 ∷ []) ∷ [])

abbrev bench4 : Case
bench4 = case (ok "FRESH,4,1,1" 0 ∷ ok "LOAD,A,10" 1 ∷ ok "RU,A" 0 ∷ key "EXEC,9,A" 5 (1 ∷ []) ∷ chain 1 (1 ∷ []) ∷ [])

abbrev bench5 : Case
bench5 = case (
    ok "FRESH,4,1,1" 0 ∷ ok "LOAD,A,10" 1 ∷ ok "LOAD,B,10" 2 ∷ ok "RU,A" 0 ∷ waits "EXEC,9,B" 3 ∷ chain 1 (2 ∷ []) ∷ noted 1 3 2 0 0
    ∷ ok "OF,B,8" 0 ∷ chain 1 (1 ∷ []) ∷ noted 1 1 0 0 0 ∷ told "RU,B" 4 ∷ ok "LOAD,B,7" 2 ∷ [])

abbrev bench6 : Case
bench6 = case (told "EXEC,6" 2 ∷ [])

abbrev bench7 : Case
bench7 = case (ok "FRESH,4,1,1" 0 ∷ ok "LOAD,A,10" 1 ∷ ok "RU,A" 0 ∷ told "EXEC,5,0,1" 3 ∷ ok "EXEC,5,ALL" 0 ∷ [])

abbrev bench8 : Case
bench8 = record {
  start = lay (a_running 8_639_999);
  steps =
      key "EXEC,11" 0 (1975 ∷ 1 ∷ 23 ∷ 59 ∷ 59 ∷ 99 ∷ []) ∷ ok "TICK" 0 ∷ clock 8_640_000 ∷ key "EXEC,11" 0 (1975 ∷ 2 ∷ 0 ∷ 0 ∷ 0 ∷ 0 ∷ [])
      ∷ [];
}

abbrev bench9 : Case
bench9 = case (
    ok "FRESH,4,1,1" 0 ∷ ok "LOAD,A,10" 1 ∷ ok "RU,A" 0 ∷ ok "EXEC,12,A,3,0,7" 42_000 ∷ noted 1 1 0 42_000 0 ∷ ok "EXEC,12,A,3,0,1" 6_000
    ∷ noted 1 1 0 6_000 0 ∷ [])

abbrev bench10 : Case
bench10 = case (
    ok "LOAD,A,10" 1 ∷ ok "PR,A,32767" 10 ∷ told "PR,A,32768" 3 ∷ told "PR,A,0" 3 ∷ [])

-- errors a good programmer makes: a woken program put before its equals
abbrev behind_equals : Case
behind_equals = case (
    ok "FRESH,4,0,0" 0 ∷ ok "LOAD,A,10" 1 ∷ ok "LOAD,B,10" 2 ∷ ok "LOAD,C,10" 3 ∷ ok "RU,A" 0 ∷ ok "EXEC,4,4,0" 0 ∷ ok "SS,A" 0
    ∷ ok "RU,B" 0 ∷ waits "EXEC,4,1,0" 5 ∷ ok "GO,A" 0 ∷ ok "RU,C" 0 ∷ ok "EXEC,5,ALL" 4 ∷ chain 1 (1 ∷ 3 ∷ 2 ∷ []) ∷ chain 5 [] ∷ [])

-- a run found by adding up free tracks that do not touch
abbrev gap : Case
gap = case (
    ok "FRESH,3,0,0" 0 ∷ ok "LOAD,A,10" 1 ∷ ok "RU,A" 0 ∷ ok "EXEC,4,3,0" 0 ∷ ok "EXEC,5,1,0" 1 ∷ ok "EXEC,5,1,2" 1
    ∷ told "EXEC,4,2,1" 8 ∷ ok "EXEC,4,1,1" 0 ∷ ok "EXEC,15,1,1" 2 ∷ [])

-- a timer of a waiting program left at its old due; a timer that fires once goes
abbrev moved_on : Case
moved_on = case (
    ok "FRESH,2,2,0" 0 ∷ ok "LOAD,A,1" 1 ∷ ok "LOAD,B,5" 2 ∷ ok "RU,A" 0 ∷ ok "EXEC,12,A,1,3,1" 1 ∷ ok "EXEC,12,B,1,0,2" 2
    ∷ waits "EXEC,4,1,0" 5 ∷ ok "TICK" 0 ∷ noted 1 5 0 4 3 ∷ ok "TICK" 1 ∷ noted 2 1 0 0 0 ∷ ok "TICK" 0 ∷ ok "TICK" 0
    ∷ noted 1 5 0 7 3 ∷ [])

-- a removed program's number left in a waiter's why, then met by the next program loaded there
abbrev removed_son : Case
removed_son = case (
    ok "FRESH,1,0,0" 0 ∷ ok "LOAD,A,10" 1 ∷ ok "LOAD,B,10" 2 ∷ ok "RU,A" 0 ∷ waits "EXEC,9,B" 3 ∷ ok "OF,B,8" 0 ∷ noted 1 1 0 0 0
    ∷ ok "LOAD,C,10" 2 ∷ ok "RU,C" 0 ∷ chain 1 (1 ∷ 2 ∷ []) ∷ ok "OF,C,1" 0 ∷ chain 1 (1 ∷ []) ∷ [])

-- chain 3 is walked while it changes: all three wake, in chain order
abbrev all_wake : Case
all_wake = case (
    ok "FRESH,1,0,2" 0 ∷ ok "LOAD,H,10" 1 ∷ ok "LOAD,B,10" 2 ∷ ok "LOAD,C,10" 3 ∷ ok "LOAD,D,10" 4 ∷ ok "RU,H" 0 ∷ ok "RN,ALLOC,G,0" 1
    ∷ ok "RN,LOCK,1,0" 1 ∷ ok "SS,H" 0 ∷ ok "RU,B" 0 ∷ waits "RN,LOCK,1,0" 3 ∷ ok "RU,C" 0 ∷ waits "RN,LOCK,1,0" 3 ∷ ok "RU,D" 0
    ∷ waits "RN,LOCK,1,0" 3 ∷ chain 3 (2 ∷ 3 ∷ 4 ∷ []) ∷ ok "GO,H" 0 ∷ ok "RN,CLEAR,1" 3 ∷ chain 1 (1 ∷ 2 ∷ 3 ∷ 4 ∷ []) ∷ chain 3 [] ∷ [])

-- one walk of chain 3, not one for sons, one for locks and one for numbers
abbrev one_walk : Case
one_walk = case (
    ok "FRESH,1,0,1" 0 ∷ ok "LOAD,F,10" 1 ∷ ok "LOAD,H,10" 2 ∷ ok "LOAD,N,10" 3 ∷ ok "LOAD,L,10" 4 ∷ ok "RU,F" 0 ∷ waits "EXEC,9,H" 3
    ∷ ok "RN,ALLOC,L,0" 1 ∷ ok "RN,LOCK,1,0" 1 ∷ ok "SS,H" 0 ∷ ok "RU,N" 0 ∷ waits "RN,ALLOC,L,0" 3 ∷ ok "RU,L" 0 ∷ waits "RN,LOCK,1,0" 3
    ∷ chain 3 (1 ∷ 3 ∷ 4 ∷ []) ∷ ok "GO,H" 0 ∷ ok "EXEC,6" 3 ∷ chain 1 (1 ∷ 3 ∷ 4 ∷ []) ∷ [])

-- chain 5 wakes before chain 3
abbrev disc_first : Case
disc_first = case (
    ok "FRESH,1,0,0" 0 ∷ ok "LOAD,F,10" 1 ∷ ok "LOAD,H,10" 2 ∷ ok "LOAD,W,10" 3 ∷ ok "RU,F" 0 ∷ waits "EXEC,9,H" 3 ∷ ok "EXEC,4,1,0" 0
    ∷ ok "SS,H" 0 ∷ ok "RU,W" 0 ∷ waits "EXEC,4,1,0" 5 ∷ ok "OF,H,1" 1 ∷ chain 1 (3 ∷ 1 ∷ []) ∷ [])

-- the ended program is not woken by its own tracks
abbrev not_itself : Case
not_itself = case (
    ok "FRESH,2,0,0" 0 ∷ ok "LOAD,A,10" 1 ∷ ok "RU,A" 0 ∷ ok "EXEC,4,1,0" 0 ∷ waits "EXEC,4,2,0" 5 ∷ ok "OF,A,1" 1 ∷ chain 1 [] ∷ chain 5 []
    ∷ noted 1 0 0 0 0 ∷ [])

-- another's lock on a deallocated number goes
abbrev lock_goes : Case
lock_goes = case (
    ok "FRESH,1,0,1" 0 ∷ ok "LOAD,A,10" 1 ∷ ok "LOAD,B,10" 2 ∷ ok "RU,A" 0 ∷ ok "RN,ALLOC,L,0" 1 ∷ ok "SS,A" 0 ∷ ok "RU,B" 0
    ∷ ok "RN,LOCK,1,0" 1 ∷ ok "OF,A,1" 0 ∷ told "RN,CLEAR,1" 10 ∷ ok "RN,ALLOC,L,0" 1 ∷ [])

-- a lock on another's number is cleared by its holder's ending, and its waiter wakes
abbrev locker_ends : Case
locker_ends = case (
    ok "FRESH,1,0,1" 0 ∷ ok "LOAD,A,10" 1 ∷ ok "LOAD,B,10" 2 ∷ ok "LOAD,C,10" 3 ∷ ok "RU,A" 0 ∷ ok "RN,ALLOC,L,0" 1 ∷ ok "SS,A" 0
    ∷ ok "RU,B" 0 ∷ ok "RN,LOCK,1,0" 1 ∷ ok "SS,B" 0 ∷ ok "RU,C" 0 ∷ waits "RN,LOCK,1,0" 3 ∷ ok "OF,B,1" 0 ∷ chain 1 (3 ∷ []) ∷ [])

-- who waits for any number does not wake where a number is only cleared
abbrev only_cleared : Case
only_cleared = case (
    ok "FRESH,1,0,1" 0 ∷ ok "LOAD,A,10" 1 ∷ ok "LOAD,B,10" 2 ∷ ok "RU,A" 0 ∷ ok "RN,ALLOC,G,0" 1 ∷ ok "RN,LOCK,1,0" 1 ∷ ok "SS,A" 0
    ∷ ok "RU,B" 0 ∷ waits "RN,ALLOC,L,0" 3 ∷ ok "GO,A" 0 ∷ ok "RN,CLEAR,1" 0 ∷ chain 3 (2 ∷ []) ∷ ok "RN,LOCK,1,0" 1 ∷ ok "OF,A,1" 0
    ∷ chain 3 (2 ∷ []) ∷ [])

-- EXEC 6 keeps tracks and timer; OF of the dormant program frees them
abbrev kept : Case
kept = case (
    ok "FRESH,2,0,0" 0 ∷ ok "LOAD,A,10" 1 ∷ ok "RU,A" 0 ∷ ok "EXEC,4,2,0" 0 ∷ ok "EXEC,12,A,1,0,9" 9 ∷ ok "EXEC,6" 0 ∷ noted 1 0 0 9 0
    ∷ ok "OF,A,1" 2 ∷ noted 1 0 0 0 0 ∷ [])

-- PR enters every chain anew, even for the same number
abbrev priced_anew : Case
priced_anew = case (
    ok "FRESH,1,1,0" 0 ∷ ok "LOAD,A,10" 1 ∷ ok "LOAD,B,10" 2 ∷ ok "RU,A" 0 ∷ waits "EXEC,4,1,0" 5 ∷ ok "RU,B" 0 ∷ waits "EXEC,4,1,0" 5
    ∷ chain 5 (1 ∷ 2 ∷ []) ∷ ok "PR,A,10" 10 ∷ chain 5 (2 ∷ 1 ∷ []) ∷ ok "LOAD,C,10" 3 ∷ ok "LOAD,D,10" 4 ∷ ok "RU,C" 0 ∷ ok "SS,C" 0
    ∷ ok "RU,D" 0 ∷ ok "SS,D" 0 ∷ chain 6 (3 ∷ 4 ∷ []) ∷ ok "PR,C,10" 10 ∷ chain 6 (4 ∷ 3 ∷ []) ∷ [])

-- timers due at one tick: by program number
abbrev by_number : Case
by_number = case (
    ok "FRESH,1,0,0" 0 ∷ ok "LOAD,A,10" 1 ∷ ok "LOAD,B,10" 2 ∷ ok "LOAD,C,5" 3 ∷ ok "RU,C" 0 ∷ ok "EXEC,12,B,1,0,2" 2
    ∷ ok "EXEC,12,A,1,0,2" 2 ∷ ok "TICK" 0 ∷ ok "TICK" 2 ∷ chain 1 (3 ∷ 1 ∷ 2 ∷ []) ∷ [])

-- numbers of ten digits are taken whole; eleven are not understood; sums of large parameters do not wrap
abbrev large_numbers : Case
large_numbers = case (
    ok "LOAD,A,10" 1 ∷ ok "RU,A" 0 ∷ told "OF,A,4294967297" 3 ∷ told "EXEC,4294967300" 13 ∷ told "EXEC,4,9999999999,0" 3
    ∷ told "EXEC,4,10000000000,0" 13 ∷ told "EXEC,4,01,0" 13
    ∷ ask (running (EXEC5 18_446_744_073_709_551_615 18_446_744_073_709_551_615)) 3 (0 ∷ []) ∷ [])

-- tables whose links go round in a circle: 14 for any request, and the tables stay
abbrev not_sound : Case
not_sound =
    record { start = circular; steps = told "TICK" 14 ∷ told "TICK,3" 14 ∷ told "TICK,0" 14 ∷ told "FRESH,4,1,1" 14 ∷ told "no such line" 14 ∷ told "PAGE" 14 ∷ clock 0 ∷ [] }

-- EXEC 11 needs a caller; EXEC 7 is done with value 0
abbrev needs_caller : Case
needs_caller = case
    (told "EXEC,11" 2 ∷ told "EXEC,8" 13 ∷ told "EXEC,4,0,9" 2 ∷ ok "LOAD,A,10" 1 ∷ ok "RU,A" 0 ∷ ok "EXEC,7" 0 ∷ chain 6 (1 ∷ []) ∷ [])

-- 5 gives the named program's state
abbrev wrong_state : Case
wrong_state = case (
    ok "FRESH,1,1,0" 0 ∷ ok "LOAD,A,10" 1 ∷ ok "LOAD,B,10" 2 ∷ ok "LOAD,C,20" 3 ∷ ok "RU,A" 0 ∷ waits "EXEC,4,1,0" 5 ∷ ok "RU,C" 0
    ∷ key "EXEC,9,A" 5 (5 ∷ []) ∷ waits "EXEC,9,B" 3 ∷ key "EXEC,9,C" 5 (3 ∷ []) ∷ key "GO,B" 5 (1 ∷ []) ∷ key "RU,C" 5 (3 ∷ [])
    ∷ ok "SS,B" 0 ∷ key "SS,B" 5 (6 ∷ []) ∷ ok "LOAD,D,1" 4 ∷ key "SS,D" 5 (0 ∷ []) ∷ [])

-- SS of a program that waits (request (ii)). One of three equals waits marked for tracks: it goes behind its equal in chain 6
abbrev held_tracks : Case
held_tracks = case (
    ok "FRESH,2,0,0" 0 ∷ ok "LOAD,H,10" 1 ∷ ok "LOAD,A,10" 2 ∷ ok "LOAD,B,10" 3 ∷ ok "LOAD,C,10" 4 ∷ ok "LOAD,Z,10" 5 ∷ ok "RU,Z" 0 ∷ ok "SS,Z" 0
    ∷ ok "RU,H" 0 ∷ ok "EXEC,4,2,0" 0 ∷ ok "SS,H" 0 ∷ ok "RU,A" 0 ∷ waits "EXEC,4,1,0" 5 ∷ ok "RU,B" 0 ∷ waits "EXEC,4,1,0" 5 ∷ ok "RU,C" 0
    ∷ waits "EXEC,4,1,0" 5 ∷ mark 3 false ∷ ok "SS,B" 0 ∷ mark 3 true ∷ ok "SS,B" 0 ∷ mark 3 true ∷ key "GO,B" 5 (5 ∷ [])
    ∷ chain 5 (2 ∷ 3 ∷ 4 ∷ []) ∷ ok "GO,H" 0 ∷ ok "EXEC,5,ALL" 2 ∷ chain 1 (1 ∷ 2 ∷ 4 ∷ []) ∷ chain 5 [] ∷ chain 6 (5 ∷ 3 ∷ [])
    ∷ noted 3 6 0 0 0 ∷ mark 3 false ∷ ok "GO,B" 0 ∷ chain 1 (1 ∷ 2 ∷ 4 ∷ 3 ∷ []) ∷ [])

-- the same for a son, for any number and for a lock: who is marked goes to chain 6, and is counted with the others
abbrev held_walk : String → List ℕ → List ℕ → Case
held_walk ss one six = case (
    ok "FRESH,1,0,1" 0 ∷ ok "LOAD,F,10" 1 ∷ ok "LOAD,H,10" 2 ∷ ok "LOAD,N,10" 3 ∷ ok "LOAD,L,10" 4 ∷ ok "RU,F" 0 ∷ waits "EXEC,9,H" 3
    ∷ ok "RN,ALLOC,L,0" 1 ∷ ok "RN,LOCK,1,0" 1 ∷ ok "SS,H" 0 ∷ ok "RU,N" 0 ∷ waits "RN,ALLOC,L,0" 3 ∷ ok "RU,L" 0 ∷ waits "RN,LOCK,1,0" 3
    ∷ ok ss 0 ∷ chain 3 (1 ∷ 3 ∷ 4 ∷ []) ∷ ok "GO,H" 0 ∷ ok "EXEC,6" 3 ∷ chain 1 one ∷ chain 3 [] ∷ chain 6 six ∷ [])

abbrev held_son : Case
held_son = held_walk "SS,F" (3 ∷ 4 ∷ []) (1 ∷ [])

abbrev held_number : Case
held_number = held_walk "SS,N" (1 ∷ 4 ∷ []) (3 ∷ [])

abbrev held_lock : Case
held_lock = held_walk "SS,L" (1 ∷ 3 ∷ []) (4 ∷ [])

-- a lock cleared, with one of three marked; and a number freed
abbrev held_clear : Case
held_clear = case (
    ok "FRESH,1,0,2" 0 ∷ ok "LOAD,H,10" 1 ∷ ok "LOAD,B,10" 2 ∷ ok "LOAD,C,10" 3 ∷ ok "LOAD,D,10" 4 ∷ ok "RU,H" 0 ∷ ok "RN,ALLOC,G,0" 1
    ∷ ok "RN,LOCK,1,0" 1 ∷ ok "SS,H" 0 ∷ ok "RU,B" 0 ∷ waits "RN,LOCK,1,0" 3 ∷ ok "RU,C" 0 ∷ waits "RN,LOCK,1,0" 3 ∷ ok "RU,D" 0
    ∷ waits "RN,LOCK,1,0" 3 ∷ ok "SS,C" 0 ∷ ok "GO,H" 0 ∷ ok "RN,CLEAR,1" 3 ∷ chain 1 (1 ∷ 2 ∷ 4 ∷ []) ∷ chain 3 [] ∷ chain 6 (3 ∷ []) ∷ mark 3 false
    ∷ [])

abbrev held_free : Case
held_free = case (
    ok "FRESH,1,0,1" 0 ∷ ok "LOAD,H,10" 1 ∷ ok "LOAD,B,10" 2 ∷ ok "LOAD,C,10" 3 ∷ ok "RU,H" 0 ∷ ok "RN,ALLOC,G,0" 1 ∷ ok "SS,H" 0 ∷ ok "RU,B" 0
    ∷ waits "RN,ALLOC,L,0" 3 ∷ ok "RU,C" 0 ∷ waits "RN,ALLOC,L,0" 3 ∷ ok "SS,B" 0 ∷ ok "GO,H" 0 ∷ ok "RN,FREE,1" 2 ∷ chain 1 (1 ∷ 3 ∷ [])
    ∷ chain 6 (2 ∷ []) ∷ [])

-- PR, TICK and EXEC 12 leave the mark
abbrev mark_stays : Case
mark_stays = case (
    ok "FRESH,1,1,0" 0 ∷ ok "LOAD,A,10" 1 ∷ ok "LOAD,B,10" 2 ∷ ok "RU,A" 0 ∷ waits "EXEC,4,1,0" 5 ∷ ok "SS,A" 0 ∷ ok "PR,A,5" 10 ∷ mark 1 true
    ∷ ok "RU,B" 0 ∷ ok "EXEC,12,A,1,2,1" 1 ∷ mark 1 true ∷ ok "TICK" 0 ∷ noted 1 5 0 3 2 ∷ mark 1 true ∷ chain 5 (1 ∷ []) ∷ [])

-- ending takes it away, and the next program loaded in the record does not meet it
abbrev mark_goes : Case
mark_goes = case (
    ok "FRESH,1,1,0" 0 ∷ ok "LOAD,A,10" 1 ∷ ok "RU,A" 0 ∷ waits "EXEC,4,1,0" 5 ∷ ok "SS,A" 0 ∷ ok "OF,A,1" 0 ∷ mark 1 false ∷ ok "RU,A" 0
    ∷ waits "EXEC,4,1,0" 5 ∷ mark 1 false ∷ ok "SS,A" 0 ∷ ok "OF,A,8" 0 ∷ mark 1 false ∷ ok "LOAD,B,10" 1 ∷ ok "RU,B" 0
    ∷ waits "EXEC,4,1,0" 5 ∷ mark 1 false ∷ [])

-- many ticks at once (request (iii)): what `moved_on` and `by_number` show tick by tick
abbrev moved_far : Case
moved_far = case (
    ok "FRESH,2,2,0" 0 ∷ ok "LOAD,A,1" 1 ∷ ok "LOAD,B,5" 2 ∷ ok "RU,A" 0 ∷ ok "EXEC,12,A,1,3,1" 1 ∷ ok "EXEC,12,B,1,0,2" 2
    ∷ waits "EXEC,4,1,0" 5 ∷ ok "TICK,4" 1 ∷ clock 4 ∷ noted 1 5 0 7 3 ∷ noted 2 1 0 0 0 ∷ ok "TICK,2" 0 ∷ noted 1 5 0 7 3
    ∷ ok "TICK,1" 0 ∷ noted 1 5 0 10 3 ∷ clock 7 ∷ [])

abbrev by_number_at_once : Case
by_number_at_once = case (
    ok "FRESH,1,0,0" 0 ∷ ok "LOAD,A,10" 1 ∷ ok "LOAD,B,10" 2 ∷ ok "LOAD,C,5" 3 ∷ ok "RU,C" 0 ∷ ok "EXEC,12,B,1,0,2" 2
    ∷ ok "EXEC,12,A,1,0,2" 2 ∷ ok "TICK,2" 2 ∷ chain 1 (3 ∷ 1 ∷ 2 ∷ []) ∷ [])

-- across moments by due, and not by number
abbrev by_due : Case
by_due = case (
    ok "FRESH,1,0,0" 0 ∷ ok "LOAD,A,10" 1 ∷ ok "LOAD,B,10" 2 ∷ ok "LOAD,C,5" 3 ∷ ok "RU,C" 0 ∷ ok "EXEC,12,A,1,0,3" 3
    ∷ ok "EXEC,12,B,1,0,1" 1 ∷ ok "TICK,3" 2 ∷ chain 1 (3 ∷ 2 ∷ 1 ∷ []) ∷ [])

-- a program is started once, though its timer falls due again; a timer that runs once is spent on a program that is not dormant
abbrev started_once : Case
started_once = case (
    ok "FRESH,1,0,0" 0 ∷ ok "LOAD,A,10" 1 ∷ ok "LOAD,C,5" 2 ∷ ok "RU,C" 0 ∷ ok "EXEC,12,A,1,2,1" 1 ∷ ok "EXEC,12,C,1,0,3" 3
    ∷ ok "TICK,6" 1 ∷ noted 1 1 0 7 2 ∷ noted 2 1 0 0 0 ∷ chain 1 (2 ∷ 1 ∷ []) ∷ [])

-- refused as a whole: 13 before 3 before 11, and nothing is ticked; as a call, too
abbrev too_many : Case
too_many = record {
  start = lay (a_running 999_999_999_998);
  steps =
      told "TICK,3" 11 ∷ told "TICK,0" 3 ∷ told "TICK,100000001" 3 ∷ told "TICK,4294967297" 3 ∷ told "TICK,9999999999" 3 ∷ told "TICK,100000000" 11
      ∷ told "TICK," 13 ∷ told "TICK,01" 13 ∷ told "TICK,1,1" 13 ∷ told "TICK,10000000000" 13 ∷ told "TICK,A" 13 ∷ clock 999_999_999_998
      ∷ many 3 11 (0 ∷ []) ∷ many 0 3 (0 ∷ []) ∷ many 18_446_744_073_709_551_615 3 (0 ∷ []) ∷ many 1 0 (0 ∷ [])
      ∷ ok "TICK,1" 0 ∷ clock 1_000_000_000_000 ∷ told "TICK,1" 11 ∷ told "TICK,0" 3 ∷ told "TICK" 11 ∷ [];
}

-- the time from a start year at a clock, and a tick later
abbrev turn : ℕ → ℕ → List ℕ → List ℕ → Case
turn y c now then =
    record { start = lay (running_from y c); steps = key "EXEC,11" 0 now ∷ ok "TICK" 0 ∷ clock (c + 1) ∷ key "EXEC,11" 0 then ∷ [] }

-- the last hundredth of a day, and midnight
abbrev last : ℕ → ℕ → List ℕ
last y d = y ∷ d ∷ 23 ∷ 59 ∷ 59 ∷ 99 ∷ []

abbrev midnight : ℕ → ℕ → List ℕ
midnight y d = y ∷ d ∷ 0 ∷ 0 ∷ 0 ∷ 0 ∷ []

-- the turns of days and years: 1976, 2000 and 2400 have a day 366, and 1975 and 2100 have none; the last time of all
abbrev turns : List Case
turns =
    turn 1976 3_153_599_999 (last 1976 365) (midnight 1976 366)
    ∷ turn 1976 3_162_239_999 (last 1976 366) (midnight 1977 1)
    ∷ turn 1975 3_153_599_999 (last 1975 365) (midnight 1976 1)
    ∷ turn 1999 3_153_599_999 (last 1999 365) (midnight 2000 1)
    ∷ turn 1999 6_307_199_999 (last 2000 365) (midnight 2000 366)
    ∷ turn 1999 6_315_839_999 (last 2000 366) (midnight 2001 1)
    ∷ turn 2099 3_153_599_999 (last 2099 365) (midnight 2100 1)
    ∷ turn 2099 6_307_199_999 (last 2100 365) (midnight 2101 1)
    ∷ turn 2099 953_009_279_999 (last 2400 365) (midnight 2400 366)
    ∷ turn 2099 953_017_919_999 (last 2400 366) (midnight 2401 1)
    ∷ turn 2099 999_999_999_999 (2415 ∷ 325 ∷ 17 ∷ 46 ∷ 39 ∷ 99 ∷ []) (2415 ∷ 325 ∷ 17 ∷ 46 ∷ 40 ∷ 0 ∷ [])
    ∷ []

-- a start year: its bounds, what is no number or one too many, and 65,536 years too many
abbrev years : Case
years = case (
    told "FRESH,4,1,1,0" 3 ∷ told "FRESH,4,1,1,1969" 3 ∷ told "FRESH,4,1,1,2100" 3 ∷ told "FRESH,4,1,1,67511" 3 ∷ told "FRESH,4,1,1,9999999999" 3
    ∷ told "FRESH,4,1,1," 13 ∷ told "FRESH,4,1,1,A" 13 ∷ told "FRESH,4,1,1,01976" 13 ∷ told "FRESH,4,1,1,1976,1" 13 ∷ told "FRESH,4,1,1,19760000000" 13
    ∷ told "FRESH,4,5,1,1976" 3 ∷ ok "FRESH,4,1,1,1970" 0 ∷ ok "LOAD,A,10" 1 ∷ ok "RU,A" 0 ∷ key "EXEC,11" 0 (midnight 1970 1)
    ∷ told "FRESH,4,1,1,2100" 3 ∷ key "EXEC,11" 0 (midnight 1970 1) ∷ ok "FRESH,4,1,1,2099" 0 ∷ ok "LOAD,A,10" 1 ∷ ok "RU,A" 0
    ∷ key "EXEC,11" 0 (midnight 2099 1) ∷ ok "FRESH,4,1,1" 0 ∷ ok "LOAD,A,10" 1 ∷ ok "RU,A" 0 ∷ key "EXEC,11" 0 (midnight 1975 1) ∷ [])

-- on the page it stands behind the clock, unless it is 1975
abbrev dated_page : Case
dated_page = case (
    ok "FRESH,1,0,0,2001" 0 ∷ written 108 0 (108 ∷ []) (text "page=rte2\nclock=0\nyear=2001\ntracks=1\nsystem=0\nnumbers=0\nprograms=0\nchain1=\nchain3=\nchain5=\nchain6=\nend=page\n")
    ∷ ok "FRESH,1,0,0,1975" 0 ∷ written 98 0 (98 ∷ []) (text "page=rte2\nclock=0\ntracks=1\nsystem=0\nnumbers=0\nprograms=0\nchain1=\nchain3=\nchain5=\nchain6=\nend=page\n") ∷ [])

-- a refused FRESH keeps the tables; an accepted one begins anew
abbrev refused_fresh : Case
refused_fresh = case (
    ok "LOAD,A,10" 1 ∷ told "FRESH,0,0,0" 3 ∷ told "FRESH,4,5,1" 3 ∷ told "FRESH,4,1,17" 3 ∷ told "FRESH,4,1" 13 ∷ ok "RU,A" 0
    ∷ ok "FRESH,4,4,16" 0 ∷ told "RU,A" 4 ∷ [])

-- a program run at equal priority is not made the caller
abbrev not_the_caller : Case
not_the_caller =
    case (ok "LOAD,A,10" 1 ∷ ok "LOAD,B,10" 2 ∷ ok "RU,A" 0 ∷ ok "RU,B" 0 ∷ ok "EXEC,7" 0 ∷ chain 1 (2 ∷ []) ∷ chain 6 (1 ∷ []) ∷ [])

-- a woken father of a better priority makes the next call
abbrev father_next : Case
father_next = case (
    ok "LOAD,F,1" 1 ∷ ok "LOAD,S,10" 2 ∷ ok "LOAD,Z,10" 3 ∷ ok "RU,F" 0 ∷ waits "EXEC,9,S" 3 ∷ ok "RU,Z" 0 ∷ ok "EXEC,6" 1 ∷ ok "EXEC,7" 0
    ∷ chain 1 (3 ∷ []) ∷ chain 6 (1 ∷ []) ∷ [])

-- the worked example as `sheet` prints it; no text, an empty line, a line without its byte 10, one too long, a time
abbrev sheets : List Printed
sheets =
    record {
      typed = "FRESH,4,1,1\nLOAD,WHZAT,10\nRU,WHZAT\nEXEC,4,2,0\nPAGE\n";
      prints = text "answer=0,value=0\nanswer=0,value=1\nanswer=0,value=0\nanswer=0,value=1\n" ++ text worked_page;
    }
    ∷ record { typed = ""; prints = [] }
    ∷ record { typed = "\n"; prints = text "answer=13,value=0\n" }
    ∷ record { typed = "LOAD,A,0\nRU,A\nEXEC,11"; prints = text "answer=0,value=1\nanswer=0,value=0\nanswer=0,value=1975.1.0.0.0.0\n" }
    ∷ record {
      typed = "AAAAAAAAAAAAAAAAAAAAAAAAAAAAAAAAAAAAAAAAAAAAAAAAAAAAAAAAAAAAAAAAAAAAAAAAAAAAAAAAAAAAAAAAAAAA\nLOAD,A,0\r\n";
      prints = text "answer=13,value=0\nanswer=13,value=0\n";
    }
    ∷ []

unfoldable pub bench : Bench
bench = record {
  cases =
      bench1 ∷ bench2 ∷ bench3 ∷ bench4 ∷ bench5 ∷ bench6 ∷ bench7 ∷ bench8 ∷ bench9 ∷ bench10 ∷ behind_equals ∷ gap ∷ moved_on
      ∷ removed_son ∷ all_wake ∷ one_walk ∷ disc_first ∷ not_itself ∷ lock_goes ∷ locker_ends ∷ only_cleared ∷ kept ∷ priced_anew ∷ by_number
      ∷ large_numbers ∷ not_sound ∷ needs_caller ∷ wrong_state ∷ held_tracks ∷ held_son ∷ held_number ∷ held_lock ∷ held_clear
      ∷ held_free ∷ mark_stays ∷ mark_goes ∷ moved_far ∷ by_number_at_once ∷ by_due ∷ started_once ∷ too_many ∷ refused_fresh ∷ not_the_caller ∷ father_next
      ∷ years ∷ dated_page ∷ turns;
  sheets = sheets;
}
