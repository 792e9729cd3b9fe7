-- Whose record a request may alter (demand 3): its caller's, that of the program named in it, those due
-- at the tick, and those it wakes. Caller, named and due are told from the request and the state before,
-- woken from what the plan sets free and the state before. Where nothing happens nobody is concerned.
-- Assumes nothing.
use Rattle.std.specs.Prelude.{ℕ, ◌≤◌, ◌≡◌, ◌≢◌, true, List, []}
use Rattle.limits.specs.Limits.{scheduled, general, disc}
use Rattle.lists.specs.Lists.{count}
use Rattle.records.specs.declared.Program.{Program}
use Rattle.records.specs.Records.{Known, find, lowest_unused, wait_over}
use Rattle.rules.specs.Book.{why_of}
use Rattle.rules.specs.Requests.{Order, Call, EXEC9, EXEC10, EXEC12, Request, FRESH, LOAD, operator, TICK, running}
use Rattle.rules.specs.Plans.{Release, View, awaits, events_of, release_of}
use Rattle.rules.specs.Rules.{due_at, head, plan}

-- Program x has to do with a request: its caller, named in it (LOAD names the record that takes the name), or due at that tick.
pub data Party (v : View) (x : ℕ) : Request → Type 0 where
  calls : (c : Call) → head (v.chain scheduled) ≡ x → Party v x (running c)
  takes-name : (nm : List ℕ) (n : ℕ) → lowest_unused v.book.programs ≡ x → Party v x (LOAD nm n)
  ordered : (o : Order) (nm : List ℕ) → find v.book.programs nm ≡ x → Party v x (operator o nm)
  son : (nm : List ℕ) → find v.book.programs nm ≡ x → Party v x (running (EXEC9 nm))
  started : (nm : List ℕ) → find v.book.programs nm ≡ x → Party v x (running (EXEC10 nm))
  timed : (nm : List ℕ) (r m o : ℕ) → find v.book.programs nm ≡ x → Party v x (running (EXEC12 nm r m o))
  due : Known x → due_at v.book x ≡ true → Party v x TICK

-- a program that waits, and whose reason to wait is gone
pub data Woken (v : View) (R : Release) (x : ℕ) : Type 0 where
  tracks-freed : 1 ≤ R.tracks → 1 ≤ count x (v.chain disc) → Woken v R x
  reason-gone : awaits R (why_of v.book x) ≡ true → 1 ≤ count x (v.chain general) → Woken v R x

-- The programs that a request concerns: where something happens, those that have
-- to do with it, or all if it is FRESH; and those whom what it sets free wakes.
pub data Concerned (v : View) (q : Request) (x : ℕ) : Type 0 where
  party : events_of v (plan v q) ≢ [] → Party v x q → Concerned v q x
  anew : events_of v (plan v q) ≢ [] → (T S R Y : ℕ) → q ≡ FRESH T S R Y → Concerned v q x
  woken : Woken v (release_of (plan v q)) x → Concerned v q x

-- a record that stays, or whose program's wait is over
pub data Stirred (r s : Program) : Type 0 where
  stays : s ≡ r → Stirred r s
  wakes : s ≡ wait_over r → Stirred r s
