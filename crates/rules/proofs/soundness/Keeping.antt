-- The parts of which rules are made keep soundness, where what they lead to does: a test, a choice, a name looked up, a state asked for, a
-- wait. And so do the events that several rules share.
-- Assumes nothing.
use Prim.Native.Nat.{ℕ}
use native.Mathlib.Omega.{arith}
use mathlib.Core.Path.{◌≡◌}
use mathlib.Core.Logic.{◌≢◌}
use mathlib.Core.Bool.{true}
use mathlib.Core.List.{List, ◌∷◌}
use Rattle.records.specs.declared.Resource.{Resource}
use Rattle.records.specs.declared.Why.{Why}
use Rattle.records.specs.Records.{Known, find}
use Rattle.rules.specs.Book.{at, state_of}
use Rattle.rules.specs.Plans.{becomes, on, held, numbered, Plan, waiting, events_of, Release, woken, wake}
use Rattle.rules.specs.Rules.{named, waits, head, as_caller}
use Rattle.rules.specs.Keeper.{lists, State, step, play, view, scheduled_chain}
use Rattle.rules.specs.Sound.{Sound}
use Rattle.rules.proofs.shared.Finding.{find-bears, head_in}
use Rattle.rules.proofs.shared.Walk.{Refuses, by-named, by-caller, by-waits}
use Rattle.rules.proofs.soundness.Fine.{Slack, exact, alone, Uses, Tracked, Numbered, Fine, sound-fine, fine-sound}
use Rattle.rules.proofs.soundness.Apt.{fine-on, fine-held, fine-numbered}
use Rattle.rules.proofs.soundness.Making.{Childless, apt-plain}
use Rattle.rules.proofs.soundness.Waking.{Callable, fine-wake, chained, woken-callable}

-- a plan leaves the state sound
pub record Keeps (a : State lists) (x : Plan) : Type 0 where
  pub sound : Sound (play lists (events_of (view lists a) x) a)

-- the running program
pub record Caller (a : State lists) (p : ℕ) : Type 0 where
  pub known : Known p
  pub used : (at a.book p).used ≡ true
  pub runs : state_of a.book p ≡ 1

-- no slack, and its users are the used programs
abbrev pub strict : State lists → Slack
strict a = exact a.book.clock

abbrev pub InUse : State lists → ℕ → Type 0
InUse a = Uses 0 a.book.programs

-- the state before a request: it is sound, and so it is fine
module _ (a : State lists) (S : Sound a) where
  pub before : Fine (strict a) a
  before = sound-fine a S

  pub keeps : (x : Plan) → Fine (strict a) (play lists (events_of (view lists a) x) a) → Keeps a x
  keeps x F = record { sound = fine-sound a.book.clock (play lists (events_of (view lists a) x) a) F }

  -- where nothing happens
  pub refusing : Refuses (Keeps a)
  refusing = record { listed = λ n v l. record { sound = S } }

  pub keeps-named : (nm : List ℕ) (f : ℕ → Plan) → ((p : ℕ) → Callable a.book.programs p → Keeps a (f p))
      → Keeps a (named (view lists a) nm f)
  keeps-named nm f g = by-named refusing _ nm f λ h. let B = find-bears a.book.programs nm h in
      g (find a.book.programs nm) (B.known, B.used)

  pub keeps-caller : (f : ℕ → Plan) → ((p : ℕ) → Caller a p → Keeps a (f p)) → Keeps a (as_caller (view lists a) f)
  keeps-caller f g = by-caller refusing (view lists a) f λ h.
      let p : ℕ = head (scheduled_chain lists a) in
      let C = chained (strict a) a before 1 (omega arith) (omega arith) p (head_in (scheduled_chain lists a) h) in
      g p (record { known = C.0.0; used = C.0.1; runs = C.1 })

  -- a used program takes a state for a reason that is no son
  pub become-fine : (p : ℕ) → Callable a.book.programs p → (s : ℕ) (w : Why) → alone a.book.tracks a.book.numbers s w ≡ true
      → Childless w → s ≢ 0
      → Fine (strict a) (step lists (on p (becomes s w)) a)
  become-fine p P s w h f n =
      fine-on (strict a) p P.0 (becomes s w) a before (apt-plain (strict a) a before p P.0 P.1 s w h f (λ m v. n))

  pub keeps-waits : (p : ℕ) → Caller a p → (w s : ℕ) (y : Why) → alone a.book.tracks a.book.numbers s y ≡ true → Childless y → s ≢ 0
      → Keeps a (waits p w s y)
  keeps-waits p C w s y h f n = by-waits refusing p w s y (keeps (waiting s _) (become-fine p (C.known, C.used) s y h f n))

  -- tracks or a number pass to others, and programs wake
  pub held-wake : (xs : List ℕ) (R : Release) → Tracked (InUse a) a.book.tracks a.book.system xs
      → Fine (strict a) (play lists (held xs ∷ wake (woken (view lists a) R)) a)
  unfolding step
  held-wake xs R t =
      fine-wake (strict a) (woken (view lists a) R) (step lists (held xs) a) (fine-held (strict a) xs a before t)
      (woken-callable (strict a) a before R)

  pub numbered-wake : (xs : List Resource) (R : Release) → Numbered (InUse a) a.book.numbers xs
      → Fine (strict a) (play lists (numbered xs ∷ wake (woken (view lists a) R)) a)
  unfolding step
  numbered-wake xs R n =
      fine-wake (strict a) (woken (view lists a) R) (step lists (numbered xs) a) (fine-numbered (strict a) xs a before n)
      (woken-callable (strict a) a before R)
