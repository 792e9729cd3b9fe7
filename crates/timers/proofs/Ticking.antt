-- So many ticks, of which only the last starts anybody, are one move; and ticks may be made in parts. Sound states stay sound under them.
-- Assumes nothing.
use Prim.Native.Nat.{ℕ, zero, suc, ◌+◌, ◌-◌, ◌≤◌, ◌<◌}
use native.Mathlib.Omega.{arith}
use mathlib.Core.Path.{◌≡◌, refl, sym, ap, ◌∙◌, subst}
use mathlib.Core.Bool.{Bool, true, false, cond}
use mathlib.Core.List.{List}
use lib.ListN.{length, get_or}
use lib.Dec.{eqb}
use Rattle.clock.specs.Clock.{ceiling}
use Rattle.records.specs.declared.Program.{Program}
use Rattle.records.specs.Records.{Known, missing}
use Rattle.rules.specs.Book.{at}
use Rattle.rules.specs.Rules.{due_at}
use Rattle.rules.specs.Requests.{TICK}
use Rattle.rules.specs.Keeper.{lists, State, after}
use Rattle.rules.specs.Sound.{Sound}
use Rattle.rules.proofs.soundness.SoundRuns.{sound-after}
use Rattle.timers.specs.Inner.{falls_due, starts, starters, moved_to, NoStart, ticks_on, started_on}
use Rattle.timers.proofs.Striking.{falls-later, starts_by, starts-not}
use Rattle.timers.proofs.Moves.{stroke, struck-tick, moved_at, sound-timely, tick-value, tick-moved, none-start, same-starters, moved-again, idle-still}

-- ticks made in parts
pub ticks-parts : (j k : ℕ) (a : State lists) → ticks_on (j + k) a ≡ ticks_on k (ticks_on j a)
unfolding ticks_on
ticks-parts zero k a = ap (λ (n : ℕ). ticks_on n a) (let e : 0 + k ≡ k = omega arith in e)
ticks-parts (suc j) k a = ap (λ (n : ℕ). ticks_on n a) (let e : suc j + k ≡ suc (j + k) = omega arith in e) ∙ ticks-parts j k (after lists a TICK)

pub started-parts : (j k : ℕ) (a : State lists) → started_on (j + k) a ≡ started_on j a + started_on k (ticks_on j a)
unfolding ticks_on started_on
started-parts zero k a = ap (λ (n : ℕ). started_on n a) (let e : 0 + k ≡ k = omega arith in e) ∙ omega arith
started-parts (suc j) k a =
    ap (λ (n : ℕ). started_on n a) (let e : suc j + k ≡ suc (j + k) = omega arith in e)
    ∙ omega (arith, started-parts j k (after lists a TICK))

pub sound-ticks : (n : ℕ) (a : State lists) → Sound a → Sound (ticks_on n a)
unfolding ticks_on
sound-ticks zero a S = S
sound-ticks (suc n) a S = sound-ticks n (after lists a TICK) (sound-after a S TICK)

pub clock-ticks : (n : ℕ) (a : State lists) → Sound a → a.book.clock + n ≤ ceiling → (ticks_on n a).book.clock ≡ a.book.clock + n
unfolding ticks_on
clock-ticks zero a S h = omega arith
clock-ticks (suc n) a S h =
    let c : (after lists a TICK).book.clock ≡ a.book.clock + 1 = ap (λ (x : State lists). x.book.clock) (tick-moved a (sound-timely a S) (omega arith)) in
    omega (arith, c, clock-ticks n (after lists a TICK) (sound-after a S TICK) (omega (arith, c)))

-- who does not start by a moment does not start before it
pub idle-before : (now later : ℕ) → now ≤ later → (ps : List Program) → NoStart later ps → NoStart now ps
idle-before now later h ps N i = go (falls_due now (get_or ps i missing)) refl
  where
    r : Program
    r = get_or ps i missing

    go : (b : Bool) → falls_due now r ≡ b → starts now r ≡ false
    go true e = starts_by now r e refl ∙ sym (starts_by later r (falls-later now later r h e) refl) ∙ N i
    go false e = starts-not now r e

-- TICKS OF WHICH ONLY THE LAST STARTS ANYBODY
pub ticks-moved : (k : ℕ) (a : State lists) → Sound a → a.book.clock + suc k ≤ ceiling → NoStart (a.book.clock + k) a.book.programs
    → (ticks_on (suc k) a ≡ moved_to (a.book.clock + suc k) a) × (started_on (suc k) a ≡ length (starters (a.book.clock + suc k) a.book))
unfolding ticks_on started_on
ticks-moved zero a S h N =
    let e : a.book.clock + 1 ≡ a.book.clock + suc zero = omega arith in (
      tick-moved a (sound-timely a S) (omega arith) ∙ ap (λ (n : ℕ). moved_to n a) e,
      omega (arith, tick-value a (sound-timely a S) (omega arith), ap (λ (n : ℕ). length (starters n a.book)) e),
    )
ticks-moved (suc k) a S h N =
    let c : ℕ = a.book.clock in
    let m : State lists = moved_to (c + 1) a in
    let e : after lists a TICK ≡ m = tick-moved a (sound-timely a S) (omega arith) in
    let idle : NoStart (c + 1) a.book.programs = idle-before (c + 1) (c + suc k) (omega arith) a.book.programs N in
    let w : c + suc k ≡ c + 1 + k = omega arith in
    let v : c + 1 + suc k ≡ c + suc (suc k) = omega arith in
    let quiet : NoStart (c + 1 + k) m.book.programs =
    idle-still (c + 1) (c + 1 + k) (omega arith) a idle (subst (λ (n : ℕ). NoStart n a.book.programs) w N) in
    let ih = ticks-moved k m (subst Sound e (sound-after a S TICK)) (omega arith) quiet in (
      ap (ticks_on (suc k)) e ∙ ih.0 ∙ moved-again (c + 1) (c + 1 + suc k) (omega arith) a idle ∙ ap (λ (n : ℕ). moved_to n a) v,
      omega (
        arith,
        tick-value a (sound-timely a S) (omega arith),
        ap length (none-start (c + 1) (c + 1) (omega arith) a idle),
        ap (started_on (suc k)) e,
        ih.1,
        ap length (same-starters (c + 1) (c + 1 + suc k) (omega arith) a idle),
        ap (λ (n : ℕ). length (starters n a.book)) v,
      ),
    )

-- a tick leaves the record of a program that is not due at it
pub tick-undue : (a : State lists) → Sound a → a.book.clock < ceiling → (p : ℕ) → Known p → (due_at a.book p ≡ true → ⊥)
    → at (after lists a TICK).book p ≡ at a.book p
unfolding due_at
tick-undue a S h p P n =
    ap (λ (x : State lists). at x.book p) (tick-moved a (sound-timely a S) h)
    ∙ moved_at (a.book.clock + 1) a.book.programs (p - 1)
    ∙ struck-tick a.book.clock (at a.book p) (S.dues.above p P)
    ∙ ap (λ (b : Bool). cond b (stroke (at a.book p)) (at a.book p)) (go (eqb (at a.book p).due (a.book.clock + 1)) refl)
  where
    go : (b : Bool) → eqb (at a.book p).due (a.book.clock + 1) ≡ b → eqb (at a.book p).due (a.book.clock + 1) ≡ false
    go true e = absurd (n e)
    go false e = e
