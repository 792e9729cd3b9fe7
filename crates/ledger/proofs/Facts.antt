-- What the tests of a record say, both ways: of its times, and of all but its why.
-- Assumes nothing.
use Prim.Native.Nat.{ℕ, ◌+◌, ◌-◌, ◌≤◌, ◌<◌}
use native.Mathlib.Omega.{arith}
use mathlib.Core.Path.{◌≡◌, refl, sym}
use mathlib.Core.Logic.{◌≢◌}
use mathlib.Core.Bool.{Bool, true, false, cond, ◌&&◌}
use lib.Dec.{leb, ltb, eqb}
use borrow.Author.Tests.{eq-eqb, eqb-true, eqb-false, leb-true, le-leb, ltb-true, lt-ltb}
use Rattle.lists.proofs.Tests.{false-true, both, and, unless, implies}
use Rattle.clock.specs.Clock.{farthest}
use Rattle.records.specs.declared.Program.{Program}
use Rattle.records.specs.Names.{legal}
use Rattle.records.specs.Records.{in_wait}
use Rattle.rules.specs.Test.{zeros}
use Rattle.ledger.specs.Inner.{timed, mark_fits, trim}

-- one test or another
cond_yes : (b x y : Bool) → cond b x y ≡ true → b ≡ true → x ≡ true
cond_yes true x y e h = e
cond_yes false x y e h = false-true h

cond_no : (b x y : Bool) → cond b x y ≡ true → b ≡ false → y ≡ true
cond_no true x y e h = false-true (sym h)
cond_no false x y e h = e

cond-is : (b x y : Bool) → (b ≡ true → x ≡ true) → (b ≡ false → y ≡ true) → cond b x y ≡ true
cond-is true x y f g = f refl
cond-is false x y f g = g refl

-- a timer
pub record Timed (c d i : ℕ) : Type 0 where
  pub timeless : d ≡ 0 → i ≡ 0
  pub above : d ≢ 0 → c < d
  pub near : d ≢ 0 → d ≤ c + farthest
  pub steps : i ≤ farthest

timed-true : (c d i : ℕ) → timed c d i ≡ true → Timed c d i
unfolding timed
timed-true c d i = go (eqb d 0) refl
  where
    go : (b : Bool) → eqb d 0 ≡ b → cond b (eqb i 0) (ltb c d && leb (d - c) farthest && leb i farthest) ≡ true → Timed c d i
    go true z e =
        let n = eqb-true i 0 e in
        record {
          timeless = λ w. n;
          above = λ w. absurd (w (eqb-true d 0 z));
          near = λ w. absurd (w (eqb-true d 0 z));
          steps = omega arith;
        }
    go false z e =
        let b2 = both (ltb c d && leb (d - c) farthest) (leb i farthest) e in
        let b1 = both (ltb c d) (leb (d - c) farthest) b2.0 in
        record {
          timeless = λ w. absurd (eqb-false d 0 z w);
          above = λ w. ltb-true c d b1.0;
          near = λ w. omega (arith, leb-true (d - c) farthest b1.1);
          steps = leb-true i farthest b2.1;
        }

timed-is : (c d i : ℕ) → Timed c d i → timed c d i ≡ true
unfolding timed
timed-is c d i t =
    cond-is (eqb d 0) (eqb i 0) (ltb c d && leb (d - c) farthest && leb i farthest)
    (λ z. eq-eqb i 0 (t.timeless (eqb-true d 0 z)))
    (λ z. let n = eqb-false d 0 z in
    and (and (lt-ltb c d (t.above n)) (le-leb (d - c) farthest (omega (arith, t.near n, t.above n)))) (le-leb i farthest t.steps))

-- a record
pub record Trim (c : ℕ) (r : Program) : Type 0 where
  pub named : r.used ≡ true → legal r.name ≡ true
  pub empty : r.used ≡ false → zeros r ≡ true
  pub priority : r.priority ≤ 32767
  pub waiter : r.suspend ≡ true → in_wait r.state ≡ true
  pub timed : Timed c r.due r.interval

pub trim-true : (c : ℕ) (r : Program) → trim c r ≡ true → Trim c r
unfolding trim
trim-true c r e =
    let b3 = both (cond r.used (legal r.name) (zeros r) && leb r.priority 32767 && mark_fits r.suspend r.state)
    (timed c r.due r.interval) e in
    let b2 = both (cond r.used (legal r.name) (zeros r) && leb r.priority 32767) (mark_fits r.suspend r.state) b3.0 in
    let b1 = both (cond r.used (legal r.name) (zeros r)) (leb r.priority 32767) b2.0 in
    record {
      named = cond_yes r.used (legal r.name) (zeros r) b1.0;
      empty = cond_no r.used (legal r.name) (zeros r) b1.0;
      priority = leb-true r.priority 32767 b1.1;
      waiter = unless r.suspend (in_wait r.state) b2.1;
      timed = timed-true c r.due r.interval b3.1;
    }

pub trim-is : (c : ℕ) (r : Program) → Trim c r → trim c r ≡ true
unfolding trim
trim-is c r t =
    and
    (and (and (cond-is r.used (legal r.name) (zeros r) t.named t.empty) (le-leb r.priority 32767 t.priority))
    (implies r.suspend (in_wait r.state) t.waiter))
    (timed-is c r.due r.interval t.timed)
