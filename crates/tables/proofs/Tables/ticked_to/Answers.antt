-- `tables::Tables::ticked_to` meets its contract. The loop's invariant: what is left of the ticks makes of the tables as they are what all of
-- them make of those at the start. The measure is how many programs are dormant, and one more before the end: so the moves are 33 at most.
-- Assumes nothing.
use Prim.Native.Nat.{◌≤◌}
use native.Mathlib.Omega.{arith}
use Rattle.clock.specs.Clock.{ceiling}
use Rattle.tables.proofs.Ticks.{can-pass}
use Rattle.tables.proofs.ManyTicks.{going_start, next-most, going_on, going_less, going_done}
use Rattle.tables.proofs.Tables.ticked_to.Goals.{At-loop-now}
use Rattle.tables.proofs.Tables.ticked_to.Goals as goal

pub loop-now-init : goal.loop-now-init
loop-now-init c =
    going_start c.args.self c.args.end c.requires.orderly c.requires.sound c.requires.low

-- the end is no higher than the ceiling
top : (l : At-loop-now) → l.args.end ≤ ceiling
top l = l.requires.high

pub moved_to-moved-requires : goal.moved_to-moved-requires
moved_to-moved-requires c =
    can-pass c.loop-now.tables c.loop-now.invariant.orderly c.loop-now.invariant.sound.dues c.next_start-now.result
    (omega (arith, next-most c.loop-now.invariant c.loop-now-test.true (top (goal.at.moved_to-moved-requires c).At-loop-now) c.next_start-now.result c.next_start-now.ensures, top (goal.at.moved_to-moved-requires c).At-loop-now))

pub overflow_add-number : goal.overflow_add-number
overflow_add-number c =
    omega (
      arith,
      (going_on c.loop-now.invariant c.loop-now-test.true (top (goal.at.overflow_add-number c).At-loop-now) c.next_start-now.result c.next_start-now.ensures c.moved_to-moved.result.tables
          c.moved_to-moved.result.number c.moved_to-moved.ensures).few,
    )

pub loop-now-smaller : goal.loop-now-smaller
loop-now-smaller c =
    going_less c.loop-now.invariant c.loop-now-test.true (top (goal.at.loop-now-smaller c).At-loop-now) c.next_start-now.result c.next_start-now.ensures c.moved_to-moved.result.tables
    c.moved_to-moved.result.number c.moved_to-moved.ensures

pub loop-now-preserved : goal.loop-now-preserved
loop-now-preserved c =
    going_on c.loop-now.invariant c.loop-now-test.true (top (goal.at.loop-now-preserved c).At-loop-now) c.next_start-now.result c.next_start-now.ensures c.moved_to-moved.result.tables
    c.moved_to-moved.result.number c.moved_to-moved.ensures

pub returns : goal.returns
returns c = going_done c.loop-now.invariant c.loop-now-test.false
