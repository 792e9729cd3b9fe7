-- `chains::place_of` meets its contract. The loop's invariant: the place in what is left of the chain is the place in the whole.
-- The measure is the walk that is left.
-- Assumes nothing.
use Prim.Native.Nat.{ℕ}
use mir.Syntax.{w64}
use mir.Val.{Fits}
use native.Mathlib.Omega.{arith}
use mathlib.Core.Path.{refl}
use lib.ListN.{get_or}
use borrow.Author.Rules.{rules}
use Rattle.chains.specs.Inner.{prio_in}
use Rattle.chains.proofs.Slots.{place-past, place-stop}
use Rattle.chains.proofs.Seeking.{seek-start, seek-small, seek-step, seek-less, seek_stop, seek-end}
use Rattle.chains.proofs.place_of.Goals.{Start}
use Rattle.chains.proofs.place_of.Goals as goal

pub loop-n-init : goal.loop-n-init
loop-n-init c = (refl, seek-start _ _ c.requires.laid c.requires.state refl)

pub offset_bounds-programs-n : goal.offset_bounds-programs-n
offset_bounds-programs-n c = omega (arith, seek-small c.loop-n.invariant.1 c.loop-n-test.true)

pub bounds-programs-n : goal.bounds-programs-n
bounds-programs-n c = omega (arith, seek-small c.loop-n.invariant.1 c.loop-n-test.true)

pub returns-then-mine-r : goal.returns-then-mine-r
returns-then-mine-r c =
    let i = c.loop-n.invariant in
    let a = c.args in
    seek_stop i.1 c.loop-n-test.true (λ qs. place-stop (prio_in a.programs) a.p _ _ qs (omega (arith, i.0, c.if-mine-r.true)))

pub overflow_add-at : goal.overflow_add-at
overflow_add-at c = omega (arith, seek-small c.loop-n.invariant.1 c.loop-n-test.true)

pub bounds-links-at-in-loop-n : goal.bounds-links-at-in-loop-n
bounds-links-at-in-loop-n c = omega (arith, seek-small c.loop-n.invariant.1 c.loop-n-test.true)

-- a link is a byte
small : (s : Start) (i : ℕ) → Fits w64 (get_or s.args.links i 0)
small s i = search rules

pub overflow_cast-n-in-loop-n : goal.overflow_cast-n-in-loop-n
overflow_cast-n-in-loop-n c = small (goal.at.overflow_cast-n-in-loop-n c).Start _

pub loop-n-smaller : goal.loop-n-smaller
loop-n-smaller c = seek-less c.loop-n.invariant.1 c.loop-n-test.true

pub loop-n-preserved : goal.loop-n-preserved
loop-n-preserved c =
    let i = c.loop-n.invariant in
    (i.0, seek-step i.1 c.loop-n-test.true _ refl (λ qs. place-past _ _ _ _ qs (omega (arith, i.0, c.if-mine-r.false))))

pub returns : goal.returns
returns c = seek-end c.loop-n.invariant.1 c.loop-n-test.false
