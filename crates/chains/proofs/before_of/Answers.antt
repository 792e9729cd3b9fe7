-- `chains::before_of` meets its contract. The loop's invariant: the slot before p in what is left of the chain is that in the whole.
-- The measure is the walk that is left.
-- Assumes nothing.
use native.Mathlib.Omega.{arith}
use mathlib.Core.Path.{refl, sym, ◌∙◌}
use Rattle.chains.proofs.Slots.{before-past, before-stop}
use Rattle.chains.proofs.Seeking.{seek-start, seek-small, seek-step, seek-less, seek_stop, seek-end}
use Rattle.chains.proofs.before_of.Goals as goal

pub loop-n-init : goal.loop-n-init
loop-n-init c = (refl, seek-start _ _ c.requires.laid c.requires.state refl)

pub returns-then-n-q : goal.returns-then-n-q
returns-then-n-q c =
    let i = c.loop-n.invariant in
    seek_stop i.1 c.loop-n-test.true (λ qs. before-stop _ _ _ qs (c.if-n-q.true ∙ i.0))

pub overflow_add-at : goal.overflow_add-at
overflow_add-at c = omega (arith, seek-small c.loop-n.invariant.1 c.loop-n-test.true)

pub bounds-links-at-in-loop-n : goal.bounds-links-at-in-loop-n
bounds-links-at-in-loop-n c = omega (arith, seek-small c.loop-n.invariant.1 c.loop-n-test.true)

pub loop-n-smaller : goal.loop-n-smaller
loop-n-smaller c = seek-less c.loop-n.invariant.1 c.loop-n-test.true

pub loop-n-preserved : goal.loop-n-preserved
loop-n-preserved c =
    let i = c.loop-n.invariant in
    (i.0, seek-step i.1 c.loop-n-test.true _ refl (λ qs. before-past _ _ _ qs (λ e. c.if-n-q.false (e ∙ sym i.0))))

pub returns : goal.returns
returns c = seek-end c.loop-n.invariant.1 c.loop-n-test.false
