-- `tables::sound::walk_chains` meets its contract. The invariant of the loop over the states is `Sofar`: the chains of the
-- states below are in order and marked; its measure is the states left. That of a walk is `Going`: what was passed and marked;
-- its measure is how many are not marked.
-- Assumes nothing.
use native.Mathlib.Omega.{arith}
use mathlib.Core.Path.{refl}
use Rattle.tables.specs.Walks.{of_program, AllOrdered}
use Rattle.tables.proofs.Chained.{sofar-start, sofar-more, sofar-refused, sofar-end}
use Rattle.tables.proofs.Walking.{Next, going_start, going-refused, going_on, going_less, going_end}
use Rattle.tables.proofs.sound.walk_chains.Goals.{Else-priority-least, In-loop-n}
use Rattle.tables.proofs.sound.walk_chains.Goals.{then-n-gt-MOST_PROGRAMS-via-then-n-gt-MOST_PROGRAMS}
use Rattle.tables.proofs.sound.walk_chains.Goals.{then-n-gt-MOST_PROGRAMS-via-else-n-gt-MOST_PROGRAMS+then-met-n-ne0}
use Rattle.tables.proofs.sound.walk_chains.Goals.{then-n-gt-MOST_PROGRAMS-via-else-n-gt-MOST_PROGRAMS+else-met-n-ne0+then-states-n}
use Rattle.tables.proofs.sound.walk_chains.Goals as goal

pub loop-state-init : goal.loop-state-init
loop-state-init c = (refl, sofar-start _ _ _)

pub loop-n-init : goal.loop-n-init
loop-n-init c =
    going_start _ _ _ c.loop-state.state c.loop-state.met _ c.loop-state.invariant.0 c.wide-n.ensures

refused : (h : In-loop-n) →
    let a = h.args in
    let st = of_program a.states.now in
    let pr = of_program a.priorities.now in
    (Next st pr h.loop-state.state h.loop-n.met h.loop-n.least h.loop-n.n → ⊥) → AllOrdered st pr a.links.now 6 → ⊥
refused h f =
    sofar-refused h.loop-state.invariant.1 h.loop-state-test.true (going-refused h.loop-n.invariant h.loop-n-test.true f) refl

pub returns-then-n-gt-MOST_PROGRAMS : goal.returns-then-n-gt-MOST_PROGRAMS
returns-then-n-gt-MOST_PROGRAMS c =
    let h = (goal.at.returns-then-n-gt-MOST_PROGRAMS c).In-loop-n in
    elim c.then-n-gt-MOST_PROGRAMS.branch [
      | then-n-gt-MOST_PROGRAMS-via-then-n-gt-MOST_PROGRAMS w ↦ refused h (λ N. omega (arith, N.known.1))
      | then-n-gt-MOST_PROGRAMS-via-else-n-gt-MOST_PROGRAMS+then-met-n-ne0 w ↦ refused h (λ N. omega (arith, N.unmet))
      | then-n-gt-MOST_PROGRAMS-via-else-n-gt-MOST_PROGRAMS+else-met-n-ne0+then-states-n w ↦ refused h (λ N. omega (arith, N.state))
    ]

pub bounds-met-n : goal.bounds-met-n
bounds-met-n c = omega (arith, c.loop-n.invariant.long)

pub returns-then-priority-least : goal.returns-then-priority-least
returns-then-priority-least c = refused (goal.at.returns-then-priority-least c).In-loop-n (λ N. omega (arith, N.after))

next : (b : Else-priority-least) →
    let i = b.loop-n in
    let a = b.args in
    Next (of_program a.states.now) (of_program a.priorities.now) b.loop-state.state i.met i.least i.n
next b = record {
  known = (omega arith, omega arith);
  state = omega (arith, b.if-states-n.false);
  unmet = omega (arith, b.if-met-n-ne0.false);
  after = omega (arith, b.if-priority-least.false);
}

pub bounds-met-n-in-loop-n : goal.bounds-met-n-in-loop-n
bounds-met-n-in-loop-n c = omega (arith, c.loop-n.invariant.long)

pub loop-n-smaller : goal.loop-n-smaller
loop-n-smaller c = going_less c.loop-n.invariant (next (goal.at.loop-n-smaller c).Else-priority-least)

pub loop-n-preserved : goal.loop-n-preserved
loop-n-preserved c = going_on c.loop-n.invariant (next (goal.at.loop-n-preserved c).Else-priority-least) _ c.wide-n-in-loop-n.ensures

pub loop-state-preserved : goal.loop-state-preserved
loop-state-preserved c = (
  c.loop-n.invariant.long,
  sofar-more c.loop-state.invariant.1 c.loop-state-test.true (going_end c.loop-n.invariant c.loop-n-test.false) refl,
)

pub returns : goal.returns
returns c = sofar-end c.loop-state.invariant.1 c.loop-state-test.false
