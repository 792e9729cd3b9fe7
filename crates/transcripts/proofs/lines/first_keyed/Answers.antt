-- `lines::first_keyed` meets its contract. The invariant: the first line with a key is the first from `at` on. Assumes nothing.
use native.Mathlib.Omega.{arith}
use mathlib.Core.Path.{refl, sym, ap, ◌∙◌}
use borrow.Author.Rules.{rules}
use Rattle.transcripts.specs.Inner.{span_of}
use Rattle.transcripts.proofs.TurnLaws.{first_past, first-here, first-none}
use Rattle.transcripts.proofs.lines.first_keyed.Goals as goal

pub loop-at-init : goal.loop-at-init
loop-at-init c = refl

pub slice_bounds-line-start : goal.slice_bounds-line-start
slice_bounds-line-start c = c.part_end-end.ensures.low

pub slice_bounds-line-end : goal.slice_bounds-line-end
slice_bounds-line-end c = c.part_end-end.ensures.high

pub returns-then-part_end-line : goal.returns-then-part_end-line
returns-then-part_end-line c =
    let l = c.loop-at in
    let a = c.args in
    sym (ap span_of (l.invariant ∙ first-here a.s.now l.at c.part_end-end.result c.loop-at-test.true c.part_end-end.ensures _
    c.part_end.ensures c.if-part_end-line.true))

pub overflow_add-at : goal.overflow_add-at
overflow_add-at c = let h = c.part_end-end.ensures.high in search rules

pub loop-at-smaller : goal.loop-at-smaller
loop-at-smaller c =
    let p = c.part_end-end.ensures in
    omega (arith, p.low, c.loop-at-test.true)

pub loop-at-preserved : goal.loop-at-preserved
loop-at-preserved c =
    let l = c.loop-at in
    let a = c.args in
    l.invariant ∙ first_past a.s.now l.at c.part_end-end.result c.loop-at-test.true c.part_end-end.ensures _
    c.part_end.ensures c.if-part_end-line.false

pub returns : goal.returns
returns c =
    let l = c.loop-at in
    let a = c.args in
    sym (ap span_of (l.invariant ∙ first-none a.s.now l.at c.loop-at-test.false))

pub slice_bounds-line-count : goal.slice_bounds-line-count
slice_bounds-line-count c = c.part_end-end.ensures.low
