-- `lines::seek` meets its contract. The invariant: what is looked for is looked for from `at` on, behind `others` others.
-- Assumes nothing.
use native.Mathlib.Omega.{arith}
use mathlib.Core.Path.{refl, sym, ap, ◌∙◌}
use Prim.Native.Nat.{ℕ, ◌+◌}
use borrow.Author.Rules.{rules}
use Rattle.transcripts.specs.Inner.{lines_from, behind_others, span_of}
use Rattle.transcripts.proofs.TurnLaws.{seek-past, seek-here, seek-on, seek-none}
use Rattle.transcripts.proofs.lines.seek.Goals.{then-has_key+else-others-eq0, else-has_key}
use Rattle.transcripts.proofs.lines.seek.Goals as goal

pub loop-at-init : goal.loop-at-init
loop-at-init c = refl

pub slice_bounds-has_key-start : goal.slice_bounds-has_key-start
slice_bounds-has_key-start c = c.part_end-end.ensures.low

pub slice_bounds-has_key-end : goal.slice_bounds-has_key-end
slice_bounds-has_key-end c = c.part_end-end.ensures.high

pub returns-then-others-eq0 : goal.returns-then-others-eq0
returns-then-others-eq0 c =
    let l = c.loop-at in
    let a = c.args in
    sym (ap span_of (l.invariant ∙ ap (λ (n : ℕ). behind_others a.key.now n (lines_from a.s.now l.at)) c.if-others-eq0.true
    ∙ seek-here a.s.now l.at c.part_end-end.result c.loop-at-test.true c.part_end-end.ensures a.key.now
    (sym c.if-has_key.true ∙ c.has_key.ensures)))

pub overflow_add-at : goal.overflow_add-at
overflow_add-at c = let h = c.part_end-end.ensures.high in search rules

pub loop-at-smaller : goal.loop-at-smaller
loop-at-smaller c =
    let p = c.part_end-end.ensures in
    omega (arith, p.low, c.loop-at-test.true)

pub loop-at-preserved : goal.loop-at-preserved
loop-at-preserved c =
    let l = c.loop-at in
    let a = c.args in
    let q = c.has_key.ensures in
    l.invariant ∙ elim c.if-has_key.branch [
      | then-has_key+else-others-eq0 v ↦ seek-on a.s.now l.at c.part_end-end.result c.loop-at-test.true c.part_end-end.ensures a.key.now
          l.others
          (sym v.if-has_key.true ∙ q) (omega (arith, v.if-others-eq0.false))
          ∙ ap (λ (n : ℕ). behind_others a.key.now n (lines_from a.s.now (c.part_end-end.result + 1))) (sym v.others-is)
      | else-has_key v ↦ seek-past a.s.now l.at c.part_end-end.result c.loop-at-test.true c.part_end-end.ensures a.key.now
          l.others
          (sym v.if-has_key.false ∙ q)
          ∙ ap (λ (n : ℕ). behind_others a.key.now n (lines_from a.s.now (c.part_end-end.result + 1))) (sym v.others-is)
    ]

pub returns : goal.returns
returns c =
    let l = c.loop-at in
    let a = c.args in
    sym (ap span_of (l.invariant ∙ seek-none a.s.now a.key.now l.others l.at c.loop-at-test.false))

pub slice_bounds-has_key-count : goal.slice_bounds-has_key-count
slice_bounds-has_key-count c = c.part_end-end.ensures.low
