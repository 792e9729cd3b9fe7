-- `values::word_to` finds a word and the mark behind it.
-- Assumes nothing.
use native.Mathlib.Omega.{arith}
use mathlib.Core.Path.{refl, sym, subst}
use lib.ListN.{length}
use Rattle.text.specs.Inner.{BehindAt}
use Rattle.shapes.specs.Inner.{WordTo}
use Rattle.shapes.proofs.Marks.{word-absent, word-short, word-other, word-found}
use Rattle.shapes.proofs.values.word_to.Goals.{In_ok-end, then-end-s-via-then-end-s, then-end-s-via-else-end-s+then-s-end}
use Rattle.shapes.proofs.values.word_to.Goals as goal

-- the place behind the word
found : (c : In_ok-end) → let a = c.args in
    BehindAt a.word.now a.s.now a.from (length a.s.now) c.in_ok-end.end
found c = c.in_ok-end.ensures.at _ refl

pub returns-in_err-end : goal.returns-in_err-end
returns-in_err-end c = subst (WordTo _ _ _ _) (sym c.from_residual.ensures) (word-absent (c.in_err-end.ensures.not refl))

pub bounds-s-end : goal.bounds-s-end
bounds-s-end c = omega (arith, (found (goal.at.bounds-s-end c).In_ok-end).high)

pub returns-then-end-s : goal.returns-then-end-s
returns-then-end-s c =
    let b = found (goal.at.returns-then-end-s c).In_ok-end in
    elim c.then-end-s.branch [
      | then-end-s-via-then-end-s w ↦ word-short b (omega (arith, w.if-end-s.true))
      | then-end-s-via-else-end-s+then-s-end w ↦ word-other b (omega (arith, b.high, w.if-end-s.false)) (λ e. omega (arith, w.if-s-end.true))
    ]

pub overflow_add-result : goal.overflow_add-result
overflow_add-result c = omega (arith, (found (goal.at.overflow_add-result c).In_ok-end).high)

pub returns : goal.returns
returns c = let b = found (goal.at.returns c).In_ok-end in word-found b (omega (arith, b.high)) (omega arith)
