-- `values::figure_to` reads digits and finds the mark behind them.
-- Assumes nothing.
use native.Mathlib.Omega.{arith}
use Rattle.shapes.proofs.MarkedFigures.{no_digit, no-mark, other-mark, zero-first, figure-said}
use Rattle.shapes.proofs.values.figure_to.Goals.{then-end-from-via-then-end-from, then-end-from-via-else-end-from+then-end-s}
use Rattle.shapes.proofs.values.figure_to.Goals.{then-end-from-via-else-end-from+else-end-s+then-s-end}
use Rattle.shapes.proofs.values.figure_to.Goals.{else-from-end-via-then-from-end+else-s-from-eq48, else-from-end-via-else-from-end}
use Rattle.shapes.proofs.values.figure_to.Goals as goal

pub returns-then-end-from : goal.returns-then-end-from
returns-then-end-from c =
    let D = c.digits_from-digits.ensures in
    let m = c.requires.mark_value in
    elim c.then-end-from.branch [
      | then-end-from-via-then-end-from w ↦ no_digit D _ m w.if-end-from.true
      | then-end-from-via-else-end-from+then-end-s w ↦ no-mark D _ m w.if-end-s.true
      | then-end-from-via-else-end-from+else-end-s+then-s-end w ↦ other-mark D _ m w.if-s-end.true
    ]

pub returns-then-s-from-eq48 : goal.returns-then-s-from-eq48
returns-then-s-from-eq48 c = zero-first c.digits_from-digits.ensures _ c.requires.mark_value (omega arith) (omega arith)

pub returns : goal.returns
returns c =
    figure-said c.digits_from-digits.ensures _ c.requires.mark_value (omega arith) (omega arith) (omega arith)
    (λ l z. elim c.else-from-end.branch [
      | else-from-end-via-then-from-end+else-s-from-eq48 w ↦ w.if-s-from-eq48.false z
      | else-from-end-via-else-from-end w ↦ omega (arith, w.if-from-end.false)
    ])
