-- `values::run_to` reads two numbers and a holder, one behind another.
-- Assumes nothing.
use mathlib.Core.Path.{sym, subst}
use Rattle.shapes.specs.Inner.{RunTo}
use Rattle.shapes.proofs.MarkedValues.{first-none, last_none, holder-none, run-said}
use Rattle.shapes.proofs.values.run_to.Goals as goal

pub returns-in_err-first : goal.returns-in_err-first
returns-in_err-first c = subst (RunTo _ _) (sym c.from_residual.ensures) (first-none c.in_err-first.ensures)

pub returns-in_err-last : goal.returns-in_err-last
returns-in_err-last c =
    subst (RunTo _ _) (sym c.from_residual-in_err-last.ensures) (last_none c.in_ok-first.ensures c.in_err-last.ensures)

pub returns-in_err-holder : goal.returns-in_err-holder
returns-in_err-holder c =
    subst (RunTo _ _) (sym c.from_residual-in_err-holder.ensures)
    (holder-none c.in_ok-first.ensures c.in_ok-last.ensures c.in_err-holder.ensures)

pub returns : goal.returns
returns c = run-said c.in_ok-first.ensures c.in_ok-last.ensures c.in_ok-holder.ensures c.byte.ensures
