-- `values::resource_to` reads a number, its owner and its lock, one behind another.
-- Assumes nothing.
use mathlib.Core.Path.{sym, subst}
use Rattle.shapes.specs.Inner.{ResourceTo}
use Rattle.shapes.proofs.MarkedValues.{number-none, owner-none, lock-none, number-said}
use Rattle.shapes.proofs.values.resource_to.Goals as goal

pub returns-in_err-number : goal.returns-in_err-number
returns-in_err-number c = subst (ResourceTo _ _) (sym c.from_residual.ensures) (number-none c.in_err-number.ensures)

pub returns-in_err-owner : goal.returns-in_err-owner
returns-in_err-owner c =
    subst (ResourceTo _ _) (sym c.from_residual-in_err-owner.ensures) (owner-none c.in_ok-number.ensures c.in_err-owner.ensures)

pub returns-in_err-lock : goal.returns-in_err-lock
returns-in_err-lock c =
    subst (ResourceTo _ _) (sym c.from_residual-in_err-lock.ensures)
    (lock-none c.in_ok-number.ensures c.in_ok-owner.ensures c.in_err-lock.ensures)

pub returns : goal.returns
returns c = number-said c.in_ok-number.ensures c.in_ok-owner.ensures c.in_ok-lock.ensures c.byte.ensures c.byte-2.ensures
