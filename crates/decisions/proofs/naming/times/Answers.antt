-- `decisions::naming::times` meets its contract. Assumes nothing.
use native.Mathlib.Omega.{arith}
use mathlib.Core.Path.{refl}
use Rattle.decisions.proofs.Laws.{like}
use Rattle.decisions.proofs.Asked.{winds, offset-most, multiple-most}
use Rattle.decisions.proofs.naming.times.Goals as goal

pub overflow_mul-due : goal.overflow_mul-due
overflow_mul-due c =
    omega (arith, offset-most c.args.resolution c.args.multiple c.args.offset _ c.unit-unit.ensures c.requires.allowed)

pub overflow_add-due : goal.overflow_add-due
overflow_add-due c =
    omega (arith, offset-most c.args.resolution c.args.multiple c.args.offset _ c.unit-unit.ensures c.requires.allowed)

pub overflow_mul-result : goal.overflow_mul-result
overflow_mul-result c =
    omega (arith, multiple-most c.args.resolution c.args.multiple c.args.offset _ c.unit-unit.ensures c.requires.allowed)

pub returns : goal.returns
returns c = λ v T. like v (winds v _ _ _ _ _ _ T c.unit-unit.ensures)
    (record { number = refl; values = refl; events = refl; apt = c.requires.known })
