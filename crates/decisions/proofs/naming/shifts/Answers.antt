-- `decisions::naming::shifts` meets its contract. Assumes nothing.
use mathlib.Core.Path.{refl}
use Rattle.rules.specs.declared.Answer.TheVariants.{WrongState}
use Rattle.decisions.proofs.Laws.{like, stays}
use Rattle.decisions.proofs.Asked.{going-not, going_done}
use Rattle.decisions.proofs.naming.shifts.Goals as goal

pub returns-then-state-from : goal.returns-then-state-from
returns-then-state-from c = λ v S.
    stays v (WrongState c.args.state) _ refl (going-not v _ _ S _ _ _ c.if-state-from.true)

pub returns : goal.returns
returns c = λ v S. like v (going_done v _ _ S _ _ _ c.if-state-from.false)
    (record { number = refl; values = refl; events = refl; apt = (c.requires.known, c.requires.state) })
