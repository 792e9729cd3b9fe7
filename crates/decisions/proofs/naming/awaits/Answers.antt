-- `decisions::naming::awaits` meets its contract. Assumes nothing.
use mathlib.Core.Path.{refl}
use Rattle.rules.specs.declared.Answer.TheVariants.{WrongState}
use Rattle.decisions.proofs.Laws.{like, stays}
use Rattle.decisions.proofs.Asked.{awaiting-not, awaiting-done}
use Rattle.decisions.proofs.naming.awaits.Goals as goal

pub returns-then-state-ne-DORMANT : goal.returns-then-state-ne-DORMANT
returns-then-state-ne-DORMANT c = λ v S.
    stays v (WrongState c.args.state) _ refl (awaiting-not v _ _ S _ c.if-state-ne-DORMANT.true)

pub returns : goal.returns
returns c = λ v S. like v (awaiting-done v _ _ S _ c.if-state-ne-DORMANT.false)
    (record { number = refl; values = refl; events = refl; apt = (c.requires.known, c.requires.caller) })
