-- `decisions::waits` meets its contract. Assumes nothing.
use mathlib.Core.Path.{refl}
use Rattle.rules.specs.declared.Answer.TheVariants.{NoRoom}
use Rattle.rules.proofs.shared.Paths.{waits-so, waits-told}
use Rattle.decisions.proofs.Laws.{like, stays}
use Rattle.decisions.proofs.waits.Goals as goal

pub returns-then-w-ne0 : goal.returns-then-w-ne0
returns-then-w-ne0 c = λ v. stays v NoRoom 0 refl (waits-told _ _ _ _ c.if-w-ne0.true)

pub returns : goal.returns
returns c = λ v. like v (waits-so _ _ _ _ c.if-w-ne0.false)
    (record { number = refl; values = refl; events = refl; apt = (c.requires.known, c.requires.state) })
