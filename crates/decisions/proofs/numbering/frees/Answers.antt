-- `decisions::numbering::frees` meets its contract. Assumes nothing.
use mathlib.Core.Path.{refl}
use Rattle.rules.specs.declared.Answer.TheVariants.{NotHolder}
use Rattle.decisions.proofs.Laws.{like, stays}
use Rattle.decisions.proofs.Numbered.{free_own, free_other}
use Rattle.decisions.proofs.numbering.frees.Goals as goal

pub returns-then-not-may_free : goal.returns-then-not-may_free
returns-then-not-may_free c = λ v h. stays v NotHolder 0 refl (free_other v _ _ _ _ c.may_free.ensures c.if-not-may_free.true)

pub returns : goal.returns
returns c = λ v h. like v (free_own v _ _ _ _ c.may_free.ensures c.if-not-may_free.false)
    (record { number = refl; values = refl; events = refl; apt = (c.requires.low, h) })
