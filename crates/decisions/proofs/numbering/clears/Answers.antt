-- `decisions::numbering::clears` meets its contract. Assumes nothing.
use mathlib.Core.Path.{refl}
use Rattle.rules.specs.declared.Answer.TheVariants.{Done, NotHolder}
use Rattle.decisions.proofs.Laws.{like, stays, rests}
use Rattle.decisions.proofs.Numbered.{clear_none, clear-other, clear-own}
use Rattle.decisions.proofs.numbering.clears.Goals as goal

pub returns-then-lock-eq0 : goal.returns-then-lock-eq0
returns-then-lock-eq0 c = λ v h. rests v (Done 0) _ c.stay.ensures refl refl (clear_none v _ _ _ c.if-lock-eq0.true)

pub returns-then-lock-c : goal.returns-then-lock-c
returns-then-lock-c c =
    λ v h. stays v NotHolder 0 refl (clear-other v _ _ _ c.if-lock-eq0.false c.if-lock-c.true)

pub returns : goal.returns
returns c = λ v h. like v (clear-own v _ _ _ c.if-lock-eq0.false c.if-lock-c.false)
    (record { number = refl; values = refl; events = refl; apt = (c.requires.low, h) })
