-- `decisions::numbering::locks` meets its contract. Assumes nothing.
use mathlib.Core.Path.{refl}
use Rattle.rules.specs.declared.Answer.TheVariants.{Done}
use Rattle.decisions.proofs.Laws.{like, rests}
use Rattle.decisions.proofs.Numbered.{lock-own, lock-clear, lock-taken}
use Rattle.decisions.proofs.numbering.locks.Goals as goal

pub returns-then-lock-c : goal.returns-then-lock-c
returns-then-lock-c c = λ v h.
    rests v (Done c.args.r) _ c.stay.ensures refl refl (lock-own v _ _ _ _ c.if-lock-c.true)

pub returns-then-lock-eq0 : goal.returns-then-lock-eq0
returns-then-lock-eq0 c = λ v h. like v (lock-clear v _ _ _ _ c.if-lock-c.false c.if-lock-eq0.true)
    (record { number = refl; values = refl; events = refl; apt = (c.requires.low, h) })

pub returns : goal.returns
returns c = λ v h. like v (lock-taken v _ _ _ _ c.if-lock-c.false c.if-lock-eq0.false) (c.waits.ensures v)
