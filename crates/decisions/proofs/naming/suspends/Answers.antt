-- `decisions::naming::suspends` meets its contract: each return is a path of the rule. Assumes nothing.
use native.Mathlib.Omega.{arith}
use mathlib.Core.Path.{refl, sym, ◌∙◌}
use mathlib.Core.List.{[], ◌∷◌}
use Rattle.rules.specs.declared.Answer.TheVariants.{Done}
use Rattle.decisions.proofs.Laws.{like, rests}
use Rattle.decisions.proofs.Asked.{suspending-again, suspending-marks, suspending-goes}
use Rattle.decisions.proofs.naming.suspends.Goals as goal

pub returns-then-mark : goal.returns-then-mark
returns-then-mark c =
    λ v S M. rests v (Done 0) (0 ∷ []) c.stay.ensures refl refl
    (suspending-again v _ _ S (sym c.in_wait.ensures ∙ c.if-in_wait.true) (M ∙ c.if-mark.true))

pub returns-then-in_wait : goal.returns-then-in_wait
returns-then-in_wait c =
    λ v S M. like v (suspending-marks v _ _ S (sym c.in_wait.ensures ∙ c.if-in_wait.true) (M ∙ c.if-mark.false))
    (record { number = refl; values = refl; events = refl; apt = c.requires })

pub returns : goal.returns
returns c =
    λ v S M. like v (suspending-goes v _ _ S (sym c.in_wait.ensures ∙ c.if-in_wait.false)) (c.shifts.ensures v S)

pub shifts-requires : goal.shifts-requires
shifts-requires c = record { known = c.requires; state = omega arith }
