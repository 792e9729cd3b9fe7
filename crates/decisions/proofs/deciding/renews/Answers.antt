-- `decisions::deciding::renews` meets its contract. Assumes nothing.
use native.Mathlib.Omega.{arith}
use mathlib.Core.Path.{refl, sym, ◌∙◌}
use Rattle.rules.specs.declared.Answer.TheVariants.{NotAllowed}
use Rattle.decisions.specs.Inner.{Sizes}
use Rattle.decisions.proofs.Laws.{like, stays}
use Rattle.decisions.proofs.Requested.{sizes-true, renewing, renewing-not}
use Rattle.decisions.proofs.deciding.renews.Goals.{Else-not-may_start}
use Rattle.decisions.proofs.deciding.renews.Goals as goal

sized : (c : Else-not-may_start) → Sizes c.args.tracks c.args.system c.args.numbers c.args.year
sized c = sizes-true _ _ _ _ (sym c.may_start.ensures ∙ c.if-not-may_start.false)

pub overflow_cast-result : goal.overflow_cast-result
overflow_cast-result c = omega (arith, (sized (goal.at.overflow_cast-result c).Else-not-may_start).most)

pub overflow_cast-result-2 : goal.overflow_cast-result-2
overflow_cast-result-2 c = omega (arith, (sized (goal.at.overflow_cast-result-2 c).Else-not-may_start).most, (sized (goal.at.overflow_cast-result-2 c).Else-not-may_start).part)

pub overflow_cast-result-3 : goal.overflow_cast-result-3
overflow_cast-result-3 c = omega (arith, (sized (goal.at.overflow_cast-result-3 c).Else-not-may_start).few)

pub overflow_cast-result-4 : goal.overflow_cast-result-4
overflow_cast-result-4 c = omega (arith, sized (goal.at.overflow_cast-result-4 c).Else-not-may_start)

pub returns-then-not-may_start : goal.returns-then-not-may_start
returns-then-not-may_start c = λ v. stays v NotAllowed 0 refl (renewing-not v _ _ _ _ (sym c.may_start.ensures ∙ c.if-not-may_start.true))

pub returns : goal.returns
returns c = λ v. like v (renewing v _ _ _ _ (sym c.may_start.ensures ∙ c.if-not-may_start.false))
    (record { number = refl; values = refl; events = refl; apt = sized (goal.at.returns c).Else-not-may_start })
