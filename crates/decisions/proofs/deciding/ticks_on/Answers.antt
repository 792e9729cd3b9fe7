-- `decisions::deciding::ticks_on` meets its contract. Assumes nothing.
use native.Mathlib.Omega.{arith}
use mathlib.Core.Path.{refl}
use Rattle.rules.specs.declared.Answer.TheVariants.{AtCeiling}
use Rattle.decisions.proofs.Laws.{like, stays}
use Rattle.decisions.proofs.Requested.{ticking, ticking-not}
use Rattle.decisions.proofs.deciding.ticks_on.Goals as goal

pub returns-then-ticks-ge-CEILING : goal.returns-then-ticks-ge-CEILING
returns-then-ticks-ge-CEILING c = λ v T. stays v AtCeiling 0 refl (ticking-not v (omega (arith, T)))

pub returns : goal.returns
returns c =
    λ v T. like v (ticking v (omega (arith, T))) (record { number = refl; values = refl; events = refl; apt = omega (arith, T) })
