-- `decisions::naming::prices` meets its contract. Assumes nothing.
use native.Mathlib.Omega.{arith}
use mathlib.Core.Path.{refl}
use Rattle.lists.proofs.Tests.{up_to-true}
use Rattle.decisions.proofs.Laws.{like}
use Rattle.decisions.proofs.Asked.{pricing}
use Rattle.decisions.proofs.naming.prices.Goals as goal

pub overflow_cast-result-2 : goal.overflow_cast-result-2
overflow_cast-result-2 c = omega (arith, (up_to-true 1 32767 c.args.n c.requires.allowed).1)

pub returns : goal.returns
returns c = λ v S. like v (pricing v _ _ _ S) (record { number = refl; values = refl; events = refl; apt = c.requires.known })
