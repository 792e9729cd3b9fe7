-- `clock::days_before` meets its contract: the code reckons as the definition does. Assumes nothing.
use mathlib.Core.Path.{refl}
use Rattle.clock.specs.Inner.{before}
use Rattle.clock.proofs.days_before.Goals as goal

pub returns : goal.returns
unfolding before
returns c = refl
