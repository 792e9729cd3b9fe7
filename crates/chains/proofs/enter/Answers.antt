-- `chains::enter` meets its contract: the two stores at the place found are `laid-enter`.
-- Assumes nothing.
use native.Mathlib.Omega.{arith}
use Rattle.chains.specs.Inner.{prio_in}
use Rattle.chains.proofs.Splices.{enter-at, laid-enter}
use Rattle.chains.proofs.enter.Goals as goal

pub bounds-links-at : goal.bounds-links-at
bounds-links-at c = omega (arith, enter-at (prio_in c.args.programs) c.requires)

pub bounds-l-at : goal.bounds-l-at
bounds-l-at c = omega (arith, enter-at (prio_in c.args.programs) c.requires)

pub returns : goal.returns
returns c =
    let h = c.requires in
    laid-enter _ _ _ _ _ _ h.laid h.state h.low h.high h.out c.place_of-at.ensures
