-- `chains::leave` meets its contract: the two stores at the slot found are `laid-leave`.
-- Assumes nothing.
use native.Mathlib.Omega.{arith}
use Rattle.chains.proofs.Splices.{leave-at, leave-who, laid-leave}
use Rattle.chains.proofs.leave.Goals as goal

pub bounds-links-own : goal.bounds-links-own
bounds-links-own c = omega (arith, leave-who c.requires)

pub bounds-l-at : goal.bounds-l-at
bounds-l-at c = omega (arith, leave-at c.requires)

pub bounds-l-own : goal.bounds-l-own
bounds-l-own c = omega (arith, leave-who c.requires)

pub returns : goal.returns
returns c =
    let h = c.requires in
    laid-leave _ _ _ _ _ h.laid h.state h.there c.before_of-at.ensures
