-- `chains::before_of` meets its contract. The loop's invariant: the slot before p in what is left of the chain is that in the whole.
-- The measure is the walk that is left.
-- Assumes nothing.
use mathlib.Core.Path.{◌≡◌}
use mathlib.Core.List.{[]}
use lib.ListN.{length, get_or}
use Rattle.chains.specs.Links.{walk, read}
use Rattle.chains.specs.Inner.{before}
use Rattle.chains.proofs.Seeking.{Seek}
use Rattle.chains.proofs.before_of.Given as goal

abbrev pub invariant-loop-n : goal.invariant-loop-n
invariant-loop-n l = (l.q ≡ l.p) × Seek l.links (before l.p) (before l.p l.state (get_or (read l.links) l.state [])) l.at l.n

abbrev pub decreases-loop-n : goal.decreases-loop-n
decreases-loop-n l = length (walk l.links l.at 32)
