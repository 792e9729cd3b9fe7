-- Each byte below the index is shown.
use Rattle.std.proofs.Common.{ℕ, ◌<◌, get_or}
use Rattle.streams.specs.Fronts.{IsShown}
use Rattle.streams.proofs.arguments.show_all.Given as goal

abbrev pub invariant-loop-b : goal.invariant-loop-b
invariant-loop-b l = (k : ℕ) → k < l.b-index → IsShown (get_or l.bytes k 0)
