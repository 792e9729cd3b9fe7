-- `ledger::places::strangers` meets its contract. The invariant is `Marking`: the first i programs are told of. Assumes nothing.
use Rattle.ledger.proofs.Tallies.{marking-start}
use Rattle.ledger.proofs.places.strangers.Goals as goal

pub loop-i-init : goal.loop-i-init
loop-i-init c = marking-start _
