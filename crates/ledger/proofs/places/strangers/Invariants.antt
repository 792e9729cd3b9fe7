-- `ledger::places::strangers` meets its contract. The invariant is `Marking`: the first i programs are told of. Assumes nothing.
use Rattle.ledger.proofs.Tallies.{Marking}
use Rattle.ledger.proofs.places.strangers.Given as goal

abbrev pub invariant-loop-i : goal.invariant-loop-i
invariant-loop-i l = Marking l.used l.marks l.i
