-- `ledger::roll::are_distinct` meets its contract. The invariant is `Seen`: each key before i is new,
-- and has left its mark. Assumes nothing.
use Rattle.ledger.proofs.Rows.{Seen}
use Rattle.ledger.proofs.roll.are_distinct.Given as goal

abbrev pub invariant-loop-i : goal.invariant-loop-i
invariant-loop-i l = Seen l.keys l.seen l.i
