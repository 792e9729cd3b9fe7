-- `ledger::roll::enrolled` meets its contract. The invariant is `Noted`: the records before i are sound by
-- themselves, and noted. Assumes nothing.
use Rattle.ledger.proofs.Rows.{Noted}
use Rattle.ledger.proofs.roll.enrolled.Given as goal

abbrev pub invariant-loop-i : goal.invariant-loop-i
invariant-loop-i l = Noted l.ticks l.all l.numbers l.programs l.names l.sons l.states l.priorities l.used l.high l.i
