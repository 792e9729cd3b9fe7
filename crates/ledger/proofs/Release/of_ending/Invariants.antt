-- `ledger::Release::of_ending` meets its contract. The invariant: the first i numbers are marked where
-- p owns or locks them. Assumes nothing.
use Rattle.ledger.proofs.Releasing.{Marks}
use Rattle.ledger.proofs.Release.of_ending.Given as goal

abbrev pub invariant-loop-i : goal.invariant-loop-i
invariant-loop-i l = Marks l.fn.numbers l.p l.cleared l.i
