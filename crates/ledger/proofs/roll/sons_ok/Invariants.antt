-- `ledger::roll::sons_ok` meets its contract. The invariant is `Meeting`: the sons so far are live, and
-- awaited and marked once. Assumes nothing.
use Rattle.ledger.proofs.Rows.{Meeting}
use Rattle.ledger.proofs.roll.sons_ok.Given as goal

abbrev pub invariant-loop-son : goal.invariant-loop-son
invariant-loop-son l = Meeting l.fn.sons l.states l.met l.son-index
