-- `ledger::roll::enrolled` meets its contract. The invariant is `Noted`: the records before i are sound by
-- themselves, and noted. Assumes nothing.
use mathlib.Core.Path.{sym}
use native.Mathlib.Omega.{arith}
use Rattle.ledger.proofs.Rows.{noted-start, noted-same, noted-used, noted-unused, sons-ended}
use Rattle.ledger.proofs.roll.enrolled.Goals.{then-r, else-r}
use Rattle.ledger.proofs.roll.enrolled.Goals as goal

pub loop-i-init : goal.loop-i-init
loop-i-init c = noted-start _ _ _ _

pub loop-i-preserved : goal.loop-i-preserved
loop-i-preserved c =
    let f = sym c.if-not-record_fits.ensures in
    elim c.if-r.branch [
      | then-r e ↦
          noted-same (noted-used c.loop-i.invariant (omega arith) f e.if-r.true e.name_code.result e.son_of.result e.name_code.ensures e.son_of.ensures)
          e.names-is e.sons-is e.states-is e.priorities-is e.used-is e.high-is
      | else-r e ↦ noted-same (noted-unused c.loop-i.invariant (omega arith) f e.if-r.false) e.names-is e.sons-is e.states-is e.priorities-is e.used-is e.high-is
    ]

pub sons_ok-requires : goal.sons_ok-requires
sons_ok-requires c = sons-ended c.loop-i.invariant (omega arith)
