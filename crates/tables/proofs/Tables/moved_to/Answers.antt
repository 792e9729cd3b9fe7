-- `tables::Tables::moved_to` meets its contract. The loop's invariant: what those from p on have still to do, done to the tables as they are,
-- is what all have to do.
-- Assumes nothing.
use native.Mathlib.Omega.{arith}
use mathlib.Core.Path.{sym, ◌∙◌}
use Rattle.tables.proofs.Ticks.{starts_first, starts-it, starts-not, starts-done}
use Rattle.tables.proofs.Tables.moved_to.Goals.{then-starts, else-starts}
use Rattle.tables.proofs.Tables.moved_to.Goals as goal

pub loop-p-init : goal.loop-p-init
loop-p-init c = starts_first _ _ _ c.passed-tables.ensures.orderly

pub becomes-tables-requires : goal.becomes-tables-requires
becomes-tables-requires c =
    record { orderly = c.loop-p.invariant.orderly; known = (c.loop-p.invariant.low, c.loop-p-test.true); state = omega arith }

pub loop-p-preserved : goal.loop-p-preserved
loop-p-preserved c =
    elim c.if-starts.branch [
      | then-starts w ↦ rw (w.tables-is, w.number-is)
          (starts-it _ _ _ c.loop-p.invariant c.loop-p-test.true (sym c.starts.ensures ∙ w.if-starts.true) _ w.becomes-tables.ensures)
      | else-starts w ↦ rw (w.tables-is, w.number-is)
          (starts-not _ _ _ c.loop-p.invariant c.loop-p-test.true (sym c.starts.ensures ∙ w.if-starts.false))
    ]

pub returns : goal.returns
returns c =
    starts-done c.args.self _ _ c.args.now _ _ c.requires.orderly.long c.passed-tables.ensures c.loop-p.invariant c.loop-p-test.false
