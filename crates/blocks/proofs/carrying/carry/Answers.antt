-- `blocks::carrying::carry` meets its contract: nothing is carried where the places are none of the block, and else what is
-- copied to the front is (`carried-is`). Assumes nothing.
use Rattle.blocks.proofs.Copying.{carried-is, carried-turned, carried-past}
use Rattle.blocks.proofs.carrying.carry.Goals.{then-to-from-via-then-to-from, then-to-from-via-else-to-from+then-block-to}
use Rattle.blocks.proofs.carrying.carry.Goals as goal

pub returns-then-to-from : goal.returns-then-to-from
returns-then-to-from c =
    let a = c.args in
    elim c.then-to-from.branch [
      | then-to-from-via-then-to-from w ↦ carried-turned a.block.now a.from a.to w.if-to-from.true
      | then-to-from-via-else-to-from+then-block-to w ↦ carried-past a.block.now a.from a.to w.if-to-from.false w.if-block-to.true
    ]

pub returns : goal.returns
returns c =
    let a = c.args in
    carried-is a.block.now a.from a.to c.min-n.result c.if-to-from.false c.if-block-to.false c.min-n.ensures c.copy_within.ensures.after
