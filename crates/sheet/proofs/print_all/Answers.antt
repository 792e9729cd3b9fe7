-- `blocks` carries at most 73 bytes.
use Rattle.blocks.proofs.Copying.{held-few}
use Rattle.sheet.proofs.print_all.Goals as goal

pub loop-preserved : goal.loop-preserved
loop-preserved c = held-few _ _ _ _ c.carry-have.ensures
