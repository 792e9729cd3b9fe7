-- `blocks` carries at most 73 bytes.
use Rattle.blocks.proofs.Copying.{held-few}
use Rattle.follow.proofs.requests.pass_block.Goals as goal

pub returns : goal.returns
returns c = held-few _ _ _ _ c.carry.ensures
