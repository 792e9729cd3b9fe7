-- `end` is where the line at `from` ends, and the lines from `from` on are left of the block's. The measure is how much of the block is left.
use Rattle.std.proofs.Common.{◌≡◌, ◌-◌, length}
use Rattle.console.specs.Sheet.{line_end}
use Rattle.blocks.proofs.AllTurns.{Onward}
use Rattle.follow.proofs.requests.key_block.Given as goal

abbrev pub invariant-loop-end : goal.invariant-loop-end
invariant-loop-end l = (l.end ≡ line_end l.block l.from) × Onward l.initial.keying.tables l.block l.keying.tables l.from

abbrev pub decreases-loop-end : goal.decreases-loop-end
decreases-loop-end l = length l.block - l.from
