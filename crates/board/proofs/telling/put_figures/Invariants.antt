-- `board::telling::put_figures`: what is put and what is left to be put make up the whole. Assumes nothing.
use Rattle.std.proofs.Common.{◌≡◌, ◌+◌, ◌*◌, ◌++◌, map, drop, length}
use Rattle.lists.specs.Lists.{join}
use Rattle.packing.specs.Packed.{in_bytes}
use Rattle.board.proofs.telling.put_figures.Given as goal

abbrev pub invariant-loop-v : goal.invariant-loop-v
invariant-loop-v l = record {
  left : l.out.items ++ join (map (in_bytes 8) (drop l.v-index l.v-items)) ≡ l.initial.out.items ++ join (map (in_bytes 8) l.v-items);
  long : length l.out.items ≡ 8 + 8 * l.v-index;
}
