-- `packing::put_resources`: what is put and what is left to be put make up the whole. Assumes nothing.
use Rattle.std.proofs.Common.{◌≡◌, ◌+◌, ◌*◌, ◌++◌, map, drop, length}
use Rattle.lists.specs.Lists.{join}
use Rattle.packing.specs.Packed.{pack_resource}
use Rattle.packing.proofs.put_resources.Given as goal

abbrev pub invariant-loop-x : goal.invariant-loop-x
invariant-loop-x g l = record {
  left : l.out.items ++ join (map pack_resource (drop l.x-index l.resources)) ≡ l.initial.out.items ++ join (map pack_resource l.resources);
  long : length l.out.items ≡ length l.initial.out.items + 2 * l.x-index;
}
