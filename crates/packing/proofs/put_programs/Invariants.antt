-- `packing::put_programs`: what is put and what is left to be put make up the whole. Assumes nothing.
use Rattle.std.proofs.Common.{◌≡◌, ◌+◌, ◌*◌, ◌++◌, map, drop, length}
use Rattle.lists.specs.Lists.{join}
use Rattle.packing.specs.Packed.{pack_program}
use Rattle.packing.proofs.put_programs.Given as goal

abbrev pub invariant-loop-r : goal.invariant-loop-r
invariant-loop-r g l = record {
  left : l.out.items ++ join (map pack_program (drop l.r-index l.programs)) ≡ l.initial.out.items ++ join (map pack_program l.programs);
  long : length l.out.items ≡ length l.initial.out.items + 29 * l.r-index;
}
