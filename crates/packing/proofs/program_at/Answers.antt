-- `packing::program_at` meets its contract: its parts are the record's. Assumes nothing.
use Prim.Native.Nat.{◌+◌}
use mathlib.Core.Path.{◌∙◌, ap}
use lib.Dec.{ltb}
use lib.ListN.{get_or}
use Rattle.packing.specs.Packed.{why_of, program_at}
use Rattle.packing.proofs.program_at.Goals as goal

pub returns : goal.returns
unfolding program_at
returns c =
    let s = c.args.s.now in
    let o = c.args.at in
    λ i. record {
      used = ltb 0 (get_or s o 0);
      name = c.part_at.ensures i;
      priority = c.pair_at.ensures i;
      state = get_or s (o + 8) 0;
      why = (c.why_of.ensures ∙ ap (why_of (get_or s (o + 9) 0)) c.pair_at-2.ensures) i;
      due = c.long_at.ensures i;
      interval = c.long_at-2.ensures i;
      suspend = ltb 0 (get_or s (o + 28) 0);
    }
