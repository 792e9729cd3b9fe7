-- `packing::tables_at` meets its contract: its parts are those of the tables. Assumes nothing.
use mathlib.Core.Path.{◌∙◌}
use lib.ListN.{get_or}
use Rattle.tracks.specs.Tracks.{table_at}
use Rattle.packing.specs.Packed.{unpacked}
use Rattle.packing.proofs.tables_at.Goals as goal

pub returns : goal.returns
unfolding unpacked
returns c =
    let s = c.args.s.now in
    λ i. record {
      ledger = record {
        programs = c.programs_at.ensures i;
        clock = (c.from_ticks.ensures ∙ (λ j. record { ticks = c.long_at.ensures j; year = c.pair_at.ensures j })) i;
        tracks = (c.from_places.ensures ∙ (λ j. table_at (c.pair_at-2.ensures j) (c.pair_at-3.ensures j) (c.part_at-holders.ensures j))) i;
        numbers = record { count = get_or s 14 0; resources = c.resources_at.ensures i };
      };
      links = c.part_at-links.ensures i;
    }
