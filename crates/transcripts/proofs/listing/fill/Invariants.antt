-- `listing::fill` meets its contract. The invariant: what is put, and what the lines from `at` on add to it, is the whole (FillLaws.antt);
-- the measure is what is left of the original. Assumes nothing.
use Prim.Native.Nat.{◌-◌}
use lib.ListN.{length}
use Rattle.transcripts.proofs.FillLaws.{Filling}
use Rattle.transcripts.proofs.listing.fill.Given as goal

abbrev pub invariant-loop-at : goal.invariant-loop-at
invariant-loop-at l = Filling l.width l.original l.copy l.initial.list l.list l.at l.base l.other l.line l.put l.found

abbrev pub decreases-loop-at : goal.decreases-loop-at
decreases-loop-at l = length l.original - l.at
