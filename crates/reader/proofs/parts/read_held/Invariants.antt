-- `read_held` reads the tracks that are held, up to a line that is none. What is read so far stands in the places of a table.
-- Assumes nothing.
use Prim.Native.Nat.{◌-◌}
use lib.ListN.{length}
use Rattle.tracks.specs.Tracks.{table_at}
use Rattle.reader.proofs.HeldLaws.{SoFar}
use Rattle.reader.proofs.parts.read_held.Given as goal

abbrev pub invariant-loop-run : goal.invariant-loop-run
invariant-loop-run l =
    SoFar l.s l.at l.line (table_at l.tracks.count l.tracks.system l.initial.places) (table_at l.tracks.count l.tracks.system l.places) l.o l.n

abbrev pub decreases-loop-run : goal.decreases-loop-run
decreases-loop-run l = length l.s - l.o
