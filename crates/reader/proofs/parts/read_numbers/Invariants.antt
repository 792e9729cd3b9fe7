-- `read_numbers` reads the numbers that are allocated, up to a line that is none.
-- Assumes nothing.
use Prim.Native.Nat.{◌-◌}
use lib.ListN.{length}
use Rattle.reader.proofs.NumberLaws.{SoFar}
use Rattle.reader.proofs.parts.read_numbers.Given as goal

abbrev pub invariant-loop-resource : goal.invariant-loop-resource
invariant-loop-resource l = SoFar l.s l.at l.line l.initial.table l.table l.o l.n

abbrev pub decreases-loop-resource : goal.decreases-loop-resource
decreases-loop-resource l = length l.s - l.o
