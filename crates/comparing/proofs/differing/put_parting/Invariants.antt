-- The two are alike up to the lines at a and b. Assumes nothing.
use Prim.Native.Nat.{◌-◌}
use lib.ListN.{length}
use Rattle.comparing.proofs.PartingLaws.{Together}
use Rattle.comparing.proofs.differing.put_parting.Given as goal

abbrev pub invariant-loop-a : goal.invariant-loop-a
invariant-loop-a g l = Together l.sheet l.written l.a l.b l.n

abbrev pub decreases-loop-a : goal.decreases-loop-a
decreases-loop-a g l = length l.sheet - l.a
