-- `lines::count_key` meets its contract. The invariant: those counted and those of the lines that are left are all. Assumes nothing.
use Prim.Native.Nat.{◌-◌}
use Rattle.transcripts.proofs.CountLaws.{Counting}
use Rattle.transcripts.proofs.lines.count_key.Given as goal

abbrev pub invariant-loop-at : goal.invariant-loop-at
invariant-loop-at l = Counting l.key l.s l.from l.to l.at l.n

abbrev pub decreases-loop-at : goal.decreases-loop-at
decreases-loop-at l = l.to - l.at
