-- `lines::first_keyed` meets its contract. The invariant: the first line with a key is the first from `at` on. Assumes nothing.
use mathlib.Core.Path.{◌≡◌}
use Prim.Native.Nat.{◌-◌}
use lib.ListN.{length}
use Rattle.transcripts.specs.Inner.{lines_from, first_keyed}
use Rattle.transcripts.proofs.lines.first_keyed.Given as goal

abbrev pub invariant-loop-at : goal.invariant-loop-at
invariant-loop-at l = first_keyed (lines_from l.s l.from) ≡ first_keyed (lines_from l.s l.at)

abbrev pub decreases-loop-at : goal.decreases-loop-at
decreases-loop-at l = length l.s - l.at
