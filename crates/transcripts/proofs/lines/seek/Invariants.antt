-- `lines::seek` meets its contract. The invariant: what is looked for is looked for from `at` on, behind `others` others.
-- Assumes nothing.
use mathlib.Core.Path.{◌≡◌}
use Prim.Native.Nat.{◌-◌}
use lib.ListN.{length}
use Rattle.transcripts.specs.Inner.{lines_from, behind_others}
use Rattle.transcripts.proofs.lines.seek.Given as goal

abbrev pub invariant-loop-at : goal.invariant-loop-at
invariant-loop-at l = behind_others l.key l.n (lines_from l.s l.from) ≡ behind_others l.key l.others (lines_from l.s l.at)

abbrev pub decreases-loop-at : goal.decreases-loop-at
decreases-loop-at l = length l.s - l.at
