-- What stands before i was read as the value, which has at most i - from digits.
use mathlib.Core.Path.{◌≡◌}
use mathlib.Core.Option.{some}
use Prim.Native.Nat.{◌+◌, ◌-◌, ◌<◌, ◌≤◌}
use lib.ListN.{length}
use lib.Seq.{slice}
use Rattle.text.specs.Text.{horner}
use Rattle.text.proofs.Laws.{ten}
use Rattle.text.proofs.digits_from.Given as goal

abbrev pub invariant-loop-i : goal.invariant-loop-i
invariant-loop-i l = (l.from ≤ l.i) × (l.limit ≤ length l.s) × (l.limit ≤ l.from + l.most) × (l.value < ten (l.i - l.from)) × (horner 0 (slice l.from l.i l.s) ≡ some l.value)
