-- `tracks::sound::others_ok` meets its contract. The invariant: the sum of the marks so far is 0 exactly where each is. Assumes nothing.
use Prim.Native.Nat.{◌-◌, ◌≤◌, ◌*◌}
use lib.ListN.{get_or}
use Rattle.tracks.specs.Inner.{Serves}
use Rattle.tracks.proofs.Tells.{Tally}
use Rattle.tracks.proofs.sound.others_ok.Given as goal

abbrev pub invariant-loop-i : goal.invariant-loop-i
invariant-loop-i l = (l.i ≤ l.all) × (l.sum ≤ 255 * l.i) × Tally (λ k. Serves l.marks (get_or l.holders k 0)) l.own l.i l.sum

abbrev pub decreases-loop-i : goal.decreases-loop-i
decreases-loop-i l = l.all - l.i
