-- `tracks::sound::blank_ok` meets its contract. The invariant: the largest holder so far is 0 exactly where each is. Assumes nothing.
use Prim.Native.Nat.{◌-◌, ◌≤◌}
use mathlib.Core.Path.{◌≡◌}
use lib.ListN.{get_or}
use Rattle.tracks.proofs.Tells.{Tally}
use Rattle.tracks.proofs.sound.blank_ok.Given as goal

abbrev pub invariant-loop-i : goal.invariant-loop-i
invariant-loop-i l = (l.i ≤ 256) × Tally (λ k. get_or l.holders k 0 ≡ 0) l.all l.i l.most

abbrev pub decreases-loop-i : goal.decreases-loop-i
decreases-loop-i l = 256 - l.i
