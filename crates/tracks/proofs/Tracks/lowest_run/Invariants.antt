-- `tracks::Tracks::lowest_run` meets its contract. The loop's invariant: what one pass knows before it looks at a
-- track (`Sought`). The measure is the tracks left.
-- Assumes nothing.
use Prim.Native.Nat.{◌-◌, ◌<◌}
use Rattle.tracks.specs.Tracks.{holders}
use Rattle.tracks.proofs.RunLengths.{Sought}
use Rattle.tracks.proofs.Tracks.lowest_run.Given as goal

abbrev pub invariant-loop-track : goal.invariant-loop-track
invariant-loop-track l = Sought l.n (holders l.self) l.length l.track × (l.length < l.n)

abbrev pub decreases-loop-track : goal.decreases-loop-track
decreases-loop-track l = l.end - l.track
