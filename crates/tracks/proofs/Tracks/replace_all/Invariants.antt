-- `tracks::Tracks::replace_all` meets its contract. The loop's invariant: the tracks that were passed have changed their holder.
-- Assumes nothing.
use Rattle.std.proofs.Common.{◌≡◌}
use Rattle.tracks.specs.Tracks.{holders}
use Rattle.tracks.proofs.Turns.{passed}
use Rattle.tracks.proofs.Tracks.replace_all.Given as goal

abbrev pub invariant-loop-x : goal.invariant-loop-x
invariant-loop-x l = l.x-items ≡ passed l.p l.h l.x-index (holders l.self)
