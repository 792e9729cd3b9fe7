-- What was read is at the front of the room. The room that is left shrinks.
use Rattle.std.proofs.Common.{◌-◌, ◌≤◌, length, take}
use Rattle.std.specs.Io.KnownBytes.{Consumes}
use Rattle.streams.proofs.waiting.read_whole.Given as goal

abbrev pub invariant-loop-have : goal.invariant-loop-have
invariant-loop-have g l = (l.have ≤ length l.room) × Consumes (g.R.Read.remaining l.initial.from) (g.R.Read.remaining l.from) (take l.have l.room)

abbrev pub decreases-loop-have : goal.decreases-loop-have
decreases-loop-have g l = length l.room - l.have
