-- What is gone from `rest` was written.
use Rattle.streams.specs.Fronts.{Written}
use Rattle.streams.proofs.waiting.write_whole.Given as goal

abbrev pub invariant-loop : goal.invariant-loop
invariant-loop g l = Written (g.W.Write.contents l.initial.to) (g.W.Write.contents l.to) l.fn.bytes l.rest
