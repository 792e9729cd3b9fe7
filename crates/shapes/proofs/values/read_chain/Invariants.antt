-- `values::read_chain` meets its contract. The invariant: what is left of the chain, put into the links so far, gives what
-- the whole gives, put into the links as given. Assumes nothing.
use Rattle.std.specs.Prelude.{length}
use Rattle.shapes.proofs.ValueLaws.{Chaining}
use Rattle.shapes.proofs.values.read_chain.Given as goal

abbrev pub invariant-loop-part : goal.invariant-loop-part
invariant-loop-part l = Chaining l.s l.initial.laid l.initial.slot l.laid l.slot (length l.yielded)
