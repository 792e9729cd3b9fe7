-- `read_chains` reads the chains of the states that are shown.
-- Assumes nothing.
use Rattle.reader.proofs.ChainsLaws.{SoFar}
use Rattle.reader.proofs.parts.read_chains.Given as goal

abbrev pub invariant-loop-state : goal.invariant-loop-state
invariant-loop-state l = SoFar l.s l.at l.line l.links l.o l.n l.state-index
