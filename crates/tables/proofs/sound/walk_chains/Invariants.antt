-- `tables::sound::walk_chains` meets its contract. The invariant of the loop over the states is `Sofar`: the chains of the
-- states below are in order and marked; its measure is the states left. That of a walk is `Going`: what was passed and marked;
-- its measure is how many are not marked.
-- Assumes nothing.
use Prim.Native.Nat.{◌-◌}
use mathlib.Core.Path.{◌≡◌}
use lib.ListN.{length}
use Rattle.lists.specs.Lists.{count}
use Rattle.tables.specs.Walks.{of_program}
use Rattle.tables.proofs.Chained.{Sofar}
use Rattle.tables.proofs.Walking.{Going}
use Rattle.tables.proofs.sound.walk_chains.Given as goal

abbrev pub invariant-loop-n : goal.invariant-loop-n
invariant-loop-n l = Going (of_program l.states) (of_program l.priorities) l.links l.state l.initial.met l.met l.least l.n

abbrev pub decreases-loop-n : goal.decreases-loop-n
decreases-loop-n l = count 0 l.met

abbrev pub invariant-loop-state : goal.invariant-loop-state
invariant-loop-state l = (length l.met ≡ 32) × Sofar (of_program l.states) (of_program l.priorities) l.links l.state l.met

abbrev pub decreases-loop-state : goal.decreases-loop-state
decreases-loop-state l = 7 - l.state
