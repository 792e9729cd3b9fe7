-- `tables::sound::others_settled` meets its contract. The loop's invariant: the programs below p are settled.
-- Assumes nothing.
use Rattle.std.proofs.Common.{◌≡◌, ℕ, ◌+◌, ◌-◌, ◌≤◌, ◌<◌, true, get_or}
use Rattle.limits.specs.Limits.{states}
use Rattle.tables.specs.Walks.{of_program, settled}
use Rattle.tables.proofs.sound.others_settled.Given as goal

abbrev pub invariant-loop-p : goal.invariant-loop-p
invariant-loop-p l =
    (1 ≤ l.p)
    × ((k : ℕ) → 1 ≤ k → k < l.p → settled (get_or l.met (k - 1) 0) (get_or l.links (states + k) 0) (of_program l.states k) ≡ true)
