-- `records::Numbers::without` meets its contract. The invariant: the first of the places are changed. Assumes nothing.
use Rattle.std.proofs.Common.{◌≡◌}
use Rattle.records.specs.Numbers.{without}
use Rattle.records.proofs.Table.{changed}
use Rattle.records.proofs.Numbers.without.Given as goal

abbrev pub invariant-loop-x : goal.invariant-loop-x
invariant-loop-x l = l.x-items ≡ changed (without l.p) l.x-index l.self.resources
