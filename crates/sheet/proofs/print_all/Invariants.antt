-- At most 73 bytes are held between two reads.
use Rattle.std.proofs.Common.{◌≤◌}
use Rattle.blocks.specs.Blocks.{most}
use Rattle.sheet.proofs.print_all.Given as goal

abbrev pub invariant-loop : goal.invariant-loop
invariant-loop l = l.have ≤ most
