-- `sections::put_records` meets its contract. The loop's invariant: what is put and the lines of the used records behind
-- the first i are all.
-- Assumes nothing.
use Prim.Native.Nat.{◌+◌}
use mathlib.Core.Path.{◌≡◌}
use mathlib.Core.List.{◌++◌}
use Rattle.lists.specs.Lists.{join}
use Rattle.page.specs.Page.{bytes, record_lines}
use Rattle.page.proofs.Spans.{records_from}
use Rattle.page.proofs.sections.put_records.Given as goal

abbrev pub invariant-loop-i : goal.invariant-loop-i
invariant-loop-i g l = l.out.items ++ join (records_from l.programs (l.i + 1)) ≡ l.initial.out.items ++ bytes (record_lines l.programs)
