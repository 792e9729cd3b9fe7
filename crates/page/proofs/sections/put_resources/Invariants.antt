-- `sections::put_resources` meets its contract. The loop's invariant: what is put and the lines of the numbers behind the
-- first i are all.
-- Assumes nothing.
use mathlib.Core.Path.{◌≡◌}
use mathlib.Core.List.{◌++◌}
use lib.ListN.{take}
use Rattle.lists.specs.Lists.{join}
use Rattle.page.specs.Page.{bytes, number_lines}
use Rattle.page.proofs.Spans.{numbers_from}
use Rattle.page.proofs.sections.put_resources.Given as goal

abbrev pub invariant-loop-i : goal.invariant-loop-i
invariant-loop-i g l =
    let n = l.numbers.count in
    l.out.items ++ join (numbers_from n l.numbers.resources l.i) ≡ l.initial.out.items ++ bytes (number_lines n (take n l.numbers.resources))
