-- `values::put_joined` meets its contract. The loop's invariant: what is put and the others that are left are all.
-- Assumes nothing.
use mathlib.Core.Path.{◌≡◌}
use mathlib.Core.List.{◌++◌}
use lib.ListN.{drop}
use Rattle.page.specs.Inner.{others}
use Rattle.page.proofs.values.put_joined.Given as goal

abbrev pub invariant-loop-id : goal.invariant-loop-id
invariant-loop-id g l = l.out.items ++ others (drop l.id-index l.others) ≡ l.initial.out.items ++ others l.others
