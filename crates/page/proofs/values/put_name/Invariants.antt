-- `values::put_name` meets its contract. The loop's invariant: what is put and what the rest of the name gives are all.
-- Assumes nothing.
use mathlib.Core.Path.{◌≡◌}
use mathlib.Core.List.{◌++◌}
use lib.ListN.{drop}
use Rattle.records.specs.Names.{bare}
use Rattle.page.proofs.values.put_name.Given as goal

abbrev pub invariant-loop-c : goal.invariant-loop-c
invariant-loop-c g l = l.out.items ++ bare (drop l.c-index l.fn.name) ≡ l.initial.out.items ++ bare l.fn.name
