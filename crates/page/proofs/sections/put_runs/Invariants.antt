-- `sections::put_runs` meets its contract. The loop's invariant: what is put and the lines of the runs from `first` on are
-- all. The measure is the tracks left.
-- Assumes nothing.
use Prim.Native.Nat.{◌-◌, ◌≤◌}
use mathlib.Core.Path.{◌≡◌}
use mathlib.Core.List.{◌++◌}
use lib.ListN.{take}
use Rattle.lists.specs.Lists.{join}
use Rattle.page.specs.Page.{bytes, held_lines}
use Rattle.page.proofs.Spans.{held_from}
use Rattle.page.proofs.sections.put_runs.Given as goal

abbrev pub invariant-loop-first : goal.invariant-loop-first
invariant-loop-first g l =
    (l.first ≤ l.count)
    × (l.out.items ++ join (held_from (take l.count l.places) l.first) ≡ l.initial.out.items ++ bytes (held_lines (take l.count l.places)))

abbrev pub decreases-loop-first : goal.decreases-loop-first
decreases-loop-first g l = l.count - l.first
