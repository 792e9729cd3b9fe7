-- `pages::put_line_of`: the line looked for is the one of what is left of its number, counted from here. Assumes nothing.
use Prim.Native.Nat.{◌-◌}
use mathlib.Core.Path.{◌≡◌}
use lib.ListN.{length, drop}
use Rattle.text.specs.Lines.{lines_of}
use Rattle.showing.specs.Showing.{line_of_number}
use Rattle.showing.proofs.pages.put_line_of.Given as goal

abbrev pub invariant-loop-from : goal.invariant-loop-from
invariant-loop-from l = record {
  same : l.out.items ≡ l.initial.out.items;
  left : line_of_number l.left (lines_of (drop l.from l.s)) ≡ line_of_number l.n (lines_of l.s);
}

abbrev pub decreases-loop-from : goal.decreases-loop-from
decreases-loop-from l = length l.s - l.from
