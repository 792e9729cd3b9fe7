-- `blocks::turning::print_block` meets its contract. The invariant: `end` is where the line at `from` ends, and the turn is what was
-- printed and then the turn that is left.
-- The measure is how much of the block is left. Assumes nothing.
use Prim.Native.Nat.{◌+◌, ◌-◌, ◌≤◌, ◌<◌}
use native.Mathlib.Omega.{arith}
use mathlib.Core.Path.{◌≡◌, sym, subst}
use lib.ListN.{length}
use borrow.Author.Rules.{rules}
use Rattle.limits.specs.Limits.{page_room}
use Rattle.console.specs.Sheet.{line_end}
use Rattle.console.proofs.LineEnds.{LineEnd, line-end, line-within}
use Rattle.blocks.proofs.Going.{Going, going_start, going-over, going-length, going-fits, going-line, turn-full, turn-none, no_lines}
use Rattle.blocks.proofs.turning.print_block.Statement.{statement}
use Rattle.blocks.proofs.turning.print_block.Tie as tie

abbrev invariant-loop : tie.invariant-loop-end
invariant-loop block at out₀ last₀ from₀ used₀ end₀ out last from used end =
    (end ≡ line_end block from) × Going last₀.tables block at out₀ out last.tables from used

abbrev decreases-loop : tie.decreases-loop-end
decreases-loop block at out₀ last₀ from₀ used₀ end₀ out last from used end = length block - from

ends : (c : tie.At-loop-end invariant-loop decreases-loop) → LineEnd c.args.block.now c.loop-end.from c.loop-end.end
ends c = subst (LineEnd c.args.block.now c.loop-end.from) (sym c.loop-end.invariant.0) (line-end c.args.block.now c.loop-end.from)

low : (c : tie.In-loop-end invariant-loop decreases-loop) → c.loop-end.from ≤ c.loop-end.end
low c = ((ends c.before).line (line-within (ends c.before) c.loop-end-test.true)).low

room-left : (c : tie.Else-out-used-lt-PAGE_ROOM invariant-loop decreases-loop) → page_room ≤ length c.args.out.now - c.loop-end.used
room-left c = omega (arith, going-length c.loop-end.invariant.1)

small : (c : tie.After-slice_known-1 invariant-loop decreases-loop) → length c.args.out.now < 18446744073709551616
small c = search rules

fitting : (c : tie.After-bytes_printed-used invariant-loop decreases-loop)
    → c.loop-end.used + c.bytes_printed-used.result ≤ length c.args.out.now
fitting c =
    going-fits c.loop-end.invariant.1 c.loop-end.end (ends c.before.before.before.before.before.before.before.before.before) c.loop-end-test.true (room-left c.before.before.before.before.before.before.before)
    c.print_line-last.result c.print_line-last.new.out (search rules) c.print_line-last.ensures c.bytes_printed-used.result
    c.bytes_printed-used.ensures

loop-holds : tie.Need-loop-end-init invariant-loop decreases-loop
loop-holds c =
    let a = c.args in
    (c.line_end-end.ensures, going_start a.tables a.block.now a.at a.out.now)

sub-if1 : tie.Need-overflow_sub-out invariant-loop decreases-loop
sub-if1 c = omega (arith, going-length c.loop-end.invariant.1)

same_length : tie.Need-shape_of-out-then-out-used-lt-PAGE_ROOM invariant-loop decreases-loop
same_length c = going-length c.loop-end.invariant.1

returns : tie.Need-returns-then-out-used-lt-PAGE_ROOM invariant-loop decreases-loop
returns c =
    going-over c.loop-end.invariant.1 (turn-full c.loop-end.last.tables _ c.loop-end.from _ (omega (arith, going-length c.loop-end.invariant.1)))

sub-print-line : tie.Need-slice_bounds-print_line-count invariant-loop decreases-loop
sub-print-line c = low c.before.before

part-print-line-start : tie.Need-slice_bounds-print_line-start invariant-loop decreases-loop
part-print-line-start c = low c.before.before

sub-print-line-2 : tie.Need-slice_bounds-print_line-count-in-loop-end invariant-loop decreases-loop
sub-print-line-2 c = omega (arith, going-length c.loop-end.invariant.1)

part-print-line-start-2 : tie.Need-slice_bounds-print_line-start-in-loop-end invariant-loop decreases-loop
part-print-line-start-2 c = omega (arith, going-length c.loop-end.invariant.1)

add-used : tie.Need-overflow_add-used invariant-loop decreases-loop
add-used c = record { fits = omega (arith, fitting c, small c.before.before.before.before.before.before.before.before.before.before.before) }

loop-less : tie.Need-loop-end-smaller invariant-loop decreases-loop
loop-less c = omega (arith, low c.before.before.before.before.before.before.before.before.before)

loop-again : tie.Need-loop-end-preserved invariant-loop decreases-loop
loop-again c = (
  c.line_end-end-in-loop-end.ensures,
  going-line c.loop-end.invariant.1 c.loop-end.end (ends c.before.before.before.before.before.before.before.before.before.before) c.loop-end-test.true (room-left c.before.before.before.before.before.before.before.before)
      c.print_line-last.result c.print_line-last.new.out (search rules) c.print_line-last.ensures c.bytes_printed-used.result
      c.bytes_printed-used.ensures,
)

same-length-2 : tie.Need-shape_of-out invariant-loop decreases-loop
same-length-2 c = going-length c.loop-end.invariant.1

returns-2 : tie.Need-returns invariant-loop decreases-loop
returns-2 c =
    going-over c.loop-end.invariant.1 (turn-none c.loop-end.last.tables _ c.loop-end.from _
    (no_lines c.args.block.now c.loop-end.from c.loop-end.end (ends c.before.before) (omega (arith, (ends c.before.before).high))))

pub print_block_spec : {M : Type 1} → statement M
print_block_spec = tie.close (tie.spec invariant-loop decreases-loop (λ c κs. search rules) loop-holds sub-if1 same_length returns sub-print-line part-print-line-start (λ c. search rules) sub-print-line-2 part-print-line-start-2 (λ c. search rules) (λ c κs. search rules) (λ c κs. search rules) add-used (λ c. search rules) (λ c κs. search rules) loop-less loop-again same-length-2 returns-2)
