-- While lines are left each turn prints for one of them, and so leaves fewer; a turn that prints nothing is the last.
use Rattle.std.proofs.Common.{arith, rules, sym, length-take-le}
use Rattle.blocks.proofs.AllTurns.{turned-fits, onward-start, onward-turn, onward-none, turn-fewer, turn_last}
use Rattle.sheet.proofs.print_turns.Goals as goal

pub loop-reached-init : goal.loop-reached-init
loop-reached-init c = onward-start c.args.tables c.args.block.now

pub slice_bounds-write-end : goal.slice_bounds-write-end
slice_bounds-write-end c = omega (arith, turned-fits _ _ _ _ _ c.print_block-turn.ensures (search rules))

pub slice_bounds-write-end-in-loop-reached : goal.slice_bounds-write-end-in-loop-reached
slice_bounds-write-end-in-loop-reached c =
    sym (length-take-le _ _ (omega (arith, turned-fits _ _ _ _ _ c.print_block-turn.ensures (search rules))))

pub loop-reached-smaller : goal.loop-reached-smaller
loop-reached-smaller c =
    let l = c.loop-reached in
    let p = c.print_block-turn in
    omega (arith, turn-fewer l.reached.tables c.args.block.now l.reached.place l.out _ p.ensures (λ q. omega arith))

pub loop-reached-preserved : goal.loop-reached-preserved
loop-reached-preserved c =
    let l = c.loop-reached in
    onward-turn l.reached.tables c.args.block.now l.reached.place l.out _ c.print_block-turn.ensures l.invariant

pub returns-then-used-eq0 : goal.returns-then-used-eq0
returns-then-used-eq0 c =
    let l = c.loop-reached in
    let p = c.print_block-turn in
    let n = onward-none (onward-turn l.reached.tables c.args.block.now l.reached.place l.out _ p.ensures l.invariant)
    (turn_last l.reached.tables c.args.block.now l.reached.place l.out _ p.ensures (search rules) c.if-used-eq0.true) in
    record { tables = n.0; rest = n.1 }
