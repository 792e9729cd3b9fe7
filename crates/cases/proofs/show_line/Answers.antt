-- What a line printed fits the buffer that was lent for it.
use Rattle.std.proofs.Common.{arith, rules, sym, length-take-le}
use Rattle.console.proofs.OneLine.{printed-fits}
use Rattle.cases.proofs.show_line.Goals as goal

pub slice_bounds-out-end : goal.slice_bounds-out-end
slice_bounds-out-end c =
    let p = c.print_line-printed in
    omega (arith, printed-fits _ _ _ p.new.out p.result p.ensures (search rules))

pub slice_bounds-write-end : goal.slice_bounds-write-end
slice_bounds-write-end c =
    let p = c.print_line-printed in
    sym (length-take-le _ _ (omega (arith, printed-fits _ _ _ p.new.out p.result p.ensures (search rules))))
