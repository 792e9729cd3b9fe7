-- `requests::put_answer` meets its contract: the bytes printed are the answer's line, of which the last byte is left out.
-- Assumes nothing.
use Prim.Native.Nat.{ℕ, ◌-◌}
use native.Mathlib.Omega.{arith}
use borrow.Author.Rules.{rules}
use mathlib.Core.Path.{sym, ap, ◌∙◌}
use mathlib.Core.List.{List, ◌++◌}
use lib.ListN.{length}
use lib.Seq.{length-take-le}
use Rattle.showing.proofs.ShownLaws.{answer-some, printed-many, printed-within, printed_line}
use Rattle.showing.proofs.requests.put_answer.Goals as goal

pub slice_bounds-printed-count : goal.slice_bounds-printed-count
slice_bounds-printed-count c =
    let a = c.args.answer in
    omega (arith, answer-some a, printed-many a c.print_answer-n.ensures)

pub slice_bounds-printed-end : goal.slice_bounds-printed-end
slice_bounds-printed-end c = omega (arith, printed-within c.args.answer c.print_answer-n.ensures)

pub slice_bounds-put_bytes-length : goal.slice_bounds-put_bytes-length
slice_bounds-put_bytes-length c =
    let p = c.print_answer-n in
    sym (length-take-le (p.result - 1) p.new.out (omega (arith, printed-within c.args.answer p.ensures)))

pub put_bytes-requires : goal.put_bytes-requires
put_bytes-requires c = (search rules, omega (arith, c.requires, ap length (printed_line c.args.answer c.print_answer-n.ensures)))

pub returns : goal.returns
returns c =
    c.put_bytes.ensures ∙ ap (λ (x : List ℕ). c.args.out.now.items ++ x) (printed_line c.args.answer c.print_answer-n.ensures)
