-- No answer's line is longer than the room that is lent for it.
use Rattle.std.proofs.Common.{◌≡◌, ◌≤◌, ℕ, List, length, arith, ap, sym, length-take-le}
use native.Mathlib.Decide.{dec_le}
use borrow.Author.Tests.{le-leb, lt-leb}
use Rattle.rules.specs.Answers.{number, values}
use Rattle.rules.specs.declared.Answer.{Answer}
use Rattle.console.specs.Sheet.{Put, longest_answer, answer_put}
use Rattle.console.specs.Inner.{values_line, answer_bytes}
use Rattle.console.proofs.AnswerLaws.{answer-room}
use Rattle.desk.proofs.showing.put_answer.Goals as goal

fits : (a : Answer) (out : List ℕ) (r : Put) → r ≡ answer_put (number a) (values a) out → r.many ≤ length out
unfolding answer_put answer_bytes values_line
fits a out r e = go (dec_le longest_answer (length out))
  where
    go : Dec (longest_answer ≤ length out) → r.many ≤ length out
    go (yes h) = omega (arith, answer-room a, rw (le-leb longest_answer (length out) h) at (ap (λ (p : Put). p.many) e))
    go (no h) = omega (arith, rw (lt-leb longest_answer (length out) (omega arith)) at (ap (λ (p : Put). p.many) e))

pub slice_bounds-line-end : goal.slice_bounds-line-end
slice_bounds-line-end c = omega (arith, fits c.args.answer _ _ c.print_answer-n.ensures)

pub slice_bounds-put-end : goal.slice_bounds-put-end
slice_bounds-put-end c = sym (length-take-le _ _ (omega (arith, fits c.args.answer _ _ c.print_answer-n.ensures)))
