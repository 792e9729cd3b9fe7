-- `console::answers::print_answer` meets its contract: no answer's line is longer than the room asked for. Assumes nothing.
use Prim.Native.Nat.{ℕ}
use native.Mathlib.Omega.{arith}
use mathlib.Core.Path.{◌≡◌, sym, ap, ◌∙◌}
use mathlib.Core.Bool.{Bool, true, false, cond}
use mathlib.Core.List.{List}
use lib.ListN.{length}
use lib.Dec.{leb}
use borrow.Author.Tests.{le-leb, lt-leb}
use Rattle.rules.specs.Answers.{number, values}
use Rattle.rules.specs.declared.Answer.{Answer}
use Rattle.rules.specs.Engine.{front}
use Rattle.console.specs.Sheet.{longest_answer, answer_put}
use Rattle.console.specs.Inner.{values_line, answer_bytes}
use Rattle.console.proofs.AnswerLaws.{answer-room}
use Rattle.console.proofs.answers.print_answer.Goals as goal

module _ (a : Answer) (out : List ℕ) where
  -- by the room that is lent
  by-room : (b : Bool) → leb longest_answer (length out) ≡ b
      → answer_put (number a) (values a) out
      ≡ cond b (record { many = length (answer_bytes a); buffer = front (answer_bytes a) out }) (record { many = 0; buffer = out })
  unfolding answer_put answer_bytes values_line
  by-room b e = ap
      (λ (t : Bool). cond t (record { many = length (answer_bytes a); buffer = front (answer_bytes a) out }) (record { many = 0; buffer = out })) e

pub returns-then-out-lt-LONGEST_ANSWER : goal.returns-then-out-lt-LONGEST_ANSWER
returns-then-out-lt-LONGEST_ANSWER c =
    let a = c.args in
    sym (by-room a.answer a.out.now false (lt-leb longest_answer (length a.out.now) c.if-out-lt-LONGEST_ANSWER.true))

pub put_answer-requires : goal.put_answer-requires
put_answer-requires c =
    omega (arith, answer-room c.args.answer, c.if-out-lt-LONGEST_ANSWER.false)

pub returns : goal.returns
returns c =
    let a = c.args in
    (λ i. record { many = c.put_answer.ensures.many i; buffer = c.put_answer.ensures.buffer i })
    ∙ sym (by-room a.answer a.out.now true (le-leb longest_answer (length a.out.now) c.if-out-lt-LONGEST_ANSWER.false))
