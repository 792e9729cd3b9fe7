-- `console::answers::put_dotted` meets its contract: there is room for what is left (`dotted-room`). Assumes nothing.
use native.Mathlib.Omega.{arith}
use borrow.Author.Rules.{rules}
use Rattle.console.proofs.AnswerLaws.{dotted-room}
use Rattle.console.proofs.answers.put_dotted.Goals as goal

pub push-requires : goal.push-requires
push-requires g c = (search rules, omega (arith, dotted-room _ _ c.args.numbers.now c.loop-n.n-index c.loop-n-test.true c.loop-n.invariant))
