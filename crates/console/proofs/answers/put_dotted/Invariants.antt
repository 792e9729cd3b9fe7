-- `console::answers::put_dotted`: what is put and what is left to be put make up the whole. Assumes nothing.
use Rattle.std.proofs.Common.{◌≡◌, ◌++◌, drop}
use Rattle.console.specs.Inner.{dotted}
use Rattle.console.proofs.answers.put_dotted.Given as goal

abbrev pub invariant-loop-n : goal.invariant-loop-n
invariant-loop-n g l = l.out.items ++ dotted (drop l.n-index l.numbers) ≡ l.initial.out.items ++ dotted l.numbers
