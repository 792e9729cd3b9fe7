-- `judging::bad_line` meets its contract: no other answer has the number 15. Assumes nothing.
use Prim.Native.Nat.{ℕ}
use mathlib.Core.Path.{sym, ap, ◌∙◌}
use mathlib.Core.List.{List}
use lib.ListN.{get_or}
use borrow.Author.Tests.{eq-eqb}
use Rattle.lists.proofs.Tests.{clash}
use Rattle.rules.specs.Answers.{number, values}
use Rattle.following.proofs.Fifteen.{not-fifteen}
use Rattle.following.proofs.judging.bad_line.Goals as goal

pub returns-in-NotRead : goal.returns-in-NotRead
returns-in-NotRead c n e v = ap (λ (vs : List ℕ). get_or vs 0 0) (sym (ap values c.in-NotRead.is) ∙ v)

pub returns-in_default : goal.returns-in_default
returns-in_default c n e v =
    let a = c.args.answer in
    clash (eq-eqb (number a) 15 e) (not-fifteen a c.in_default.not-NotRead)
