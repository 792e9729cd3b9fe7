-- `decisions::naming::find` meets its contract. Assumes nothing.
use mathlib.Core.Bool.{not}
use mathlib.Core.Path.{ap}
use Rattle.decisions.proofs.Asked.{is-illegal, is-found}
use Rattle.decisions.proofs.naming.find.Goals as goal

pub returns-then-not-is_legal : goal.returns-then-not-is_legal
returns-then-not-is_legal c = is-illegal _ _ _ c.is_legal.ensures (ap not c.if-not-is_legal.true)

pub returns : goal.returns
returns c =
    rw c.ok_or.ensures.value (is-found _ _ _ c.is_legal.ensures (ap not c.if-not-is_legal.false) _ c.find_program.ensures)
