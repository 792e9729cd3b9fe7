-- `lines::reason_at` reads a line with a why: its key, then its value.
-- Assumes nothing.
use mathlib.Core.Bool.{true}
use mathlib.Core.Path.{sym, subst}
use Rattle.shapes.specs.Inner.{SaidIs, word_is, reason_in, ReasonAt}
use Rattle.shapes.proofs.MarkedLines.{line-no-key, reason-line}
use Rattle.shapes.proofs.lines.reason_at.Goals.{In_ok-from}
use Rattle.shapes.proofs.lines.reason_at.Goals as goal

found : (c : In_ok-from)
    → let a = c.args in SaidIs (word_is a.key.now) 61 a.s.now a.at true c.in_ok-from.from
found c = c.in_ok-from.ensures

pub returns-in_err-from : goal.returns-in_err-from
returns-in_err-from c = subst (ReasonAt _ _ _) (sym c.from_residual.ensures) (line-no-key reason_in c.in_err-from.ensures)

pub reason_to-requires : goal.reason_to-requires
reason_to-requires c = (found (goal.at.reason_to-requires c).In_ok-from).within

pub returns : goal.returns
returns c = reason-line (found (goal.at.returns c).In_ok-from) c.requires.key_value c.reason_to.result c.reason_to.ensures
