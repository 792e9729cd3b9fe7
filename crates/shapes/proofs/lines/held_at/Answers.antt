-- `lines::held_at` reads a line of what is held: its key, then its value.
-- Assumes nothing.
use mathlib.Core.Bool.{true}
use mathlib.Core.Path.{sym, subst}
use Rattle.text.specs.Text.{text}
use Rattle.page.specs.Page.{held_key}
use Rattle.shapes.specs.Inner.{SaidIs, word_is, held_in, RunAt}
use Rattle.shapes.proofs.MarkedLines.{line-no-key, run-line}
use Rattle.shapes.proofs.lines.held_at.Goals.{In_ok-from}
use Rattle.shapes.proofs.lines.held_at.Goals as goal

-- the key
found : (c : In_ok-from) → let a = c.args in
    SaidIs (word_is (text held_key)) 61 a.s.now a.at true c.in_ok-from.from
found c = c.in_ok-from.ensures

pub returns-in_err-from : goal.returns-in_err-from
returns-in_err-from c = subst (RunAt _ _) (sym c.from_residual.ensures) (line-no-key held_in c.in_err-from.ensures)

pub run_to-requires : goal.run_to-requires
run_to-requires c = (found (goal.at.run_to-requires c).In_ok-from).within

pub returns : goal.returns
returns c = run-line (found (goal.at.returns c).In_ok-from) c.run_to.result c.run_to.ensures
