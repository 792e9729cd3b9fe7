-- `lines::dashed_at` reads a line with a number or a dash: its key, then its value.
-- Assumes nothing.
use native.Mathlib.Omega.{arith}
use mathlib.Core.Bool.{true}
use mathlib.Core.Path.{refl, sym, subst}
use Rattle.shapes.specs.Shapes.{figure_or_dash}
use Rattle.shapes.specs.Inner.{SaidIs, word_is, FigureAt}
use Rattle.shapes.proofs.MarkedFigures.{dashed-free, no-dash}
use Rattle.shapes.proofs.MarkedLines.{line-no-key, figure-line}
use Rattle.shapes.proofs.lines.dashed_at.Goals.{In_ok-from}
use Rattle.shapes.proofs.lines.dashed_at.Goals as goal

found : (c : In_ok-from)
    → let a = c.args in SaidIs (word_is a.key.now) 61 a.s.now a.at true c.in_ok-from.from
found c = c.in_ok-from.ensures

pub returns-in_err-from : goal.returns-in_err-from
returns-in_err-from c = subst (FigureAt _ _ _ _) (sym c.from_residual.ensures) (line-no-key figure_or_dash c.in_err-from.ensures)

pub dashed_to-requires : goal.dashed_to-requires
dashed_to-requires c = record { from_in_bounds = (found (goal.at.dashed_to-requires c).In_ok-from).within; mark_value = refl }

pub returns : goal.returns
returns c = figure-line (found (goal.at.returns c).In_ok-from) c.requires.key_value figure_or_dash (dashed-free 10 (λ h. omega arith) no-dash)
    c.dashed_to.result c.dashed_to.ensures
