-- `values::coded_to` finds a word, and reads the number behind it.
-- Assumes nothing.
use mathlib.Core.Path.{refl, sym, subst}
use lib.ListN.{length}
use Rattle.text.specs.Inner.{BehindAt}
use Rattle.shapes.specs.Inner.{FigureTo}
use Rattle.shapes.proofs.MarkedFigures.{uncoded, coded-figure}
use Rattle.shapes.proofs.values.coded_to.Goals.{In_ok-i}
use Rattle.shapes.proofs.values.coded_to.Goals as goal

found : (c : In_ok-i) → let a = c.args in
    BehindAt a.word.now a.s.now a.from (length a.s.now) c.in_ok-i.i
found c = c.in_ok-i.ensures.at _ refl

pub returns-in_err-i : goal.returns-in_err-i
returns-in_err-i c = subst (FigureTo _ _ _ _) (sym c.from_residual.ensures) (uncoded _ _ (c.in_err-i.ensures.not refl))

pub figure_to-requires-clause-from_in_bounds : goal.figure_to-requires-clause-from_in_bounds
figure_to-requires-clause-from_in_bounds c = (found (goal.at.figure_to-requires-clause-from_in_bounds c).In_ok-i).high

pub returns : goal.returns
returns c = coded-figure _ c.args.mark (found (goal.at.returns c).In_ok-i) c.figure_to.result c.figure_to.ensures
