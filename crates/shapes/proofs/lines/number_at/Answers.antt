-- `lines::number_at` reads a line of a resource number: its key, then its value.
-- Assumes nothing.
use mathlib.Core.Bool.{true}
use mathlib.Core.Path.{sym, subst}
use Rattle.text.specs.Text.{text}
use Rattle.page.specs.Page.{number_key}
use Rattle.shapes.specs.Inner.{SaidIs, word_is, number_in, ResourceAt}
use Rattle.shapes.proofs.MarkedLines.{line-no-key, resource-line}
use Rattle.shapes.proofs.lines.number_at.Goals.{In_ok-from}
use Rattle.shapes.proofs.lines.number_at.Goals as goal

-- the key
found : (c : In_ok-from) → let a = c.args in
    SaidIs (word_is (text number_key)) 61 a.s.now a.at true c.in_ok-from.from
found c = c.in_ok-from.ensures

pub returns-in_err-from : goal.returns-in_err-from
returns-in_err-from c = subst (ResourceAt _ _) (sym c.from_residual.ensures) (line-no-key number_in c.in_err-from.ensures)

pub resource_to-requires : goal.resource_to-requires
resource_to-requires c = (found (goal.at.resource_to-requires c).In_ok-from).within

pub returns : goal.returns
returns c = resource-line (found (goal.at.returns c).In_ok-from) c.resource_to.result c.resource_to.ensures
