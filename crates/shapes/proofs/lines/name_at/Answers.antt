-- `lines::name_at` reads a line with a name: its key, then its value.
-- Assumes nothing.
use mathlib.Core.Path.{sym, ap, subst, ◌∙◌}
use Rattle.std.proofs.lemmas.Slice.{between_is}
use Rattle.records.specs.Names.{name_of}
use Rattle.shapes.specs.Inner.{NameAt}
use Rattle.shapes.proofs.LineLaws.{line-shaped, line-unshaped, line-unkeyed}
use Rattle.shapes.proofs.lines.name_at.Goals as goal

pub returns-in_err-from : goal.returns-in_err-from
returns-in_err-from c = subst (NameAt _ _ _) (sym c.from_residual.ensures) (line-unkeyed name_of c.in_err-from.ensures)

pub returns-in_err-name : goal.returns-in_err-name
returns-in_err-name c =
    subst (NameAt _ _ _) (sym c.from_residual-in_err-name.ensures) (line-unshaped name_of c.in_ok-from.ensures
    (ap name_of (sym (between_is c.args.s.now c.in_ok-from.from c.in_ok-from.to)) ∙ sym c.in_err-name.ensures))

pub returns : goal.returns
returns c =
    line-shaped name_of c.in_ok-from.ensures
    (ap name_of (sym (between_is c.args.s.now c.in_ok-from.from c.in_ok-from.to)) ∙ sym c.in_ok-name.ensures)
