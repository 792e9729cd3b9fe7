-- `console::fields::name_field` meets its contract: the name is the part up to the next comma. Assumes nothing.
use mathlib.Core.Path.{sym, ap, subst, ◌∙◌}
use Rattle.std.proofs.lemmas.Slice.{between_is}
use Rattle.records.specs.Names.{name_of}
use Rattle.console.specs.Inner.{NameRead}
use Rattle.console.proofs.FieldLaws.{name-past, name-not, name-is}
use Rattle.console.proofs.fields.name_field.Goals as goal

pub returns-then-s-at : goal.returns-then-s-at
returns-then-s-at c = name-past c.if-s-at.true

pub returns-in_err-name : goal.returns-in_err-name
returns-in_err-name c =
    subst (NameRead _ _) (sym c.from_residual.ensures)
    (name-not c.part_end-end.ensures (ap name_of (sym (between_is c.args.s.now c.args.at c.part_end-end.result)) ∙ sym c.in_err-name.ensures))

pub returns : goal.returns
returns c =
    name-is c.part_end-end.ensures (ap name_of (sym (between_is c.args.s.now c.args.at c.part_end-end.result)) ∙ sym c.in_ok-name.ensures)
