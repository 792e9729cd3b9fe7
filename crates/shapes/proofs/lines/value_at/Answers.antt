-- `lines::value_at` finds the value of a line that has the key and is ended.
-- Assumes nothing.
use native.Mathlib.Omega.{arith}
use mathlib.Core.Bool.{true}
use mathlib.Core.Option.{some}
use mathlib.Core.Path.{sym, subst}
use Rattle.shapes.specs.Inner.{SaidIs, word_is, ValueAt}
use Rattle.shapes.proofs.MarkedLines.{line-no-key, value_found, value-unended}
use Rattle.shapes.proofs.lines.value_at.Goals.{In_ok-from}
use Rattle.shapes.proofs.lines.value_at.Goals as goal

found : (c : In_ok-from)
    → let a = c.args in SaidIs (word_is a.key.now) 61 a.s.now a.at true c.in_ok-from.from
found c = c.in_ok-from.ensures

pub returns-in_err-from : goal.returns-in_err-from
returns-in_err-from c = subst (ValueAt _ _ _) (sym c.from_residual.ensures) (line-no-key some c.in_err-from.ensures)

pub part_end-to-requires : goal.part_end-to-requires
part_end-to-requires c = (found (goal.at.part_end-to-requires c).In_ok-from).within

pub returns-then-to-s : goal.returns-then-to-s
returns-then-to-s c = value-unended (found (goal.at.returns-then-to-s c).In_ok-from) c.requires.key_value c.part_end-to.ensures some (omega arith)

pub returns : goal.returns
returns c = value_found (found (goal.at.returns c).In_ok-from) c.requires.key_value c.part_end-to.ensures (omega (arith, c.part_end-to.ensures.high))
