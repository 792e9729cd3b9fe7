-- `lines::word_at` reads a line whose value is a word: its key, then that word.
-- Assumes nothing.
use mathlib.Core.Bool.{true}
use mathlib.Core.Path.{sym, subst}
use Rattle.shapes.specs.Inner.{SaidIs, word_is, WordAt}
use Rattle.shapes.proofs.MarkedLines.{line-no-key, word_line}
use Rattle.shapes.proofs.lines.word_at.Goals.{In_ok-from}
use Rattle.shapes.proofs.lines.word_at.Goals as goal

found : (c : In_ok-from)
    → let a = c.args in SaidIs (word_is a.key.now) 61 a.s.now a.at true c.in_ok-from.from
found c = c.in_ok-from.ensures

pub returns-in_err-from : goal.returns-in_err-from
returns-in_err-from c = subst (WordAt _ _ _ _) (sym c.from_residual.ensures) (line-no-key (word_is _) c.in_err-from.ensures)

pub word_to-requires-2 : goal.word_to-requires-2
word_to-requires-2 c = (found (goal.at.word_to-requires-2 c).In_ok-from).within

pub returns : goal.returns
returns c = word_line (found (goal.at.returns c).In_ok-from) c.requires.key_value c.args.word.now c.requires.word_value c.word_to-2.result c.word_to-2.ensures
