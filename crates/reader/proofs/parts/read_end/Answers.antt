-- `read_end` reads the last line, behind which nothing may stand.
-- Assumes nothing.
use native.Mathlib.Omega.{arith}
use mathlib.Core.Path.{refl, subst}
use Rattle.shapes.specs.Inner.{WordAt}
use Rattle.reader.specs.Walks.{EndRead}
use Rattle.reader.proofs.BadLines.{bad_line, handed_on}
use Rattle.reader.proofs.EndLaws.{no_end, all-over, more-behind}
use Rattle.reader.proofs.parts.read_end.Goals as goal

pub returns-in_err-next : goal.returns-in_err-next
returns-in_err-next c =
    let v = c.in_err-next.ensures in
    handed_on (EndRead _ _ _) c.from_residual.ensures
    (no_end _ _ _ c.requires.onward.some c.requires.no_line (subst (WordAt _ _ _ _) v.ok_part c.word_at.ensures) _ (bad_line v.value v.ok_part))

pub returns-then-next-s : goal.returns-then-next-s
returns-then-next-s c =
    more-behind _ _ _ _ (subst (WordAt _ _ _ _) c.in_ok-next.ensures.ok_part c.word_at.ensures) (omega arith) _ refl

pub returns : goal.returns
returns c =
    all-over _ _ _ _ (subst (WordAt _ _ _ _) c.in_ok-next.ensures.ok_part c.word_at.ensures) (omega arith)
