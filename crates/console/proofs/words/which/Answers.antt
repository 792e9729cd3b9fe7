-- `console::words::which` meets its contract. The invariant: the words from word i on are searched in the same way.
-- Assumes nothing.
use Prim.Native.Nat.{◌<◌}
use native.Mathlib.Omega.{arith}
use mathlib.Core.Path.{sym, ap, ◌∙◌}
use mathlib.Core.List.{List, []}
use Prim.Native.Nat.{ℕ}
use lib.ListN.{length, get_or}
use Rattle.std.specs.Cmp.Lexicographic.{same_text, other_text}
use Rattle.console.specs.Line.{execs, numbers, forms}
use Rattle.console.specs.Inner.{rows, keys, entries}
use Rattle.console.proofs.WordLaws.{seeking_start, seeking_end, seeking_other, seeking_hit, seeking_next, text_at, texts-many}
use Rattle.console.proofs.words.which.Goals.{In-loop-i, else-i-last-via-then-i-last+else-eq, else-i-last-via-else-i-last}
use Rattle.console.proofs.words.which.Goals as goal

-- the texts are as many as the words
many : (c : In-loop-i) → c.loop-i.i < length c.texts-texts.result.now
unfolding execs numbers forms entries keys
many c =
    omega (arith, c.loop-i-test.true, texts-many c.texts-texts.result.now, ap length c.texts-texts.ensures)

pub bounds-texts-i : goal.bounds-texts-i
bounds-texts-i c = many (goal.at.bounds-texts-i c).In-loop-i

pub loop-i-init : goal.loop-i-init
loop-i-init c = seeking_start _ _

pub returns-then-eq : goal.returns-then-eq
unfolding rows
returns-then-eq c =
    seeking_hit c.loop-i.invariant c.loop-i-test.true c.if-i-last.true (same_text _ _ c.if-eq.ensures
    ∙ text_at c.texts-texts.result.now c.loop-i.i _ (many (goal.at.returns-then-eq c).In-loop-i)
    ∙ ap (λ (l : List (List ℕ)). get_or l c.loop-i.i []) c.texts-texts.ensures)

pub loop-i-preserved : goal.loop-i-preserved
unfolding rows
loop-i-preserved c = elim c.else-i-last.branch [
  | else-i-last-via-then-i-last+else-eq w ↦
      seeking_next c.loop-i.invariant c.loop-i-test.true w.if-i-last.true (λ e. other_text _ _ w.if-eq.ensures (e
      ∙ sym (text_at c.texts-texts.result.now c.loop-i.i _ (many (goal.at.loop-i-preserved c).In-loop-i)
      ∙ ap (λ (l : List (List ℕ)). get_or l c.loop-i.i []) c.texts-texts.ensures)))
  | else-i-last-via-else-i-last w ↦ seeking_other c.loop-i.invariant c.loop-i-test.true w.if-i-last.false
]

pub returns : goal.returns
returns c = seeking_end c.loop-i.invariant c.loop-i-test.false
