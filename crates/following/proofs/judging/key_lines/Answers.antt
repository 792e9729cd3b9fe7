-- `judging::key_lines` meets its contract. The invariant: the tables after the lines from `at` on are those after all lines.
-- The measure is how much of the text is left. Assumes nothing.
use Prim.Native.Nat.{ℕ}
use native.Mathlib.Omega.{arith}
use mathlib.Core.Path.{refl, sym, ap, ◌∙◌}
use mathlib.Core.List.{List}
use borrow.Author.Rules.{rules}
use Rattle.page.specs.Paging.{Written}
use Rattle.transcripts.proofs.LineLaws.{part-taken}
use Rattle.console.specs.Console.{keyed}
use Rattle.console.specs.Sheet.{lent}
use Rattle.following.proofs.AfterLines.{after_none, after_line}
use Rattle.following.proofs.judging.key_lines.Goals as goal

pub loop-at-init : goal.loop-at-init
loop-at-init c = refl

pub slice_bounds-key_line-count : goal.slice_bounds-key_line-count
slice_bounds-key_line-count c = c.part_end-end.ensures.low

pub slice_bounds-key_line-end : goal.slice_bounds-key_line-end
slice_bounds-key_line-end c = c.part_end-end.ensures.high

pub overflow_add-at : goal.overflow_add-at
overflow_add-at c = let h = c.part_end-end.ensures.high in search rules

pub loop-at-smaller : goal.loop-at-smaller
loop-at-smaller c = let p = c.part_end-end.ensures in omega (arith, p.low, c.loop-at-test.true)

pub loop-at-preserved : goal.loop-at-preserved
loop-at-preserved c =
    let l = c.loop-at in
    let s = c.args.requests.now in
    let e = c.part_end-end.result in
    let r = c.key_line in
    after_line s l.t l.at e c.loop-at-test.true c.part_end-end.ensures r.result.tables
    (ap (λ (w : Written). w.tables) r.ensures
    ∙ ap (λ (k : List ℕ). (keyed l.t k lent).tables) (part-taken s l.at e c.part_end-end.ensures.low))
    ∙ l.invariant

pub returns : goal.returns
returns c =
    let l = c.loop-at in
    let s = c.args.requests.now in
    sym (after_none s l.t l.at (omega (arith, c.loop-at-test.false))) ∙ l.invariant
