-- `lines::count_key` meets its contract. The invariant: those counted and those of the lines that are left are all. Assumes nothing.
use native.Mathlib.Omega.{arith}
use mathlib.Core.Path.{sym, subst, ◌∙◌}
use Prim.Native.Nat.{ℕ, ◌+◌}
use borrow.Author.Rules.{rules}
use Rattle.transcripts.proofs.CountLaws.{Counting, counting-start, counting-past, counting-here, counting-end}
use Rattle.transcripts.proofs.lines.count_key.Goals as goal

pub loop-at-init : goal.loop-at-init
loop-at-init c = let a = c.args in counting-start a.key.now a.s.now a.from a.to

pub slice_bounds-has_key-start : goal.slice_bounds-has_key-start
slice_bounds-has_key-start c = c.part_end-end.ensures.low

pub slice_bounds-has_key-end : goal.slice_bounds-has_key-end
slice_bounds-has_key-end c = c.part_end-end.ensures.high

pub overflow_add-n : goal.overflow_add-n
overflow_add-n c = let l = c.loop-at in record { fits = omega (arith, l.invariant.few) }

pub overflow_add-at : goal.overflow_add-at
overflow_add-at c = let h = c.part_end-end.ensures.high in search rules

pub loop-at-smaller : goal.loop-at-smaller
loop-at-smaller c =
    let p = c.part_end-end.ensures in
    omega (arith, p.low, c.loop-at-test.true)

pub loop-at-preserved : goal.loop-at-preserved
loop-at-preserved c =
    let l = c.loop-at in
    let a = c.args in
    let h = c.loop-at-test.true in
    let q = c.has_key.ensures in
    elim c.if-has_key.branch [
      | goal.then-has_key v ↦ subst (λ (n : ℕ). Counting a.key.now a.s.now a.from a.to (c.part_end-end.result + 1) n) (sym v.n-is)
          (counting-here a.key.now a.s.now a.from a.to l.at l.n l.invariant c.part_end-end.result h (omega arith)
          c.part_end-end.ensures (sym v.if-has_key.true ∙ q))
      | goal.else-has_key v ↦ subst (λ (n : ℕ). Counting a.key.now a.s.now a.from a.to (c.part_end-end.result + 1) n) (sym v.n-is)
          (counting-past a.key.now a.s.now a.from a.to l.at l.n l.invariant c.part_end-end.result h (omega arith)
          c.part_end-end.ensures (sym v.if-has_key.false ∙ q))
    ]

pub returns : goal.returns
returns c =
    let l = c.loop-at in
    let a = c.args in
    counting-end a.key.now a.s.now a.from a.to l.at l.n l.invariant c.loop-at-test.false

pub slice_bounds-has_key-count : goal.slice_bounds-has_key-count
slice_bounds-has_key-count c = c.part_end-end.ensures.low
