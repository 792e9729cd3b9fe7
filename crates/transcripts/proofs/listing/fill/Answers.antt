-- `listing::fill` meets its contract. The invariant: what is put, and what the lines from `at` on add to it, is the whole (FillLaws.antt);
-- the measure is what is left of the original. Assumes nothing.
use native.Mathlib.Omega.{arith}
use borrow.Author.Rules.{rules}
use Rattle.transcripts.proofs.FillLaws.{filling-start, filling-end, filling-as, filling-past, room, filling-here}
use Rattle.transcripts.proofs.listing.fill.Goals as goal

pub loop-at-init : goal.loop-at-init
loop-at-init c = let a = c.args in filling-start a.width a.original.now a.copy.now a.list.now

pub overflow_add-line : goal.overflow_add-line
overflow_add-line c =
    let f = c.loop-at.invariant in
    record { fits = omega (arith, f.counted, c.loop-at-test.true) }

pub put_figures-put-requires : goal.put_figures-put-requires
put_figures-put-requires c =
    let l = c.loop-at in
    record {
      width = c.requires.width;
      width_in_bounds = room l.invariant c.loop-at-test.true c.take_turn-t.result c.take_turn-t.ensures c.if-t.true
          c.requires.copy_in_bounds c.requires.width;
    }

pub overflow_add-found : goal.overflow_add-found
overflow_add-found c =
    let l = c.loop-at in
    record { fits = omega (arith, l.invariant.few, c.loop-at-test.true) }

pub overflow_add-at : goal.overflow_add-at
overflow_add-at c = let h = c.take_turn-t.ensures.end.high in search rules

pub loop-at-smaller : goal.loop-at-smaller
loop-at-smaller c =
    omega (arith, c.take_turn-t.ensures.end.low, c.loop-at-test.true)

pub loop-at-preserved : goal.loop-at-preserved
loop-at-preserved c =
    let f = c.loop-at.invariant in
    let h = c.loop-at-test.true in
    let r = c.take_turn-t.result in
    let e = c.take_turn-t.ensures in
    elim c.if-t.branch [
      | goal.then-t v ↦ filling-as v.list-is v.put-is v.found-is (filling-here f h r e v.if-t.true v.put_figures-put.ensures)
      | goal.else-t v ↦ filling-as v.list-is v.put-is v.found-is (filling-past f h r e v.if-t.false)
    ]

pub shape_of-list : goal.shape_of-list
shape_of-list c = c.loop-at.invariant.left.same

pub returns : goal.returns
returns c = filling-end c.loop-at.invariant c.loop-at-test.false
