-- `values::read_chain` lays the parts of a chain one after another. Assumes nothing.
use mathlib.Core.Path.{◌≡◌, sym, ap, subst, ◌∙◌}
use Prim.Native.Nat.{◌<◌}
use native.Mathlib.Omega.{arith}
use lib.Dec.{eqb}
use lib.ListN.{length, get_or}
use borrow.Author.Tests.{eqb-true}
use Rattle.std.proofs.Common.{rules, tests}
use Rattle.std.specs.Slice.Iter.{split_rest, split_done, split_callee}
use Rattle.std.proofs.lemmas.Iterator.Splits.{YieldsList-from_slice_split}
use Rattle.std.proofs.lemmas.Iterator.Consumers.{YieldsList-turn, YieldsList-end}
use Rattle.std.proofs.lemmas.List.{length_push}
use Rattle.text.specs.Text.{parts}
use Rattle.shapes.specs.Inner.{ChainRead}
use Rattle.shapes.proofs.ValueLaws.{split_parts, chain_empty, chain_not, chain_turn, chain_end}
use Rattle.shapes.proofs.values.read_chain.Goals.{In-Some, then-not-is_empty+in-None, else-not-is_empty}
use Rattle.shapes.proofs.values.read_chain.Goals as goal

-- this turn's part is the next one
turn : (c : In-Some) → let ps = parts 44 c.args.s.now in
    (length c.loop-part.yielded < length ps) × (c.in-Some.part.now ≡ get_or ps (length c.loop-part.yielded) c.in-Some.part.now)
turn c =
    let i = c.into_iter-part-iterator.ensures.into_iter_gives in
    let s = c.split-part-items.ensures in
    let t = YieldsList-turn (YieldsList-from_slice_split _ (λ b. eqb b 44) c.args.s.now (ap split_rest i ∙ s.rest) (ap split_done i ∙ s.done)
    (ap split_callee i ∙ s.closure) (λ x r q k. search (rules, tests)))
    c.loop-part.yielded _ c.loop-part.yielded_by _ _ c.in-Some.part c.in-Some.is c.next.ensures.steps in
    rw (← split_parts 44 c.args.s.now) t

pub returns-in_err-read_figure : goal.returns-in_err-read_figure
returns-in_err-read_figure c =
    let t = turn (goal.at.returns-in_err-read_figure c).In-Some in
    subst (ChainRead _ _ _) (sym c.from_residual.ensures)
    (chain_not c.loop-part.invariant c.in-Some.part.now t.0 t.1 (λ z. search (rules, tests)) (sym c.in_err-read_figure.ensures))

pub loop-part-preserved : goal.loop-part-preserved
loop-part-preserved c =
    let t = turn (goal.at.loop-part-preserved c).In-Some in
    rw (length_push c.loop-part.yielded c.in-Some.part) (chain_turn c.loop-part.invariant c.in-Some.part.now t.0 t.1
    (sym c.in_ok-read_figure.ensures) c.byte-p.ensures c.put_link.ensures)

pub returns : goal.returns
returns c = elim c.if-not-is_empty.branch [
  | then-not-is_empty+in-None w ↦
      let i = w.into_iter-part-iterator.ensures.into_iter_gives in
      let s = w.split-part-items.ensures in
      let t = YieldsList-end (YieldsList-from_slice_split _ (λ b. eqb b 44) c.args.s.now (ap split_rest i ∙ s.rest) (ap split_done i ∙ s.done)
      (ap split_callee i ∙ s.closure) (λ x r q k. search (rules, tests)))
      w.loop-part.yielded _ w.loop-part.yielded_by _ _ w.in-None.is w.next.ensures.steps in
      chain_end w.loop-part.invariant (λ z. search (rules, tests))
      (omega (arith, t.1, ap length (split_parts 44 c.args.s.now))) cc
  | else-not-is_empty w ↦ chain_empty c.args.s.now c.args.links c.put_link-2.new.links c.args.state (eqb-true _ _ (sym w.if-not-is_empty.ensures)) cc
]
