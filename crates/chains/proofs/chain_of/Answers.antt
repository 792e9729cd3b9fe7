-- `chains::chain_of` meets its contract. The loop's invariant is `Part`: what is read out and what is yet to be walked.
-- Assumes nothing.
use Rattle.std.proofs.Common.{arith, sym, ◌∙◌}
use Rattle.chains.proofs.Reading.{walk_end}
use Rattle.chains.proofs.Listed.{part-start, part_step, part_end, part-full}
use Rattle.chains.proofs.chain_of.Goals as goal

pub returns-then-n-eq0 : goal.returns-then-n-eq0
returns-then-n-eq0 c = part_end c.loop.invariant.part (walk_end _ _ _ (sym c.link-n.ensures ∙ c.if-n-eq0.true))

pub loop-init : goal.loop-init
loop-init c = record {
  turns = sym c.empty-chain.ensures.len;
  part = part-start _ _ _ _ c.empty-chain.ensures.ids c.empty-chain.ensures.len;
}

pub loop-preserved : goal.loop-preserved
loop-preserved c = record {
  turns = omega (arith, c.loop.invariant.turns, c.push.ensures.len);
  part = part_step _ c.loop.invariant.part (omega (arith, c.loop.invariant.turns)) c.link-n.ensures c.if-n-eq0.false c.push.ensures.ids c.push.ensures.len;
}

pub returns : goal.returns
returns c = part-full c.loop.invariant.part (omega (arith, c.loop.invariant.turns))
