-- `tracks::sound::others_ok` meets its contract. The invariant: the sum of the marks so far is 0 exactly where each is. Assumes nothing.
use Prim.Native.Nat.{ℕ}
use mathlib.Core.Path.{◌≡◌, ap, ◌∙◌}
use native.Mathlib.Omega.{arith}
use lib.ListN.{get_or}
use Rattle.tracks.proofs.Tells.{tally-start, tally-more, tally-end}
use Rattle.tracks.proofs.sound.others_ok.Goals.{After-wide-sum}
use Rattle.tracks.proofs.sound.others_ok.Goals as goal

pub loop-i-init : goal.loop-i-init
loop-i-init c = (omega arith, omega arith, tally-start)

-- what is added is the mark of the holder
mark : (c : After-wide-sum) →
    let a = c.args in
    c.wide-sum.result ≡ get_or a.marks.now (get_or a.holders.now c.loop-i.i 0) 0
mark c = c.wide-sum.ensures.same
    ∙ ap (λ (x : ℕ). get_or c.args.marks.now x 0)
    c.wide.ensures.same

pub loop-i-preserved : goal.loop-i-preserved
loop-i-preserved c = (
  omega arith,
  omega arith,
  tally-more c.loop-i.invariant.2 _ (λ z. (
    omega arith,
    record {
      small = omega (arith, c.wide.ensures.same, c.wide.ensures.small);
      unmarked = omega (arith, mark (goal.at.loop-i-preserved c).After-wide-sum);
    },
  )) (λ z s. omega (arith, mark (goal.at.loop-i-preserved c).After-wide-sum, s.unmarked)),
)

pub returns : goal.returns
returns c = tally-end c.args.all c.loop-i.invariant.2 (omega arith)
