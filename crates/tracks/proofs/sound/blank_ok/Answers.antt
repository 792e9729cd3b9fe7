-- `tracks::sound::blank_ok` meets its contract. The invariant: the largest holder so far is 0 exactly where each is. Assumes nothing.
use native.Mathlib.Omega.{arith}
use Rattle.tracks.proofs.Tells.{tally-start, tally-more, tally-end}
use Rattle.tracks.proofs.sound.blank_ok.Goals as goal

pub loop-i-init : goal.loop-i-init
loop-i-init c = (omega arith, tally-start)

pub loop-i-preserved : goal.loop-i-preserved
loop-i-preserved c =
    let r = c.larger-most in (
      omega arith,
      tally-more c.loop-i.invariant.1 r.result (λ z. (omega (arith, r.ensures.left), omega (arith, r.ensures.right)))
          (λ z e. r.ensures.none z e),
    )

pub returns : goal.returns
returns c = tally-end 256 c.loop-i.invariant.1 (omega arith)
