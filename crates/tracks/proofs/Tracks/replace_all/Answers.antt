-- `tracks::Tracks::replace_all` meets its contract. The loop's invariant: the tracks that were passed have changed their holder.
-- Assumes nothing.
use Rattle.std.proofs.Common.{refl, ◌∙◌, ap₂, List, ℕ, ◌++◌}
use lib.Seq.{set-get_or}
use Rattle.tracks.specs.Tracks.{holders, replaced}
use Rattle.tracks.proofs.Fits.{made}
use Rattle.tracks.proofs.Turns.{passed-hit, passed-miss, passed-all, nobody-behind}
use Rattle.tracks.proofs.Tracks.replace_all.Goals.{then-x-p, else-x-p}
use Rattle.tracks.proofs.Tracks.replace_all.Goals as goal

pub loop-x-init : goal.loop-x-init
loop-x-init c = refl

pub loop-x-preserved : goal.loop-x-preserved
loop-x-preserved c =
    let a = c.args in
    elim c.if-x-p.branch [
      | then-x-p w ↦ w.x-items-is ∙ passed-hit a.p a.h _ (holders a.self) _ c.loop-x.invariant c.loop-x-test.true w.if-x-p.true
      | else-x-p w ↦ w.x-items-is ∙ set-get_or _ _ _ ∙ passed-miss a.p a.h _ (holders a.self) _ c.loop-x.invariant c.loop-x-test.true w.if-x-p.false
    ]

pub returns : goal.returns
returns c =
    let a = c.args in
    made a.self.count a.self.system _ (replaced a.p a.h (holders a.self))
    (ap₂ (λ (xs ys : List ℕ). xs ++ ys)
    (c.loop-x.invariant ∙ passed-all a.p a.h _ (holders a.self) c.loop-x-test.false)
    (nobody-behind a.self c.requires))
