-- `tracks::Tracks::run_at` meets its contract. Assumes nothing.
use Rattle.std.proofs.Common.{ℕ, ◌∙◌, ap, drop, eqb}
use Rattle.tracks.specs.Tracks.{holders}
use Rattle.tracks.proofs.Turns.{run-counted}
use Rattle.tracks.proofs.Tracks.run_at.Goals as goal

pub returns : goal.returns
returns c =
    let a = c.args in
    ap (λ (k : ℕ). eqb k a.n) c.run_length.ensures ∙ run-counted a.h a.n (drop a.start (holders a.self))
