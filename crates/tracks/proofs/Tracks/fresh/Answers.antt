-- `tracks::Tracks::fresh` meets its contract. Assumes nothing.
use Rattle.std.proofs.Common.{◌≡◌, ◌∙◌, ℕ, ◌-◌, ap, rules, List, ◌++◌, drop, replicate}
use Rattle.tracks.specs.Tracks.{nobody, system}
use Rattle.std.proofs.lemmas.List.{drop-replicate}
use Rattle.tracks.proofs.Fits.{made}
use Rattle.tracks.proofs.Turns.{fresh-done}
use Rattle.tracks.proofs.Tracks.fresh.Goals as goal

pub returns : goal.returns
returns c =
    let a = c.args in
    let e : c.fill.new.self ≡ replicate a.own 34 = search rules in
    made a.all a.own _ (replicate a.own system ++ replicate (a.all - a.own) nobody)
    (ap (λ (ys : List ℕ). ys ++ drop a.own (replicate {A = ℕ} 256 0)) e
    ∙ ap (λ (ys : List ℕ). replicate a.own system ++ ys) (drop-replicate a.own 256 0)
    ∙ fresh-done system nobody 256 a.all a.own c.requires.part c.requires.most)
