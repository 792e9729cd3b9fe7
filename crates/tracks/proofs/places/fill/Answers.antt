-- `tracks::places::fill` meets its contract. Assumes nothing.
use Rattle.std.proofs.Common.{◌≡◌, ◌∙◌, ℕ, suc, ◌+◌, ◌-◌, ap, arith, rules, List, ◌++◌, take, drop, replicate}
use Rattle.tracks.specs.Tracks.{filled}
use Rattle.tracks.proofs.Turns.{filled-mid}
use Rattle.tracks.proofs.places.fill.Goals as goal

pub returns : goal.returns
returns c =
    let a = c.args in
    let n = a.last + 1 - a.first in
    let e : c.fill.new.self ≡ replicate n a.h = search rules in
    let k : n ≡ suc a.last - a.first = omega arith in
    ap (λ (ys : List ℕ). take a.first a.places.now ++ (ys ++ drop n (drop a.first a.places.now))) e
    ∙ filled-mid a.first n a.h a.places.now (omega arith)
    ∙ ap (λ (m : ℕ). filled a.first m a.h a.places.now) k
