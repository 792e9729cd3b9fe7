-- `tracks::Tracks::filled` meets its contract. Assumes nothing.
use Rattle.std.proofs.Common.{◌≡◌, ◌∙◌, ℕ, ◌+◌, ◌-◌, ap, arith, rules, List, ◌++◌, take, drop, replicate}
use Rattle.tracks.specs.Tracks.{filled, table_at}
use Rattle.tracks.proofs.Turns.{filled-mid, filled-table}
use Rattle.tracks.proofs.Tracks.filled.Goals as goal

pub returns : goal.returns
returns c =
    let a = c.args in
    let t = a.self in
    let n = a.start + a.n - a.start in
    let e : c.fill.new.self ≡ replicate n a.h = search rules in
    let k : n ≡ a.n = omega arith in
    ap (table_at t.count t.system)
    (ap (λ (ys : List ℕ). take a.start t.holders ++ (ys ++ drop n (drop a.start t.holders))) e
    ∙ filled-mid a.start n a.h t.holders (omega (arith, c.requires.within, c.requires.fit.most))
    ∙ ap (λ (m : ℕ). filled a.start m a.h t.holders) k)
    ∙ filled-table t c.requires.fit a.start a.n a.h c.requires.within
