-- `tables::Tables::wake` meets its contract: the invariant is `Waking`: what is left of the list, played on the tables as they are, is
-- all of it played on those at the start.
-- Assumes nothing.
use Rattle.std.proofs.Common.{rules, arith, List, ℕ, ◌≡◌, ◌<◌, ◌≤◌, length, take, get_or, ap, ◌∙◌}
use lib.Seq.{get_or-take, length-take-le}
use Rattle.tables.proofs.Wakes.{waking-none, waking-more, waking-end, can-wake}
use Rattle.tables.proofs.Tables.wake.Goals as goal

-- what is read of the first n
reads : (xs ys : List ℕ) (n i : ℕ) → length xs ≡ 32 → n ≤ 32 → ys ≡ take n xs → i < length ys → (i < n) × (get_or ys i 0 ≡ get_or xs i 0)
reads xs ys n i f h e l =
    let k : i < n = omega (arith, ap (λ (zs : List ℕ). length zs) e, length-take-le n xs (omega arith)) in
    (k, ap (λ (zs : List ℕ). get_or zs i 0) e ∙ get_or-take n xs i 0 k)

pub loop-p-init : goal.loop-p-init
loop-p-init c = waking-none _ _ _ c.requires

pub waited-t-requires : goal.waited-t-requires
waited-t-requires c =
    let l = c.args.list in
    let full : length l.ids ≡ 32 = search rules in
    let r = reads l.ids c.as_slice-p-items.result.now l.len c.loop-p.p-index full c.requires.most c.as_slice-p-items.ensures c.loop-p-test.true in
    rw r.1 (can-wake _ _ _ c.requires full _ _ c.loop-p.invariant r.0)

pub loop-p-preserved : goal.loop-p-preserved
loop-p-preserved c =
    let l = c.args.list in
    let full : length l.ids ≡ 32 = search rules in
    let r = reads l.ids c.as_slice-p-items.result.now l.len c.loop-p.p-index full c.requires.most c.as_slice-p-items.ensures c.loop-p-test.true in
    waking-more _ _ _ c.requires full _ _ c.loop-p.invariant r.0 _ (rw r.1 at c.waited-t.ensures)

pub returns : goal.returns
returns c =
    let l = c.args.list in
    let full : length l.ids ≡ 32 = search rules in
    waking-end _ _ _ c.requires full _ _ c.loop-p.invariant
    (omega (arith, c.loop-p-test.false, ap (λ (zs : List ℕ). length zs) c.as_slice-p-items.ensures, length-take-le l.len l.ids (omega (arith, full, c.requires.most))))
