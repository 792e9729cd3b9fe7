-- `ledger::freeing::keep` meets its contract. The invariant is `Sifted`, by any test that says what a call of `passes` says of known
-- programs. Assumes nothing.
use Rattle.std.proofs.Common.{rules, arith, ◌≡◌, ◌+◌, ◌≤◌, length, get_or, sym, ◌∙◌, ap}
use lib.Seq.{length-take-le}
use Rattle.chains.specs.declared.Listing.{Listing}
use Rattle.lists.specs.Lists.{keep}
use Rattle.records.specs.Records.{Known}
use Rattle.ledger.proofs.Sifting.{sifted-start, sifted-in, sifted-out, sifted-end, listed-known}
use Rattle.ledger.proofs.freeing.keep.Goals.{then-passes, else-passes}
use Rattle.ledger.proofs.freeing.keep.Goals as goal

pub loop-q-init : goal.loop-q-init
loop-q-init g c =
    let l = c.args.list in
    let full : length l.ids ≡ 32 = search rules in
    let e = c.as_slice-q-items.ensures in
    let n : length c.as_slice-q-items.result.now ≤ 32 = rw e (omega (arith, length-take-le l.len l.ids (omega (arith, full, c.requires.listed.most)), c.requires.listed.most)) in
    (omega (arith, c.empty-kept.ensures.len), λ t h. sifted-start t _ _ _ n c.empty-kept.ensures.ids c.empty-kept.ensures.len)

-- the program that is read is known
pub passes-requires : goal.passes-requires
passes-requires g c =
    let l = c.args.list in
    let ys = c.as_slice-q-items.result.now in
    let k : Known (get_or ys c.loop-q.q-index 0) = listed-known l.ids l.len c.loop-q.q-index ys c.as_slice-q-items.ensures c.requires.listed c.loop-q-test.true in
    search (rules, c.requires.callable (get_or ys c.loop-q.q-index 0) k)

pub push-requires : goal.push-requires
push-requires g c =
    let l = c.args.list in
    let full : length l.ids ≡ 32 = search rules in
    let n : length c.as_slice-q-items.result.now ≤ 32 = rw c.as_slice-q-items.ensures (omega (arith, length-take-le l.len l.ids (omega (arith, full, c.requires.listed.most)), c.requires.listed.most)) in
    omega (arith, n, c.loop-q-test.true, c.loop-q.invariant.0)

pub loop-q-preserved : goal.loop-q-preserved
loop-q-preserved g c =
    let l = c.args.list in
    let ys = c.as_slice-q-items.result.now in
    let k : Known (get_or ys c.loop-q.q-index 0) = listed-known l.ids l.len c.loop-q.q-index ys c.as_slice-q-items.ensures c.requires.listed c.loop-q-test.true in
    elim c.if-passes.branch [
      | then-passes w ↦
          let ids = ap (λ (x : Listing). x.ids) w.kept-is ∙ w.push.ensures.ids in
          let len : c.if-passes.kept.len ≡ c.loop-q.kept.len + 1 = ap (λ (x : Listing). x.len) w.kept-is ∙ w.push.ensures.len in
          (omega (arith, len, c.loop-q.invariant.0), λ t h. sifted-in (c.loop-q.invariant.1 t h) c.loop-q-test.true (sym (h _ k c.passes.result c.passes.ensures) ∙ w.if-passes.true) ids len)
      | else-passes w ↦
          let len : c.if-passes.kept.len ≡ c.loop-q.kept.len = ap (λ (x : Listing). x.len) w.kept-is in
          (omega (arith, len, c.loop-q.invariant.0), λ t h. sifted-out (c.loop-q.invariant.1 t h) c.loop-q-test.true (sym (h _ k c.passes.result c.passes.ensures) ∙ w.if-passes.false) (ap (λ (x : Listing). x.ids) w.kept-is) len)
    ]

pub returns : goal.returns
returns g c = λ t h. sifted-end (c.loop-q.invariant.1 t h) (omega (arith, c.loop-q-test.false)) (ap (keep t) (sym c.as_slice-q-items.ensures))
