-- `ledger::roll::are_distinct` meets its contract. The invariant is `Seen`: each key before i is new,
-- and has left its mark. Assumes nothing.
use Rattle.std.proofs.Common.{rules, arith, ◌≡◌, ◌∙◌, ap, refl, get_or, take, length}
use lib.Seq.{get_or-take, length-take-le}
use Rattle.ledger.specs.Inner.{slot_of}
use Rattle.ledger.proofs.Rows.{slot_small, seen_more}
use Rattle.ledger.proofs.roll.are_distinct.Goals as goal

pub bounds-seen-h : goal.bounds-seen-h
bounds-seen-h c = omega (arith, c.slot-h.ensures, slot_small (get_or (take c.args.high c.args.keys.now) c.loop-i.i 0), c.loop-i.invariant.long)

pub bounds-seen-h-in-loop-i : goal.bounds-seen-h-in-loop-i
bounds-seen-h-in-loop-i c = omega (arith, c.slot-h.ensures, slot_small (get_or (take c.args.high c.args.keys.now) c.loop-i.i 0), c.loop-i.invariant.long)

pub loop-i-preserved : goal.loop-i-preserved
loop-i-preserved c =
    let ks = c.args.keys.now in
    let full : length ks ≡ 32 = search rules in
    let n : length (take c.args.high ks) ≡ c.args.high = length-take-le c.args.high ks (omega (arith, full, c.requires.most)) in
    let e : get_or (take c.args.high ks) c.loop-i.i 0 ≡ get_or ks c.loop-i.i 0 = get_or-take c.args.high ks c.loop-i.i 0 (omega (arith, n)) in
    seen_more c.loop-i.invariant c.slot-h.result (c.slot-h.ensures ∙ ap slot_of e) (c.if-not-is_new.ensures.yes refl)
