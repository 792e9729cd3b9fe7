-- `ledger::roll::sons_ok` meets its contract. The invariant is `Meeting`: the sons so far are live, and
-- awaited and marked once. Assumes nothing.
use Rattle.std.proofs.Common.{rules, arith, ◌≡◌, ◌≢◌, ◌<◌, ◌+◌, ◌-◌, get_or, take, length, sym, ◌∙◌}
use lib.Seq.{get_or-take, length-take-le}
use Rattle.tracks.proofs.Tells.{tells-no}
use Rattle.ledger.proofs.Rows.{meeting-start, meeting-none, meeting-twice, meeting-dead, meeting-more}
use Rattle.ledger.proofs.roll.sons_ok.Goals.{then-states-k-eq0-via-then-states-k-eq0, then-states-k-eq0-via-else-states-k-eq0+then-met-k-ne0}
use Rattle.ledger.proofs.roll.sons_ok.Goals.{then-son-ne0+else-states-k-eq0+else-met-k-ne0, else-son-ne0}
use Rattle.ledger.proofs.roll.sons_ok.Goals as goal

pub loop-son-init : goal.loop-son-init
loop-son-init c = meeting-start _ _

pub returns-then-states-k-eq0 : goal.returns-then-states-k-eq0
returns-then-states-k-eq0 c =
    let ks = c.args.sons.now in
    let i = c.loop-son.son-index in
    let h = c.args.high in
    let full : length ks ≡ 32 = search rules in
    let n : length (take h ks) ≡ h = length-take-le h ks (omega (arith, full, c.requires.ended.most)) in
    let e : get_or (take h ks) i 0 ≡ get_or ks i 0 = get_or-take h ks i 0 (omega (arith, n)) in
    let some : get_or ks i 0 ≢ 0 = λ z. c.if-son-ne0.true (e ∙ z) in
    let place : get_or (take h ks) i 0 - 1 + 1 ≡ get_or ks i 0 = omega (arith, some, e) in
    let small : i < 32 = omega (arith, n, c.requires.ended.most) in
    elim c.then-states-k-eq0.branch [
      | then-states-k-eq0-via-then-states-k-eq0 w ↦ tells-no (meeting-dead c.loop-son.invariant some _ place w.if-states-k-eq0.true small)
      | then-states-k-eq0-via-else-states-k-eq0+then-met-k-ne0 w ↦
          tells-no (λ A. meeting-twice c.loop-son.invariant some _ place w.if-met-k-ne0.true small A.once)
    ]

pub loop-son-preserved : goal.loop-son-preserved
loop-son-preserved c =
    let ks = c.args.sons.now in
    let i = c.loop-son.son-index in
    let h = c.args.high in
    let full : length ks ≡ 32 = search rules in
    let n : length (take h ks) ≡ h = length-take-le h ks (omega (arith, full, c.requires.ended.most)) in
    let e : get_or (take h ks) i 0 ≡ get_or ks i 0 = get_or-take h ks i 0 (omega (arith, n)) in
    elim c.if-son-ne0.branch [
      | then-son-ne0+else-states-k-eq0+else-met-k-ne0 w ↦
          let some : get_or ks i 0 ≢ 0 = λ z. w.if-son-ne0.true (e ∙ z) in
          let place : get_or (take h ks) i 0 - 1 + 1 ≡ get_or ks i 0 = omega (arith, some, e) in
          rw w.met-is
          (meeting-more c.loop-son.invariant some _ place w.if-states-k-eq0.false w.if-met-k-ne0.false
          (omega (arith, some, e, c.requires.known i)))
      | else-son-ne0 w ↦ rw w.met-is (meeting-none c.loop-son.invariant (sym e ∙ w.if-son-ne0.false))
    ]
