-- `read_records` reads so many records, one after another.
-- Assumes nothing.
use Prim.Native.Nat.{suc, ◌+◌, ◌-◌}
use native.Mathlib.Omega.{arith}
use mathlib.Core.Path.{◌≡◌, ◌∙◌, subst}
use Rattle.reader.specs.Walks.{RecordsRead}
use Rattle.reader.proofs.BadLines.{handed_on}
use Rattle.reader.proofs.RecordsLaws.{SoFar, none_yet, put_at, put_in, put-over, put_under, one_more, all_read, bad-record}
use Rattle.reader.proofs.parts.read_records.Goals.{In-loop, Joined-record-ge1, then-record-ge1+then-record, else-record-ge1}
use Rattle.reader.proofs.parts.read_records.Goals.{else-record-ge1-via-then-record-ge1+else-record, else-record-ge1-via-else-record-ge1}
use Rattle.reader.proofs.parts.read_records.Goals as goal

-- one more is to come
more : (c : In-loop) → let l = c.loop in SoFar c.args.s.now c.args.at c.args.line c.args.count l.programs l.o l.n (suc (c.args.count - (l.counter + 1)))
more c =
    let e : c.args.count - c.loop.counter ≡ suc (c.args.count - (c.loop.counter + 1)) = omega arith in
    subst (SoFar _ _ _ _ _ _ _) e c.loop.invariant

put : (c : Joined-record-ge1) → let r = c.in_ok-record.record in c.if-record-ge1.programs ≡ put_at r.id r.program c.loop.programs
put c =
    let r = c.in_ok-record.record in
    let ps = c.loop.programs in
    elim c.if-record-ge1.branch [
      | then-record-ge1+then-record w ↦ w.programs-is ∙ put_in r.id r.program ps (omega (arith, w.if-record-ge1.true)) (omega (arith, w.if-record.true))
      | else-record-ge1 w ↦ elim w.else-record-ge1.branch [
        | else-record-ge1-via-then-record-ge1+else-record v ↦ w.programs-is ∙ put-over r.id r.program ps (omega (arith, v.if-record.false))
        | else-record-ge1-via-else-record-ge1 v ↦ w.programs-is ∙ put_under r.id r.program ps (omega (arith, v.if-record-ge1.false))
      ]
    ]

pub loop-init : goal.loop-init
loop-init c =
    let e : c.args.count ≡ c.args.count - 0 = omega arith in
    subst (SoFar _ _ _ _ _ _ _) e (none_yet _ _ _ _ _ c.unused_record-programs.ensures c.requires)

pub read_record-requires : goal.read_record-requires
read_record-requires c = c.loop.invariant.onward

pub returns-in_err-record : goal.returns-in_err-record
returns-in_err-record c =
    handed_on (RecordsRead _ _ _ _) c.from_residual.ensures
    (bad-record _ (more (goal.at.returns-in_err-record c).In-loop) _ c.in_err-record.ensures)

pub overflow_add-n : goal.overflow_add-n
overflow_add-n c =
    let r = c.in_ok-record.ensures in
    omega (arith, r.beyond, r.within, c.loop.invariant.onward.counted)

pub loop-preserved : goal.loop-preserved
loop-preserved c =
    one_more _ (more (goal.at.loop-preserved c).In-loop) _ c.in_ok-record.ensures _ (put (goal.at.loop-preserved c).Joined-record-ge1)

pub returns : goal.returns
returns c =
    all_read (subst (SoFar _ _ _ _ _ _ _) (let e : c.args.count - c.loop.counter ≡ 0 = omega arith in e) c.loop.invariant)
