-- `read_numbers` reads the numbers that are allocated, as many as there are.
-- Assumes nothing.
use native.Mathlib.Omega.{arith}
use mathlib.Core.Path.{◌≡◌, ◌∙◌}
use Rattle.reader.proofs.NumberLaws.{put_number, put_in, put-over, put_under, all_read, one_more}
use Rattle.reader.proofs.parts.read_numbers.Goals.{Joined-r-ge1, then-r-ge1+then-r-table, else-r-ge1}
use Rattle.reader.proofs.parts.read_numbers.Goals.{else-r-ge1-via-then-r-ge1+else-r-table, else-r-ge1-via-else-r-ge1}
use Rattle.reader.proofs.parts.read_numbers.Goals as goal

-- the table with the number that was read
put : (c : Joined-r-ge1) → let x = c.in-Some.resource in
    c.if-r-ge1.table ≡ put_number c.loop-resource.table x.number x.owner x.lock
put c =
    let t = c.loop-resource.table in
    let x = c.in-Some.resource in
    elim c.if-r-ge1.branch [
      | then-r-ge1+then-r-table w ↦ w.table-is ∙ w.with_number-table.ensures
          ∙ put_in t x.number x.owner x.lock (omega (arith, w.if-r-ge1.true)) (omega (arith, w.if-r-table.true))
      | else-r-ge1 w ↦ elim w.else-r-ge1.branch [
        | else-r-ge1-via-then-r-ge1+else-r-table v ↦ w.table-is ∙ put-over t x.number x.owner x.lock (omega (arith, v.if-r-table.false))
        | else-r-ge1-via-else-r-ge1 v ↦ w.table-is ∙ put_under t x.number x.owner x.lock (omega (arith, v.if-r-ge1.false))
      ]
    ]

pub loop-resource-preserved : goal.loop-resource-preserved
loop-resource-preserved c = one_more c.loop-resource.invariant c.in-Some.ensures _ (put (goal.at.loop-resource-preserved c).Joined-r-ge1)

pub returns : goal.returns
returns c = all_read c.loop-resource.invariant c.in_default.ensures
