-- `sections::put_records` meets its contract. Assumes nothing.
use Prim.Native.Nat.{◌+◌}
use native.Mathlib.Omega.{arith}
use mathlib.Core.Path.{ap, sym}
use mathlib.Core.List.{List, ◌++◌, append_assoc, append-nil}
use Prim.Native.Nat.{ℕ}
use lib.ListN.{length, length-append}
use Rattle.page.proofs.Spans.{records-all, records-here, records-on, records-past}
use Rattle.page.proofs.sections.put_records.Goals as goal
use Rattle.page.proofs.sections.put_records.Goals.{then-r, else-r}

pub loop-i-init : goal.loop-i-init
loop-i-init g c = ap (λ (x : List ℕ). c.args.out.now.items ++ x) (sym (records-all c.args.programs.now))

pub put_record-requires : goal.put_record-requires
put_record-requires g c =
    let i = c.loop-i.i in
    let here = records-here c.args.programs.now (i + 1) i (omega arith) (omega arith) c.if-r.true in
    omega (arith, c.requires, simp length-append at (ap length (rw here at c.loop-i.invariant)))

pub loop-i-preserved : goal.loop-i-preserved
loop-i-preserved g c =
    let i = c.loop-i.i in
    let ps = c.args.programs.now in
    elim c.if-r.branch [
      | then-r w ↦
          rw (w.out-is, w.put_record.ensures, append_assoc)
          (rw (records-here ps (i + 1) i (omega arith) (omega arith) w.if-r.true) at c.loop-i.invariant)
      | else-r w ↦ rw w.out-is (rw (records-on ps (i + 1) i (omega arith) (omega arith) w.if-r.false) at c.loop-i.invariant)
    ]

pub returns : goal.returns
returns g c =
    simp (records-past c.args.programs.now (c.loop-i.i + 1) (omega arith), append-nil) at c.loop-i.invariant
