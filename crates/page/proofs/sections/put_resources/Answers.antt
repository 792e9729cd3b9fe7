-- `sections::put_resources` meets its contract. Assumes nothing.
use Prim.Native.Nat.{ℕ}
use native.Mathlib.Omega.{arith}
use mathlib.Core.Path.{ap, sym}
use mathlib.Core.List.{List, ◌++◌, append_assoc}
use lib.ListN.{length, length-append}
use lib.Seq.{get_or-take}
use Rattle.records.specs.Numbers.{free}
use Rattle.page.proofs.Spans.{numbers-all, numbers-here}
use Rattle.page.proofs.sections.put_resources.Goals as goal

pub loop-i-init : goal.loop-i-init
loop-i-init g c =
    let x = c.args.numbers.now in
    ap (λ (l : List ℕ). c.args.out.now.items ++ l) (sym (numbers-all x.count x.resources))

pub put_resource-requires : goal.put_resource-requires
put_resource-requires g c =
    let x = c.args.numbers.now in
    rw (get_or-take x.count x.resources c.loop-i.i free (omega arith))
    (omega (
      arith,
      c.requires.resources_in_bounds,
      simp length-append at (ap length (rw (numbers-here x.count x.resources c.loop-i.i (omega arith)) at c.loop-i.invariant)),
    ))

pub loop-i-preserved : goal.loop-i-preserved
loop-i-preserved g c =
    let x = c.args.numbers.now in
    rw (c.put_resource.ensures, get_or-take x.count x.resources c.loop-i.i free (omega arith), append_assoc)
    (rw (numbers-here x.count x.resources c.loop-i.i (omega arith)) at c.loop-i.invariant)
