-- `values::put_joined` meets its contract: the first number is put, and the others that are left have room. Assumes nothing.
use native.Mathlib.Omega.{arith}
use mathlib.Core.Path.{ap}
use mathlib.Core.List.{append_assoc, append-nil}
use lib.ListN.{length, length-append, drop_of_length-le}
use Rattle.page.proofs.Writing.{others-here, joined_cons}
use Rattle.page.proofs.values.put_joined.Goals as goal

pub put_coded-requires : goal.put_coded-requires
put_coded-requires g c =
    let xs = c.in-Some.others.now in
    let here = others-here xs c.loop-id.id-index (omega arith) in
    let whole = simp (c.in-Some.ensures.cases.0, joined_cons c.in-Some.first.now xs, length-append) at c.requires in
    omega (
      arith,
      whole,
      simp length-append at (ap length c.put_number.ensures),
      simp (here, length-append) at (ap length c.loop-id.invariant),
    )

pub returns-after-loop-id : goal.returns-after-loop-id
returns-after-loop-id g c =
    let xs = c.in-Some.others.now in
    let none = drop_of_length-le xs {i = c.loop-id.id-index} (omega arith) in
    rw (c.in-Some.ensures.cases.0, joined_cons c.in-Some.first.now xs)
    (simp (none, append-nil, c.put_number.ensures, append_assoc) at c.loop-id.invariant)
