-- `values::put_name` meets its contract: there is room for a byte that is no blank. Assumes nothing.
use native.Mathlib.Omega.{arith}
use mathlib.Core.Path.{ap}
use lib.ListN.{length, length-append}
use Rattle.page.proofs.Writing.{bare-put}
use Rattle.page.proofs.values.put_name.Goals as goal

pub push-requires : goal.push-requires
push-requires g c =
    let here = bare-put c.args.name c.loop-c.c-index (omega arith) c.if-c-ne32.true in
    (omega arith, omega (arith, simp (here, length-append) at (ap length c.loop-c.invariant)))
