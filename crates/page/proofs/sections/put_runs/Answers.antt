-- `sections::put_runs` meets its contract. Assumes nothing.
use Prim.Native.Nat.{ℕ}
use native.Mathlib.Omega.{arith}
use mathlib.Core.Path.{ap, sym}
use mathlib.Core.List.{List, ◌++◌}
use lib.ListN.{length, take, length-append}
use Rattle.page.proofs.Spans.{held_all, held-here}
use Rattle.page.proofs.sections.put_runs.Goals as goal

pub loop-first-init : goal.loop-first-init
loop-first-init g c =
    (omega arith, ap (λ (l : List ℕ). c.args.out.now.items ++ l) (sym (held_all (take c.args.tracks.count c.places-places.result))))

pub put_run-requires : goal.put_run-requires
put_run-requires g c =
    let hs = take c.args.tracks.count c.places-places.result in
    let here = held-here hs c.loop-first.first c.run_in-run.result c.run_in-run.ensures in
    omega (
      arith,
      rw (← c.places-places.ensures) at c.requires.tracks_in_bounds,
      simp length-append at (ap length (rw here at c.loop-first.invariant.1)),
    )
