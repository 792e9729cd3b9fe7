-- A lent buffer takes a piece at its place. Assumes nothing.
use native.Mathlib.Omega.{arith}
use mathlib.Core.Path.{ap}
use mathlib.Core.List.{List}
use Prim.Native.Nat.{ℕ, ◌+◌}
use lib.ListN.{length}
use Rattle.comparing.proofs.DifferenceLaws.{copied}
use Rattle.comparing.proofs.sink.LentSink.put.Goals as goal

pub returns : goal.returns
returns c =
    let l = c.args.self.now in
    let x = c.args.piece.now in
    ap (λ (b : List ℕ). record l { out = record l.out { now = b }; at = l.at + length x })
    (copied l.out.now x l.at _ (omega arith) c.requires c.copy_from_slice.ensures.after)
