-- `hand_over` meets its contract: the bytes fit, or they do not. Assumes nothing.
use Prim.Native.Nat.{ℕ}
use mathlib.Core.Path.{refl, sym, ap}
use mathlib.Core.List.{List, ◌++◌}
use lib.ListN.{length, drop}
use Rattle.transcripts.proofs.ListLaws.{filled-short, filled-long}
use Rattle.showing.proofs.ShownLaws.{put-front}
use Rattle.showing.proofs.hand_over.Goals as goal

pub returns-then-out-n : goal.returns-then-out-n
returns-then-out-n c =
    let a = c.args in
    sym (filled-short (length a.bytes.now) a.bytes.now a.out.now c.if-out-n.true)

pub returns : goal.returns
returns c =
    let a = c.args in
    let n = length a.bytes.now in
    sym (filled-long n a.bytes.now a.out.now (c.copy_from_slice.new.self ++ drop n a.out.now) c.if-out-n.false
    (put-front a.bytes.now a.out.now n refl c.if-out-n.false
    (ap (λ (x : List ℕ). x ++ drop n a.out.now) c.copy_from_slice.ensures.after)))
