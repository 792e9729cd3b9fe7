-- `requests::show_request` meets its contract: the line is keyed in with a buffer of zeros, and what is shown for it fits or it does not.
-- Assumes nothing.
use Prim.Native.Nat.{ℕ}
use native.Mathlib.Omega.{arith}
use mathlib.Core.Path.{ap, ◌∙◌}
use mathlib.Core.List.{List, ◌++◌}
use lib.ListN.{length, drop}
use Rattle.showing.proofs.RequestLaws.{request-room, request-short, request-done}
use Rattle.showing.proofs.requests.show_request.Goals as goal

pub put_request-requires : goal.put_request-requires
put_request-requires c =
    let a = c.args in omega (arith, request-room a.count a.line.now c.key_line-outcome.result.answer, ap length c.new-shown.ensures)

pub returns-then-out-n : goal.returns-then-out-n
returns-then-out-n c =
    let k = c.key_line-outcome in
    let a = c.args in
    request-short a.tables a.count a.line.now k.result k.ensures a.out.now c.len-n.result
    (c.len-n.ensures.value ∙ ap length (rw c.new-shown.ensures at c.put_request.ensures)) c.if-out-n.true

pub returns : goal.returns
returns c =
    let k = c.key_line-outcome in
    let a = c.args in
    request-done a.tables a.count a.line.now k.result k.ensures a.out.now c.len-n.result
    (c.len-n.ensures.value ∙ ap length (rw c.new-shown.ensures at c.put_request.ensures)) c.if-out-n.false
    (ap (λ (x : List ℕ). x ++ drop c.len-n.result a.out.now) (c.copy_from_slice.ensures.after ∙ c.as_slice.ensures.value ∙ (rw c.new-shown.ensures at c.put_request.ensures)))
