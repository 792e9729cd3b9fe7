-- `sections::put_chains` meets its contract. Assumes nothing.
use Prim.Native.Nat.{ℕ}
use native.Mathlib.Omega.{arith}
use mathlib.Core.Path.{ap, sym}
use mathlib.Core.List.{List, ◌++◌, append_assoc}
use lib.ListN.{length, length-append}
use Rattle.page.proofs.Spans.{chains-all, chains-here}
use Rattle.page.proofs.sections.put_chains.Goals as goal

pub loop-state-init : goal.loop-state-init
loop-state-init g c = ap (λ (x : List ℕ). c.args.out.now.items ++ x) (sym (chains-all c.args.links))

pub put_chain-requires : goal.put_chain-requires
put_chain-requires g c =
    let here = chains-here c.args.links c.loop-state.state-index (omega arith) in
    rw c.chain_of-chain.ensures.some
    (omega (arith, c.requires, simp length-append at (ap length (rw here at c.loop-state.invariant))))

pub loop-state-preserved : goal.loop-state-preserved
loop-state-preserved g c =
    rw (c.put_chain.ensures, c.chain_of-chain.ensures.some, append_assoc)
    (rw (chains-here c.args.links c.loop-state.state-index (omega arith)) at c.loop-state.invariant)
