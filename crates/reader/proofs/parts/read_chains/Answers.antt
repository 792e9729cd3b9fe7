-- `read_chains` reads the chains of the states that are shown.
-- Assumes nothing.
use native.Mathlib.Omega.{arith}
use mathlib.Core.Path.{◌≡◌, sym, subst}
use mathlib.Core.Bool.{true}
use mathlib.Core.List.{List}
use Prim.Native.Nat.{ℕ}
use lib.ListN.{get_or}
use Rattle.page.specs.Page.{chained, key_of_chain}
use Rattle.shapes.specs.Shapes.{listed}
use Rattle.shapes.specs.Inner.{unbroken, ValueAt, ValueIs, ChainRead}
use Rattle.shapes.proofs.MarkedLines.{chain-unbroken}
use Rattle.shapes.proofs.LineLaws.{value_as, no-line-as, line-unshaped, line-unkeyed}
use Rattle.reader.specs.Walks.{ChainsRead}
use Rattle.reader.proofs.BadLines.{bad_line, handed_on}
use Rattle.reader.proofs.ChainsLaws.{Next, none_yet, next_of, all_read, bad-chain, chain-none, chain-some, one-read}
use Rattle.reader.proofs.parts.read_chains.Goals.{In-loop-state, In_ok-from}
use Rattle.reader.proofs.parts.read_chains.Goals as goal

-- which chain comes next
nextly : (c : In-loop-state) → Next c.loop-state.state-index (get_or chained c.loop-state.state-index 0)
nextly c = next_of c.loop-state.state-index (omega arith)

-- the value of its line
found : (c : In_ok-from)
    → ValueIs c.args.s.now c.loop-state.o (key_of_chain (get_or chained c.loop-state.state-index 0)) c.in_ok-from.from c.in_ok-from.to
found c = value_as c.chain_key.ensures (subst (ValueAt _ _ _) c.in_ok-from.ensures.ok_part c.value_at.ensures)

pub loop-state-init : goal.loop-state-init
loop-state-init c = none_yet _ _ _ c.requires

pub value_at-requires-clause-key_value : goal.value_at-requires-clause-key_value
value_at-requires-clause-key_value c =
    subst (λ (k : List ℕ). unbroken k ≡ true) (sym c.chain_key.ensures)
    (chain-unbroken _ (nextly (goal.at.value_at-requires-clause-key_value c).In-loop-state).small)

pub returns-in_err-from : goal.returns-in_err-from
returns-in_err-from c =
    let v = c.in_err-from.ensures in
    handed_on (ChainsRead _ _ _) c.from_residual.ensures
    (bad-chain c.loop-state.invariant _ (nextly (goal.at.returns-in_err-from c).In-loop-state)
    (line-unkeyed listed (no-line-as c.chain_key.ensures (subst (ValueAt _ _ _) v.ok_part c.value_at.ensures))) _ (bad_line v.value v.ok_part))

pub returns-in_err-links : goal.returns-in_err-links
returns-in_err-links c =
    let v = c.in_err-links.ensures in
    let f = found (goal.at.returns-in_err-links c).In_ok-from in
    handed_on (ChainsRead _ _ _) c.from_residual-in_err-links.ensures
    (bad-chain c.loop-state.invariant _ (nextly (goal.at.returns-in_err-links c).In-loop-state)
    (line-unshaped listed f (chain-none _ f.low (subst (ChainRead _ _ _) v.ok_part c.read_chain.ensures))) _ (bad_line v.value v.ok_part))

pub loop-state-preserved : goal.loop-state-preserved
loop-state-preserved c =
    let f = found (goal.at.loop-state-preserved c).In_ok-from in
    one-read c.loop-state.invariant _ (nextly (goal.at.loop-state-preserved c).In-loop-state) _ _ f _
    (chain-some _ _ _ _ f.low (subst (ChainRead _ _ _) c.in_ok-links.ensures.ok_part c.read_chain.ensures))

pub returns : goal.returns
returns c = all_read c.loop-state.invariant (omega arith)
