-- `tables::Tables::general_waiters` meets its contract.
-- Assumes nothing.
use native.Mathlib.Omega.{arith}
use Rattle.tables.proofs.Waiting.{listed-chain, listed-less, general-all}
use Rattle.tables.proofs.Tables.general_waiters.Goals as goal

pub without-rest-requires : goal.without-rest-requires
without-rest-requires c = listed-chain _ c.requires 3 (omega arith) (omega arith) _ _ c.chain_of-list.ensures

pub sift-requires : goal.sift-requires
sift-requires c =
    listed-less _ (listed-chain _ c.requires 3 (omega arith) (omega arith) _ _ c.chain_of-list.ensures)
    c.without-rest.ensures

pub returns : goal.returns
returns c =
    general-all _ _ _ _ _ _ _ _ c.requires c.chain_of-list.ensures c.without-rest.ensures c.sift.ensures
