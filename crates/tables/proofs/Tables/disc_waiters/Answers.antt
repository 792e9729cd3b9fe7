-- `tables::Tables::disc_waiters` meets its contract.
-- Assumes nothing.
use native.Mathlib.Omega.{arith}
use Rattle.tables.proofs.Waiting.{listed-chain, disc-none, disc-all}
use Rattle.tables.proofs.Tables.disc_waiters.Goals as goal

pub returns-then-release-eq0 : goal.returns-then-release-eq0
returns-then-release-eq0 c =
    rw (c.empty.ensures.ids, c.empty.ensures.len) (disc-none c.args.self.now c.args.release c.if-release-eq0.true)

pub without-requires : goal.without-requires
without-requires c = listed-chain _ c.requires 5 (omega arith) (omega arith) _ _ c.chain_of-list.ensures

pub returns : goal.returns
returns c =
    disc-all _ _ _ _ _ _ c.requires c.if-release-eq0.false c.chain_of-list.ensures c.without.ensures
