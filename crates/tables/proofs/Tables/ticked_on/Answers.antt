-- `tables::Tables::ticked_on` meets its contract: a tick is a move by one.
-- Assumes nothing.
use Prim.Native.Nat.{◌+◌}
use native.Mathlib.Omega.{arith}
use Rattle.tables.proofs.Agree.{sound-clauses}
use Rattle.tables.proofs.Ticks.{can-pass, tick-made}
use Rattle.tables.proofs.Tables.ticked_on.Goals as goal

pub moved_to-requires : goal.moved_to-requires
moved_to-requires c =
    can-pass c.args.self c.requires.ready.orderly (sound-clauses c.args.self c.requires.ready.sound).dues
    (c.args.self.ledger.clock.ticks + 1) (omega (arith, c.requires.below))

pub returns : goal.returns
returns c = tick-made c.args.self c.requires.ready _ _ c.moved_to.ensures
