-- `tables::Tables::waiters` meets its contract. Assumes nothing.
use Rattle.tables.proofs.Tables.waiters.Goals as goal

pub returns : goal.returns
returns c = λ y R. record { disc = c.disc_waiters.ensures y R; general = c.general_waiters.ensures y R }
