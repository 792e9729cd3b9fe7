-- `chains::link` meets its contract. Past the end of the array `get_or` gives 0.
-- Assumes nothing.
use native.Mathlib.Omega.{arith}
use mathlib.Core.Path.{sym}
use lib.ListN.{get_or-eq_default}
use Rattle.chains.proofs.link.Goals as goal

pub returns-else-at-lt-SLOTS : goal.returns-else-at-lt-SLOTS
returns-else-at-lt-SLOTS c = sym (get_or-eq_default c.args.links 0 (omega arith))
