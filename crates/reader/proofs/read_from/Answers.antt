-- `read_from` reads the tables that the lines say, and judges them.
-- Assumes nothing.
use native.Mathlib.Omega.{arith}
use Rattle.reader.proofs.WholePage.{nothing_left}
use Rattle.reader.proofs.read_from.Goals as goal

pub returns-then-s-at : goal.returns-then-s-at
returns-then-s-at c = nothing_left c.args.s.now c.args.at (omega arith) c.not_read.ensures
