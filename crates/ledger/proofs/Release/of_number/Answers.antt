-- `ledger::Release::of_number` meets its contract: number r alone is marked, at r - 1. Assumes nothing.
use mathlib.Core.Path.{refl}
use Rattle.rules.specs.Rules.{clears}
use Rattle.ledger.proofs.Releasing.{marked}
use Rattle.ledger.proofs.Release.of_number.Goals as goal

pub returns : goal.returns
unfolding clears
returns c = record { ended = refl; tracks = refl; cleared = λ s h. marked 16 c.args.r s c.requires.0 c.requires.1 h; dealt = refl }
