-- `ledger::Release::of_tracks` meets its contract: no number is marked. Assumes nothing.
use mathlib.Core.Path.{refl}
use Prim.Native.Nat.{◌-◌}
use Rattle.rules.specs.Rules.{frees}
use Rattle.ledger.proofs.Rows.{unset}
use Rattle.ledger.proofs.Release.of_tracks.Goals as goal

pub returns : goal.returns
unfolding frees
returns c = record { ended = refl; tracks = refl; cleared = λ r h. unset _ 16 (r - 1); dealt = refl }
