-- `console::words::said_by` meets its contract: the table is the same. Assumes nothing.
use mathlib.Core.Path.{refl}
use Rattle.console.specs.Inner.{requests}
use Rattle.console.proofs.words.said_by.Goals as goal

pub returns : goal.returns
unfolding requests
returns c = refl
