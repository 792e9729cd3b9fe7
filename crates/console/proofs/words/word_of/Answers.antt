-- `console::words::word_of` meets its contract: the table is the same. Assumes nothing.
use mathlib.Core.Path.{refl}
use Rattle.console.specs.Inner.{rows}
use Rattle.console.proofs.words.word_of.Goals as goal

pub returns : goal.returns
unfolding rows
returns c = refl
