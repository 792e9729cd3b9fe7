-- `console::words::texts` meets its contract: the table is the same. Assumes nothing.
use mathlib.Core.Path.{refl}
use Rattle.console.specs.Line.{execs, numbers, forms}
use Rattle.console.specs.Inner.{entries, keys}
use Rattle.console.proofs.words.texts.Goals as goal

pub returns : goal.returns
unfolding execs numbers forms entries keys
returns c = refl
