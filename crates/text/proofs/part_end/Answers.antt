-- `text::part_end` meets its contract: the part ends at the first d. Assumes nothing.
use mathlib.Core.Path.{sym}
use Rattle.text.proofs.Fields.{found_end, none_end}
use Rattle.text.proofs.part_end.Goals as goal

pub returns-in-Some : goal.returns-in-Some
returns-in-Some c = found_end c.args.d c.args.s.now c.args.from c.in-Some.n c.requires (sym c.in-Some.ensures)

pub returns-in-None : goal.returns-in-None
returns-in-None c = none_end c.args.d c.args.s.now c.args.from 0 c.requires (sym c.in-None.ensures)
