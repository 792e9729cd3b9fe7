-- `console::lines::line_end` meets its contract: past the end there is no line, and else a line ends where its part ends. Assumes nothing.
use native.Mathlib.Omega.{arith}
use Rattle.console.proofs.LineEnds.{end-past, end-within}
use Rattle.console.proofs.lines.line_end.Goals as goal

pub returns-then-block-from : goal.returns-then-block-from
returns-then-block-from c = end-past _ _ c.if-block-from.true

pub returns : goal.returns
returns c = end-within _ _ _ (omega arith) c.part_end.ensures
