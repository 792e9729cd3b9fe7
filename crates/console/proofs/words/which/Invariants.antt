-- `console::words::which` meets its contract. The invariant: the words from word i on are searched in the same way.
-- Assumes nothing.
use Rattle.console.proofs.WordLaws.{Seeking}
use Rattle.console.proofs.words.which.Given as goal

abbrev pub invariant-loop-i : goal.invariant-loop-i
invariant-loop-i l = Seeking l.last l.field l.i
