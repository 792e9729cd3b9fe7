-- `decisions::deciding::asks` meets its contract: the parts of the book are its parts. Assumes nothing.
use Rattle.decisions.proofs.Laws.{book-in}
use Rattle.decisions.proofs.deciding.asks.Goals as goal

pub returns : goal.returns
returns c = λ v O. c.upon.ensures v (book-in v _ O)
