-- `desk::board_find` meets its contract: too little room for the answer is refused with nothing looked for; else the answer is put, and
-- behind its value, which is always 0, the mark and the place (`find-done`). Assumes nothing.
use Rattle.board.proofs.Desks.{find-not, find-done}
use Rattle.board.proofs.desk.board_find.Goals as goal

pub returns-then-answer-lt-FIGURES_LENGTH : goal.returns-then-answer-lt-FIGURES_LENGTH
returns-then-answer-lt-FIGURES_LENGTH c =
    let a = c.args in
    find-not a.original.now a.copy.now a.key.now a.occurrence a.answer.now c.if-answer-lt-FIGURES_LENGTH.true

pub returns : goal.returns
returns c =
    let a = c.args in
    find-done a.original.now a.copy.now a.key.now a.occurrence a.answer.now c.locate-found.result c.put_figures.new.buf
    c.number_of-number.result c.mark_number.result c.if-answer-lt-FIGURES_LENGTH.false c.locate-found.ensures c.number_of-number.ensures
    c.mark_number.ensures c.put_figures.ensures
