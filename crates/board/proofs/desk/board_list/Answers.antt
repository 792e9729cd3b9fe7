-- `desk::board_list` meets its contract: too little room for the answer is refused with nothing listed; else the answer to the listing is
-- told (`list_done`). Assumes nothing.
use Rattle.board.proofs.Desks.{list-not, list_done}
use Rattle.board.proofs.desk.board_list.Goals as goal

pub returns-then-answer-lt-FIGURES_LENGTH : goal.returns-then-answer-lt-FIGURES_LENGTH
returns-then-answer-lt-FIGURES_LENGTH c =
    let a = c.args in
    list-not a.original.now a.copy.now a.list.now a.answer.now c.if-answer-lt-FIGURES_LENGTH.true

pub returns : goal.returns
returns c =
    let a = c.args in
    list_done a.original.now a.copy.now a.list.now a.answer.now c.list-told.result c.list-told.new.list
    c.tell.new.buf c.tell.result c.if-answer-lt-FIGURES_LENGTH.false c.list-told.ensures c.tell.ensures.value c.tell.ensures.buf_after
