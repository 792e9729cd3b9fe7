-- `board::telling::tell` meets its contract: with room, the answer's figures stand at the front (`answering-put`), and without room
-- nothing is put (`answering-not`). Assumes nothing.
use mathlib.Core.Path.{◌∙◌, ap}
use mathlib.Core.List.{◌∷◌, map}
use Prim.Native.Nat.{ℕ}
use Rattle.lists.specs.Lists.{join}
use Rattle.rules.specs.Answers.{number, values}
use Rattle.rules.specs.Engine.{front}
use Rattle.packing.specs.Packed.{in_bytes}
use Rattle.board.proofs.Answered.{answering-put}
use Rattle.board.proofs.telling.tell.Goals as goal

pub returns-then-buf-ge-FIGURES_LENGTH-clause-buf_after : goal.returns-then-buf-ge-FIGURES_LENGTH-clause-buf_after
returns-then-buf-ge-FIGURES_LENGTH-clause-buf_after c =
    let a = c.args in
    answering-put (number a.answer) (values a.answer) a.buf.now c.values_of.result c.values_of.ensures c.if-buf-ge-FIGURES_LENGTH.true
    (c.put_figures.ensures
    ∙ ap (λ (n : ℕ). front (join (map (in_bytes 8) (n ∷ c.values_of.result))) a.buf.now) c.number_of-number.ensures)
