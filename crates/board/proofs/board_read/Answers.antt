-- `board_read` meets its contract: too little room for the answer or for the tables is refused with nothing read; else the tables stand
-- at the front of their buffer. Assumes nothing.
use native.Mathlib.Omega.{arith}
use mathlib.Core.Path.{◌≡◌, ap, ap₂, sym, ◌∙◌}
use mathlib.Core.List.{List, ◌++◌}
use Prim.Native.Nat.{ℕ}
use lib.ListN.{length, drop}
use lib.Seq.{length-take-le}
use Rattle.packing.specs.Packed.{packed}
use Rattle.board.proofs.ReadingBack.{read-not, read_short, read_done}
use Rattle.board.proofs.board_read.Goals as goal

pub returns-then-answer-lt-FIGURES_LENGTH : goal.returns-then-answer-lt-FIGURES_LENGTH
returns-then-answer-lt-FIGURES_LENGTH c =
    let a = c.args in read-not a.page.now a.tables.now a.answer.now c.if-answer-lt-FIGURES_LENGTH.true

pub returns-then-tables-lt-PACKED_LENGTH : goal.returns-then-tables-lt-PACKED_LENGTH
returns-then-tables-lt-PACKED_LENGTH c =
    let a = c.args in
    read_short a.page.now a.tables.now a.answer.now c.if-answer-lt-FIGURES_LENGTH.false c.tell.result c.tell.new.buf c.if-tables-lt-PACKED_LENGTH.true
    c.tell.ensures.value c.tell.ensures.buf_after

pub copy_from_slice-requires : goal.copy_from_slice-requires
copy_from_slice-requires c =
    omega (
      arith,
      length-take-le 1271 c.args.tables.now c.if-tables-lt-PACKED_LENGTH.false,
      ap length c.as_slice.ensures.value,
      c.pack.ensures.len,
    )

pub returns : goal.returns
returns c =
    let a = c.args in
    let whole = c.copy_from_slice.ensures.after ∙ c.as_slice.ensures.value ∙ c.pack.ensures.items in
    let long : 1271 ≡ length (packed c.read_page-r.result.tables) = sym c.pack.ensures.len ∙ ap length c.pack.ensures.items in
    read_done a.page.now a.tables.now a.answer.now c.if-answer-lt-FIGURES_LENGTH.false c.read_page-r.result
    (c.copy_from_slice.new.self ++ drop 1271 a.tables.now)
    c.tell-2.new.buf c.tell-2.result c.if-tables-lt-PACKED_LENGTH.false c.read_page-r.ensures
    (ap₂ (λ (x : List ℕ) (k : ℕ). x ++ drop k a.tables.now) whole long)
    c.tell-2.ensures.value c.tell-2.ensures.buf_after
