-- `board_ask` meets its contract: bytes that are not in packed form, and too little room for the answer, are refused with nothing done;
-- else the tables fill their buffer. Assumes nothing.
use native.Mathlib.Omega.{arith}
use mathlib.Core.Bool.{not, true, false}
use mathlib.Core.Path.{◌≡◌, sym, ap, ◌∙◌}
use lib.ListN.{length}
use borrow.Author.Tests.{not-true, not-false}
use Rattle.packing.specs.Packed.{is_packed}
use Rattle.packing.proofs.OneForm.{is-length}
use Rattle.board.proofs.Agreed.{boarded-other, boarded-short, boarded-done}
use Rattle.board.proofs.board_ask.Goals.{Else-not-is_packed}
use Rattle.board.proofs.board_ask.Goals as goal

pub returns-then-not-is_packed : goal.returns-then-not-is_packed
returns-then-not-is_packed c =
    let a = c.args in
    boarded-other a.tables.now a.line.now a.page.now a.answer.now c.tell.result c.tell.new.buf
    (sym c.is_packed.ensures ∙ not-true c.is_packed.result (ap not c.if-not-is_packed.true)) c.tell.ensures.value c.tell.ensures.buf_after

form : (c : Else-not-is_packed) → is_packed c.args.tables.now ≡ true
form c = sym c.is_packed.ensures ∙ not-false c.is_packed.result (ap not c.if-not-is_packed.false)

pub tables_at-t-requires : goal.tables_at-t-requires
tables_at-t-requires c = omega (arith, is-length c.args.tables.now (form (goal.at.tables_at-t-requires c).Else-not-is_packed))

pub returns-then-is_sound : goal.returns-then-is_sound
returns-then-is_sound c =
    let a = c.args in
    boarded-short a.tables.now a.line.now a.page.now a.answer.now (form (goal.at.returns-then-is_sound c).Else-not-is_packed) c.tables_at-t.result true
    c.if-answer-lt-FIGURES_LENGTH.true c.tables_at-t.ensures
    (sym c.is_sound.ensures ∙ c.if-is_sound.true)

pub returns-then-answer-lt-FIGURES_LENGTH : goal.returns-then-answer-lt-FIGURES_LENGTH
returns-then-answer-lt-FIGURES_LENGTH c =
    let a = c.args in
    boarded-short a.tables.now a.line.now a.page.now a.answer.now (form (goal.at.returns-then-answer-lt-FIGURES_LENGTH c).Else-not-is_packed) c.tables_at-t.result false
    c.if-answer-lt-FIGURES_LENGTH.true c.tables_at-t.ensures
    (sym c.is_sound.ensures ∙ c.if-is_sound.false)

pub copy_from_slice-requires : goal.copy_from_slice-requires
copy_from_slice-requires c =
    omega (
      arith,
      is-length c.args.tables.now (form (goal.at.copy_from_slice-requires c).Else-not-is_packed),
      ap length c.as_slice.ensures.value,
      c.pack.ensures.len,
    )

pub returns : goal.returns
returns c =
    let a = c.args in
    boarded-done a.tables.now a.line.now a.page.now a.answer.now (form (goal.at.returns c).Else-not-is_packed) c.tables_at-t.result c.key_line-r.result
    c.copy_from_slice.new.self
    c.key_line-r.new.buf c.tell-2.new.buf c.tell-2.result c.if-answer-lt-FIGURES_LENGTH.false c.tables_at-t.ensures
    c.key_line-r.ensures (c.copy_from_slice.ensures.after ∙ c.as_slice.ensures.value ∙ c.pack.ensures.items)
    c.tell-2.ensures.value c.tell-2.ensures.buf_after
