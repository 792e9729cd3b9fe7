-- `board_sound` meets its contract: bytes that are no tables are not sound (`soundly-other`), and else it is the test of the
-- tables that they say (`soundly-is`). Assumes nothing.
use native.Mathlib.Omega.{arith}
use mathlib.Core.Path.{◌≡◌, refl, sym, ap, ◌∙◌}
use mathlib.Core.Bool.{Bool, true, false}
use mir.Val.{bool_byte}
use Rattle.lists.specs.Lists.{hit}
use Rattle.packing.proofs.OneForm.{is-length}
use Rattle.board.proofs.Agreed.{soundly-other, soundly-is}
use Rattle.board.proofs.board_sound.Goals.{then-is_packed, else-is_packed}
use Rattle.board.proofs.board_sound.Goals as goal

pub tables_at-requires : goal.tables_at-requires
tables_at-requires c = omega (arith, is-length c.args.tables.now (sym c.is_packed.ensures ∙ c.if-is_packed.true))

byte-hit : (b : Bool) → bool_byte b ≡ hit b
byte-hit true = refl
byte-hit false = refl

pub returns : goal.returns
returns c =
    let s = c.args.tables.now in
    c.from.ensures ∙ byte-hit c.if-is_packed.from
    ∙ (elim c.if-is_packed.branch [
      | then-is_packed w ↦
          soundly-is s w.tables_at.result c.if-is_packed.from (sym c.is_packed.ensures ∙ w.if-is_packed.true) w.tables_at.ensures
          (sym w.is_sound.ensures ∙ sym w.from-is)
      | else-is_packed w ↦
          ap hit (w.from-is ∙ w.if-is_packed.false) ∙ soundly-other s (sym c.is_packed.ensures ∙ w.if-is_packed.false)
    ])
