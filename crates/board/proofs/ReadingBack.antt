-- Laws of a page read back into bytes, by the paths of the code: room for the answer, room for the tables, and what is read.
-- Assumes nothing.
use Prim.Native.Nat.{ℕ, ◌<◌, ◌≤◌}
use mathlib.Core.Path.{◌≡◌, sym, ap, ◌∙◌}
use mathlib.Core.Bool.{Bool, true, false}
use mathlib.Core.List.{List, [], ◌∷◌}
use lib.Dec.{leb}
use lib.ListN.{length}
use borrow.Author.Tests.{le-leb, lt-leb}
use Rattle.tables.specs.declared.Outcome.{Outcome}
use Rattle.tables.specs.Calls.{Result, told}
use Rattle.rules.specs.Engine.{front}
use Rattle.rules.specs.Answers as answers
use Rattle.reader.specs.Reading.{reading}
use Rattle.packing.specs.Packed.{packed_length, packed}
use Rattle.board.specs.Board.{figures_length, answering, ReadBack, read_back}

module _ (s tables buf : List ℕ) where
  -- what was read is put
  abbrev read : Result → ReadBack
  read w = record { number = w.number; tables = front (packed w.tables) tables; answer = answering w.number w.values buf }

  -- with room for the answer, by that for the tables
  abbrev roomy : Bool → ReadBack
  roomy b =
      elim b [ true ↦ read (reading s) | false ↦ record { number = 12; tables = tables; answer = answering 12 (packed_length ∷ []) buf } ]

  by_answer : (b : Bool) → leb figures_length (length buf) ≡ b
      → read_back s tables buf
      ≡ elim b [ true ↦ roomy (leb packed_length (length tables)) | false ↦ record { number = 12; tables = tables; answer = buf } ]
  unfolding read_back
  by_answer b e =
      ap
      (λ (x : Bool).
      elim x [ true ↦ roomy (leb packed_length (length tables)) | false ↦ record { number = 12; tables = tables; answer = buf } ])
      e

  pub read-not : length buf < figures_length → record { number = 12; tables = tables; answer = buf } ≡ read_back s tables buf
  read-not h = sym (by_answer false (lt-leb figures_length (length buf) h))

  module _ (h : figures_length ≤ length buf) where
    by-tables : (b : Bool) → leb packed_length (length tables) ≡ b → read_back s tables buf ≡ roomy b
    by-tables b e = by_answer true (le-leb figures_length (length buf) h) ∙ ap roomy e

    pub read_short : (r : ℕ) (buf' : List ℕ) → length tables < packed_length → r ≡ 12 → buf' ≡ answering 12 (packed_length ∷ []) buf
        → record { number = r; tables = tables; answer = buf' } ≡ read_back s tables buf
    read_short r buf' k n a =
        (λ i. record { number = n i; tables = tables; answer = a i }) ∙ sym (by-tables false (lt-leb packed_length (length tables) k))

    -- what the code has in hand: the outcome of the reading, the tables put, and the answer told
    pub read_done : (r : Outcome) (tables' buf' : List ℕ) (m : ℕ) → packed_length ≤ length tables → told r ≡ reading s
        → tables' ≡ front (packed r.tables) tables
        → m ≡ answers.number r.answer → buf' ≡ answering (answers.number r.answer) (answers.values r.answer) buf
        → record { number = m; tables = tables'; answer = buf' } ≡ read_back s tables buf
    read_done r tables' buf' m k e put q a =
        (λ i. record { number = q i; tables = put i; answer = a i })
        ∙ ap read e
        ∙ sym (by-tables true (le-leb packed_length (length tables) k))
