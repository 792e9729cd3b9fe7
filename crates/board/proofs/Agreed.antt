-- Laws of the calls on tables in bytes, by the paths of the code: bytes in packed form and others, room for the answer, and buffers that
-- hold exactly what was written to them.
-- Assumes nothing.
use Prim.Native.Nat.{ℕ, ◌<◌, ◌≤◌}
use mathlib.Core.Path.{◌≡◌, sym, ap, ◌∙◌}
use mathlib.Core.Bool.{Bool, true, false, cond, ◌&&◌}
use mathlib.Core.List.{List, [], ◌∷◌}
use lib.Dec.{leb}
use lib.ListN.{length}
use borrow.Author.Tests.{le-leb, lt-leb}
use Rattle.lists.specs.Lists.{hit}
use Rattle.tables.specs.declared.Tables.{Tables}
use Rattle.tables.specs.declared.Outcome.{Outcome}
use Rattle.tables.specs.Sound.{sound}
use Rattle.tables.specs.Calls.{told}
use Rattle.rules.specs.Engine.{beside}
use Rattle.page.specs.Paging.{Written}
use Rattle.console.specs.Console.{keyed}
use Rattle.rules.specs.Answers as answers
use Rattle.packing.specs.Packed.{packed, unpacked, is_packed}
use Rattle.board.specs.Board.{figures_length, answering, Boarded, not_boarded, boarded, soundly}
use Rattle.board.proofs.Answered.{answering-not}

-- THE TEST OF SOUNDNESS
module _ (s : List ℕ) where
  pub soundly-other : is_packed s ≡ false → 0 ≡ soundly s
  unfolding soundly
  soundly-other e = sym (ap (λ (x : Bool). hit (x && sound (unpacked s))) e)

  -- what the code has in hand
  pub soundly-is : (t : Tables) (b : Bool) → is_packed s ≡ true → t ≡ unpacked s → sound t ≡ b → hit b ≡ soundly s
  unfolding soundly
  soundly-is t b e u k =
      ap hit (sym k) ∙ ap (λ (x : Tables). hit (sound x)) u ∙ sym (ap (λ (x : Bool). hit (x && sound (unpacked s))) e)

-- A LINE
module _ (s line page buf : List ℕ) where
  abbrev done : Written → Boarded
  done w = record { number = w.number; tables = packed w.tables; page = w.buffer; answer = answering w.number w.values buf }

  -- of bytes in packed form, by the room for the answer
  abbrev pub taken : Bool → Boarded
  taken b = elim b [ true ↦ done (keyed (unpacked s) line page) | false ↦ not_boarded (cond (sound (unpacked s)) 12 14) s page buf ]

  pub by_form : (b : Bool) → is_packed s ≡ b
      → boarded s line page buf ≡ elim b [ true ↦ taken (leb figures_length (length buf)) | false ↦ not_boarded 14 s page buf ]
  unfolding boarded
  by_form b e = ap (λ (x : Bool). elim x [ true ↦ taken (leb figures_length (length buf)) | false ↦ not_boarded 14 s page buf ]) e

  pub boarded-other : (r : ℕ) (buf' : List ℕ) → is_packed s ≡ false → r ≡ 14 → buf' ≡ answering 14 (0 ∷ []) buf
      → record { number = r; tables = s; page = page; answer = buf' } ≡ boarded s line page buf
  boarded-other r buf' e n a = (λ i. record { number = n i; tables = s; page = page; answer = a i }) ∙ sym (by_form false e)

  module _ (is : is_packed s ≡ true) where
    by-room : (b : Bool) → leb figures_length (length buf) ≡ b → boarded s line page buf ≡ taken b
    by-room b e = by_form true is ∙ ap taken e

    pub boarded-short : (t : Tables) (b : Bool) → length buf < figures_length → t ≡ unpacked s → sound t ≡ b
        → record { number = cond b 12 14; tables = s; page = page; answer = buf } ≡ boarded s line page buf
    boarded-short t b h u k =
        (λ i. record { number = cond b 12 14; tables = s; page = page; answer = sym (answering-not (cond b 12 14) (0 ∷ []) buf h) i })
        ∙ ap (λ (n : ℕ). not_boarded n s page buf) (ap (λ (x : Bool). cond x 12 14) (sym k ∙ ap sound u))
        ∙ sym (by-room false (lt-leb figures_length (length buf) h))

    -- what the code has in hand: the tables, the outcome of the line beside the page's buffer after it, the
    -- tables put back, and the answer told
    pub boarded-done : (t : Tables) (r : Outcome) (s' page' buf' : List ℕ) (m : ℕ) → figures_length ≤ length buf → t ≡ unpacked s
        → beside page' (told r) ≡ keyed t line page
        → s' ≡ packed r.tables
        → m ≡ answers.number r.answer → buf' ≡ answering (answers.number r.answer) (answers.values r.answer) buf
        → record { number = m; tables = s'; page = page'; answer = buf' } ≡ boarded s line page buf
    boarded-done t r s' page' buf' m h u k tables e a =
        (λ i. record { number = e i; tables = tables i; page = page'; answer = a i })
        ∙ ap done (k ∙ ap (λ (x : Tables). keyed x line page) u)
        ∙ sym (by-room true (le-leb figures_length (length buf) h))
