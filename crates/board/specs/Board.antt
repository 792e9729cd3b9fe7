-- What the functions on bytes come to.
-- Assumes nothing.
use Rattle.std.specs.Prelude.{ℕ, ◌-◌, ◌≡◌, true, false, cond, ◌&&◌, List, [], ◌∷◌, ◌++◌, map, length, take, replicate, leb}
use Rattle.text.specs.Lines.{lines_of}
use Rattle.lists.specs.Lists.{hit, join}
use Rattle.tables.specs.declared.Tables.{Tables}
use Rattle.tables.specs.Tables.{smallest}
use Rattle.tables.specs.Sound.{sound}
use Rattle.rules.specs.Engine.{front}
use Rattle.tables.specs.Calls.{Result}
use Rattle.page.specs.Paging.{Written}
use Rattle.reader.specs.Reading.{reading}
use Rattle.console.specs.Console.{keyed}
use Rattle.console.specs.Sheet.{lent, bytes_for, sheet}
use Rattle.packing.specs.Packed.{in_bytes, packed_length, packed, unpacked, is_packed}

-- what is put of the output of some lines where n bytes are lent: that of each line as long as it fits
unfoldable pub filled : Tables → List (List ℕ) → ℕ → List ℕ
filled t [] n = []
filled t (l ∷ ls) n =
    let bytes : List ℕ = bytes_for t l in
    elim (leb (length bytes) n) [ true ↦ bytes ++ filled (keyed t l lent).tables ls (n - length bytes) | false ↦ [] ]

-- the number of an answer and six values, those that it does not have 0, each in 8 bytes
unfoldable pub figures : ℕ → List ℕ → List ℕ
figures a vs = join (map (in_bytes 8) (a ∷ take 6 (vs ++ replicate 6 0)))

abbrev pub figures_length : ℕ
figures_length = 56

-- an answer at the front of the bytes lent for it; where these are too few it is told by its number alone
abbrev pub answering : ℕ → List ℕ → List ℕ → List ℕ
answering a vs buf = cond (leb figures_length (length buf)) (front (figures a vs) buf) buf

-- A text run from the smallest tables. 0, how many bytes its output has in all, and how many of them were put; 3 where the text has more
-- than 2 ^ 48 bytes; 12 where too few bytes are lent for the answer. A refusal leaves the buffer as it was.
pub record Ran : Type 0 where
  pub number : ℕ
  pub buffer : List ℕ
  pub answer : List ℕ

abbrev pub longest : ℕ
longest = 281474976710656

abbrev pub not_run : ℕ → List ℕ → List ℕ → Ran
not_run a out buf = record { number = a; buffer = out; answer = answering a (0 ∷ []) buf }

unfoldable pub ran : List ℕ → List ℕ → List ℕ → Ran
ran s out buf =
    let put : List ℕ = filled smallest (lines_of s) (length out) in
    elim (leb (length s) longest) [
      | true ↦ elim (leb figures_length (length buf)) [
        | true ↦ record { number = 0; buffer = front put out; answer = answering 0 (length (sheet s) ∷ length put ∷ []) buf }
        | false ↦ not_run 12 out buf
      ]
      | false ↦ not_run 3 out buf
    ]

-- A line keyed in on tables in bytes: the answer's number, the tables after it, the lent buffer, and the answer. 14, first, where the bytes
-- are no tables or these are not sound; 12 where too few bytes are lent for the answer.
pub record Boarded : Type 0 where
  pub number : ℕ
  pub tables : List ℕ
  pub page : List ℕ
  pub answer : List ℕ

-- tables and page are as they were given
pub record AsGiven (s p : List ℕ) (r : Boarded) : Type 0 where
  pub tables : r.tables ≡ s
  pub page : r.page ≡ p

abbrev pub not_boarded : ℕ → List ℕ → List ℕ → List ℕ → Boarded
not_boarded a s page buf = record { number = a; tables = s; page = page; answer = answering a (0 ∷ []) buf }

unfoldable pub boarded : List ℕ → List ℕ → List ℕ → List ℕ → Boarded
boarded s line page buf =
    let w : Written = keyed (unpacked s) line page in
    elim (is_packed s) [
      | true ↦ elim (leb figures_length (length buf)) [
        | true ↦
            record { number = w.number; tables = packed w.tables; page = w.buffer; answer = answering w.number w.values buf }
        | false ↦ not_boarded (cond (sound (unpacked s)) 12 14) s page buf
      ]
      | false ↦ not_boarded 14 s page buf
    ]

-- whether bytes are tables in packed form that are sound: 1 or 0
unfoldable pub soundly : List ℕ → ℕ
soundly s = hit (is_packed s && sound (unpacked s))

-- A page read back: the answer's number, the tables in packed form at the front of the bytes lent for them, and the answer. 12, with
-- nothing read, where too few bytes are lent for the answer, or, its value how many are needed, for the tables.
pub record ReadBack : Type 0 where
  pub number : ℕ
  pub tables : List ℕ
  pub answer : List ℕ

unfoldable pub read_back : List ℕ → List ℕ → List ℕ → ReadBack
read_back s tables buf =
    let w : Result = reading s in
    elim (leb figures_length (length buf)) [
      | true ↦ elim (leb packed_length (length tables)) [
        | true ↦
            record { number = w.number; tables = front (packed w.tables) tables; answer = answering w.number w.values buf }
        | false ↦ record { number = 12; tables = tables; answer = answering 12 (packed_length ∷ []) buf }
      ]
      | false ↦ record { number = 12; tables = tables; answer = buf }
    ]
