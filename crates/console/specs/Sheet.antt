-- What the program `sheet` prints for a text (OUTLINE, "The page and the console line").
-- Assumes nothing.
use Rattle.std.specs.Prelude.{ℕ, ◌+◌, true, false, cond, ◌&&◌, List, [], ◌∷◌, ◌++◌, map, length, get_or, drop, replicate, leb, eqb}
use Rattle.limits.specs.Limits.{page_room}
use Rattle.text.specs.Text.{text, decimal, between, parts}
use Rattle.text.specs.Lines.{lines_of}
use Rattle.tables.specs.declared.Tables.{Tables}
use Rattle.tables.specs.Tables.{plain, smallest}
use Rattle.page.specs.Page.{page}
use Rattle.rules.specs.Engine.{front}
use Rattle.page.specs.Paging.{Written}
use Rattle.console.specs.Line.{Line, bad, PAGE, asks, ticks, line_of}
use Rattle.console.specs.Console.{keyed}

-- a buffer that no page is longer than
abbrev pub lent : List ℕ
lent = replicate page_room 0

-- `answer=a,value=v`, the parts of a time joined by dots
abbrev pub answer_of : ℕ → List ℕ → List ℕ
answer_of a vs = text "answer=" ++ decimal a ++ text ",value=" ++ between 46 (map decimal vs) ++ (10 ∷ [])

unfoldable pub answer_line : Written → List ℕ
answer_line r = answer_of r.number r.values

-- that line put at the front of a buffer where the longest has room: how many bytes, and the buffer
abbrev pub longest_answer : ℕ
longest_answer = 160

pub record Put : Type 0 where
  pub many : ℕ
  pub buffer : List ℕ

unfoldable pub answer_put : ℕ → List ℕ → List ℕ → Put
answer_put a vs out =
    let line : List ℕ = answer_of a vs in
    cond (leb longest_answer (length out)) (record { many = length line; buffer = front line out }) (record { many = 0; buffer = out })

-- for PAGE the page instead
abbrev pub shown : Line → Tables → Written → List ℕ
shown bad t r = answer_line r
shown PAGE t r = cond (eqb r.number 0) (page (plain t)) (answer_line r)
shown (asks q) t r = answer_line r
shown (ticks n) t r = answer_line r

-- what a line prints
abbrev pub bytes_for : Tables → List ℕ → List ℕ
bytes_for t l = shown (line_of l) t (keyed t l lent)

-- What a line prints, at the front of a lent buffer: 0, and how many bytes; or 12, and the bytes needed, where fewer than
-- 8,704 are lent: then nothing is done.
unfoldable pub line_shown : Tables → List ℕ → List ℕ → Written
line_shown t l out =
    elim (leb page_room (length out)) [
      | true ↦
          record { number = 0; values = length (bytes_for t l) ∷ []; tables = (keyed t l lent).tables; buffer = front (bytes_for t l) out }
      | false ↦ record { number = 12; values = page_room ∷ []; tables = t; buffer = out }
    ]

-- how many bytes those are, by the answer's number and values
abbrev pub printed_bytes : ℕ → List ℕ → ℕ
printed_bytes a vs = cond (eqb a 0 && eqb (length vs) 1) (get_or vs 0 0) 0

-- where the line that begins at a place of a block ends: at its byte 10, or at the block's end
unfoldable pub line_end : List ℕ → ℕ → ℕ
line_end s at = cond (leb at (length s)) (at + length (get_or (parts 10 (drop at s)) 0 [])) (length s)

-- line after line, the tables handed on
unfoldable pub printed : Tables → List (List ℕ) → List ℕ
printed t [] = []
printed t (l ∷ ls) = bytes_for t l ++ printed (keyed t l lent).tables ls

unfoldable pub sheet : List ℕ → List ℕ
sheet s = printed smallest (lines_of s)
