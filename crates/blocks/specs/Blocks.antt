-- A text that comes in blocks. The lines that end in a block are printed for, and what stands behind the last of them is held until the
-- next block comes (OUTLINE, "The page and the console line").
-- Assumes nothing.
use Rattle.std.specs.Prelude.{ℕ, zero, suc, ◌+◌, ◌-◌, ◌≡◌, true, false, ◌&&◌, List, [], ◌∷◌, ◌++◌, length, take, drop, leb, eqb}
use Rattle.std.proofs.Math.Seq.{slice}
use Rattle.limits.specs.Limits.{longest_line, page_room}
use Rattle.text.specs.Text.{parts}
use Rattle.text.specs.Lines.{drop_empty, lines_ended, last_bytes}
use Rattle.tables.specs.declared.Tables.{Tables}
use Rattle.rules.specs.Engine.{front}
use Rattle.console.specs.Console.{keyed}
use Rattle.console.specs.Sheet.{lent, bytes_for, printed}

-- One turn, from place `at` of a block on, with n bytes left of the lent buffer: line after line is
-- printed for while `page_room` bytes are left.
-- What comes of it: the tables, the place of the next line, and the bytes printed.
pub record Turn : Type 0 where
  pub tables : Tables
  pub place : ℕ
  pub bytes : List ℕ

unfoldable pub turn : Tables → List (List ℕ) → ℕ → ℕ → Turn
turn t [] at n = record { tables = t; place = at; bytes = [] }
turn t (l ∷ ls) at n =
    let put : List ℕ = bytes_for t l in
    let next : Turn = turn (keyed t l lent).tables ls (at + length l + 1) (n - length put) in
    elim (leb page_room n) [
      | true ↦ record { tables = next.tables; place = next.place; bytes = put ++ next.bytes }
      | false ↦ record { tables = t; place = at; bytes = [] }
    ]

-- the same of a block's bytes and a lent buffer: how many bytes were put, and the buffer
pub record Turned : Type 0 where
  pub tables : Tables
  pub place : ℕ
  pub used : ℕ
  pub buffer : List ℕ

unfoldable pub turned : Tables → List ℕ → ℕ → List ℕ → Turned
turned t block at out =
    let x : Turn = turn t (lines_ended (parts 10 (drop at block))) at (length out) in
    record { tables = x.tables; place = x.place; used = length x.bytes; buffer = front x.bytes out }

-- what is held of a line that goes on behind the block: a byte more than a line may have is enough, since a longer line is not understood
-- whatever its bytes are
abbrev pub most : ℕ
most = longest_line + 1

-- The bytes of a block from one place to another go to its front, `most` of them at most; the rest is untouched. Places that
-- are no part of the block move nothing.
pub record Carried : Type 0 where
  pub held : ℕ
  pub block : List ℕ

unfoldable pub carried : List ℕ → ℕ → ℕ → Carried
carried s from to =
    let kept : List ℕ = take most (slice from to s) in
    elim (leb from to && leb to (length s)) [
      | true ↦ record { held = length kept; block = front kept s }
      | false ↦ record { held = 0; block = s }
    ]

-- Whoever takes the lines of a text one after another: what is kept after a line, and the bytes that are shown for it.
pub record Taker : Type 1 where
  pub Kept : Type 0
  pub next : Kept → List ℕ → Kept
  pub shows : Kept → List ℕ → List ℕ

-- what is kept after a text, or a part of it, and what was shown for it
pub record Taken (A : Type 0) : Type 0 where
  pub kept : A
  pub bytes : List ℕ

module _ (K : Taker) where
  -- what is kept after some lines; and what is shown for them
  unfoldable pub kept_after : K.Kept → List (List ℕ) → K.Kept
  kept_after k [] = k
  kept_after k (l ∷ ls) = kept_after (K.next k l) ls

  unfoldable pub shown_for : K.Kept → List (List ℕ) → List ℕ
  shown_for k [] = []
  shown_for k (l ∷ ls) = K.shows k l ++ shown_for (K.next k l) ls

  -- some lines, one after another
  abbrev pub taken : K.Kept → List (List ℕ) → Taken K.Kept
  taken k ls = record { kept = kept_after k ls; bytes = shown_for k ls }

  -- The same of a text that comes in blocks, `held` being what is held of an unfinished line. At the end of the text a line without
  -- byte 10 counts.
  unfoldable pub arriving : K.Kept → List ℕ → List (List ℕ) → Taken K.Kept
  arriving k held [] = taken k (drop_empty (held ∷ []))
  arriving k held (b ∷ bs) =
      let ls : List (List ℕ) = lines_ended (parts 10 (held ++ b)) in
      let rest : Taken K.Kept = arriving (kept_after k ls) (take most (last_bytes (parts 10 (held ++ b)))) bs in
      record { kept = rest.kept; bytes = shown_for k ls ++ rest.bytes }

-- `sheet`: it keeps the tables, and prints what a line prints
abbrev pub on_sheet : Taker
on_sheet = record { Kept = Tables; next = λ t l. (keyed t l lent).tables; shows = bytes_for }

-- the tables after some lines; what these print is `printed`
abbrev pub tables_after : Tables → List (List ℕ) → Tables
tables_after t ls = kept_after on_sheet t ls

-- Turn after turn over one block, each into n emptied bytes, until one prints nothing; k turns at most
unfoldable pub turns : ℕ → Tables → List ℕ → ℕ → ℕ → Turn
turns zero t block at n = record { tables = t; place = at; bytes = [] }
turns (suc k) t block at n =
    let x : Turn = turn t (lines_ended (parts 10 (drop at block))) at n in
    let y : Turn = turns k x.tables block x.place n in
    elim (eqb (length x.bytes) 0) [
      | true ↦ x
      | false ↦ record { tables = y.tables; place = y.place; bytes = x.bytes ++ y.bytes }
    ]

-- that is what the lines which end in the block from a place on print, the tables after them, and the place behind the last of them
pub record All (t : Tables) (block : List ℕ) (at : ℕ) (x : Turn) : Type 0 where
  pub bytes : x.bytes ≡ printed t (lines_ended (parts 10 (drop at block)))
  pub tables : x.tables ≡ tables_after t (lines_ended (parts 10 (drop at block)))
  pub rest : drop x.place block ≡ last_bytes (parts 10 (drop at block))

-- What the turns over a block s, and the carrying behind them, come to: what `arriving` prints for it, and the tables
-- and the held bytes that it goes on with.
pub record OneBlock (t : Tables) (s : List ℕ) (x : Turn) (c : Carried) : Type 0 where
  pub bytes : x.bytes ≡ printed t (lines_ended (parts 10 s))
  pub tables : x.tables ≡ tables_after t (lines_ended (parts 10 s))
  pub held : take c.held c.block ≡ take most (last_bytes (parts 10 s))
