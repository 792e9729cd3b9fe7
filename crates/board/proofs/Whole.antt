-- A buffer that is long enough for the whole output of some lines holds it whole; and what is put never goes past the buffer's end.
-- Assumes nothing.
use Prim.Native.Nat.{ℕ, ◌+◌, ◌-◌, ◌<◌, ◌≤◌}
use native.Mathlib.Omega.{arith}
use mathlib.Core.Path.{◌≡◌, refl, ap, ◌∙◌}
use mathlib.Core.Bool.{Bool, true, false}
use mathlib.Core.List.{List, [], ◌∷◌, ◌++◌}
use lib.Dec.{leb}
use lib.ListN.{length, length-append}
use borrow.Author.Tests.{leb-true, le-leb, lt-leb}
use Rattle.text.specs.Lines.{lines_of}
use Rattle.tables.specs.declared.Tables.{Tables}
use Rattle.tables.specs.Tables.{smallest}
use Rattle.rules.specs.Engine.{front}
use Rattle.console.specs.Console.{keyed}
use Rattle.console.specs.Sheet.{bytes_for, lent, printed, sheet}
use Rattle.board.specs.Board.{figures_length, answering, longest, filled, Ran, not_run, ran}

-- what a line prints, and the tables after it
abbrev pub after : Tables → List ℕ → Tables
after t l = (keyed t l lent).tables

-- the first of some lines, and the others
pub printed-first : (t : Tables) (l : List ℕ) (ls : List (List ℕ)) → printed t (l ∷ ls) ≡ bytes_for t l ++ printed (after t l) ls
unfolding printed
printed-first t l ls = refl

pub printed-length : (t : Tables) (l : List ℕ) (ls : List (List ℕ))
    → length (printed t (l ∷ ls)) ≡ length (bytes_for t l) + length (printed (after t l) ls)
printed-length t l ls = ap length (printed-first t l ls) ∙ length-append (bytes_for t l) (printed (after t l) ls)

pub printed-none : (t : Tables) → length (printed t []) ≡ 0
unfolding printed
printed-none t = refl

module _ (t : Tables) (l : List ℕ) (ls : List (List ℕ)) (n : ℕ) where
  abbrev others : List ℕ
  others = filled (after t l) ls (n - length (bytes_for t l))

  by-room : (b : Bool) → leb (length (bytes_for t l)) n ≡ b → filled t (l ∷ ls) n ≡ elim b [ true ↦ bytes_for t l ++ others | false ↦ [] ]
  unfolding filled
  by-room b e = ap (λ (x : Bool). elim x [ true ↦ bytes_for t l ++ others | false ↦ [] ]) e

  pub filled-fits : length (bytes_for t l) ≤ n → filled t (l ∷ ls) n ≡ bytes_for t l ++ others
  filled-fits h = by-room true (le-leb (length (bytes_for t l)) n h)

  pub filled-over : n < length (bytes_for t l) → filled t (l ∷ ls) n ≡ []
  filled-over h = by-room false (lt-leb (length (bytes_for t l)) n h)

pub filled_none : (t : Tables) (n : ℕ) → filled t [] n ≡ []
unfolding filled
filled_none t n = refl

-- no more is put than there is room for
pub filled-most : (t : Tables) (ls : List (List ℕ)) (n : ℕ) → length (filled t ls n) ≤ n
filled-most t [] n = rw (filled_none t n) (omega arith)
filled-most t (l ∷ ls) n = go (leb (length (bytes_for t l)) n) refl (filled-most (after t l) ls (n - length (bytes_for t l)))
  where
    go : (b : Bool) → leb (length (bytes_for t l)) n ≡ b
        → length (filled (after t l) ls (n - length (bytes_for t l))) ≤ n - length (bytes_for t l) → length (filled t (l ∷ ls) n) ≤ n
    go true e ih =
        omega (
          arith,
          ap length (by-room t l ls n true e),
          length-append (bytes_for t l) (filled (after t l) ls (n - length (bytes_for t l))),
          leb-true (length (bytes_for t l)) n e,
        )
    go false e ih = omega (arith, ap length (by-room t l ls n false e))

-- with room for all of it, all of it is put
pub filled-all : (t : Tables) (ls : List (List ℕ)) (n : ℕ) → length (printed t ls) ≤ n → filled t ls n ≡ printed t ls
unfolding printed
filled-all t [] n h = filled_none t n
filled-all t (l ∷ ls) n h =
    let both = printed-length t l ls in
    filled-fits t l ls n (omega arith)
    ∙ ap (λ (r : List ℕ). bytes_for t l ++ r) (filled-all (after t l) ls (n - length (bytes_for t l)) (omega arith))

-- a whole text
module _ (s out buf : List ℕ) where
  abbrev put : List ℕ
  put = filled smallest (lines_of s) (length out)

  -- it is run, and x of its output is put
  abbrev pub runs : List ℕ → Ran
  runs x = record { number = 0; buffer = front x out; answer = answering 0 (length (sheet s) ∷ length x ∷ []) buf }

  abbrev pub by_answer : Bool → Ran
  by_answer b = elim b [ true ↦ runs put | false ↦ not_run 12 out buf ]

  pub by_size : (b : Bool) → leb (length s) longest ≡ b
      → ran s out buf ≡ elim b [ true ↦ by_answer (leb figures_length (length buf)) | false ↦ not_run 3 out buf ]
  unfolding ran
  by_size b e = ap (λ (x : Bool). elim x [ true ↦ by_answer (leb figures_length (length buf)) | false ↦ not_run 3 out buf ]) e

  pub ran_over : longest < length s → ran s out buf ≡ not_run 3 out buf
  ran_over h = by_size false (lt-leb (length s) longest h)

  pub ran-short : length s ≤ longest → length buf < figures_length → ran s out buf ≡ not_run 12 out buf
  ran-short h k = by_size true (le-leb (length s) longest h) ∙ ap by_answer (lt-leb figures_length (length buf) k)

  pub ran-put : length s ≤ longest → figures_length ≤ length buf → ran s out buf ≡ runs put
  ran-put h k = by_size true (le-leb (length s) longest h) ∙ ap by_answer (le-leb figures_length (length buf) k)

  -- a buffer that is long enough begins with all that `sheet` prints, and both counts are its length
  pub ran-whole : length s ≤ longest → figures_length ≤ length buf → length (sheet s) ≤ length out → ran s out buf ≡ runs (sheet s)
  unfolding sheet
  ran-whole h k room = ran-put h k ∙ ap runs (filled-all smallest (lines_of s) (length out) room)
