-- The lines of the original whose counterpart in the copy differs or is missing (OUTLINE, "The reading desk").
-- Assumes nothing.
use Rattle.std.specs.Prelude.{ℕ, suc, Bool, true, cond, not, List, [], ◌∷◌, ◌++◌, map, length, leb}
use Rattle.std.proofs.Math.Option.{Option, none, some}
use Rattle.lists.specs.Lists.{alike, join}
use Rattle.rules.specs.declared.Answer.{Answer}
use Rattle.rules.specs.Answers.{number, values}
use Rattle.rules.specs.Engine.{front}
use Rattle.transcripts.specs.Transcripts.{Line, lines_in, key_of, with_key, occurrence}

-- the counterpart in the copy of a line with this key that stands behind these: the same key, the same occurrence
abbrev pub counterpart_of : List ℕ → List Line → List ℕ → Option Line
counterpart_of copy before k = occurrence k (suc (length (with_key k before))) (lines_in copy)

-- a line's counterpart differs or is missing
abbrev pub differs : Line → Option Line → Bool
differs x none = true
differs x (some y) = not (alike x.bytes y.bytes)

-- a line that is listed: its number, from 1, all lines counted; the line; and its counterpart, where there is one
pub record Listed : Type 0 where
  pub number : ℕ
  pub line : Line
  pub counterpart : Option Line

-- those of some lines that stand behind these, in their order; a line without a key is passed over
unfoldable pub listed_behind : List ℕ → List Line → List Line → List Listed
listed_behind copy before [] = []
listed_behind copy before (x ∷ xs) =
    let rest : List Listed = listed_behind copy (before ++ (x ∷ [])) xs in
    elim (key_of x.bytes) [
      | none ↦ rest
      | some k ↦
          let y : Option Line = counterpart_of copy before k in
          cond (differs x y) (record { number = suc (length before); line = x; counterpart = y } ∷ rest) rest
    ]

unfoldable pub listed_lines : List ℕ → List ℕ → List Listed
listed_lines original copy = listed_behind copy [] (lines_in original)

-- the list: their numbers
abbrev pub numbers_listed : List ℕ → List ℕ → List ℕ
numbers_listed original copy = map (λ (d : Listed). d.number) (listed_lines original copy)

-- For whoever shows the lines, three figures of each: its number, where it begins, and where its counterpart begins, which is the copy's
-- length where it has none. No line begins there.
abbrev pub begin_of : List ℕ → Option Line → ℕ
begin_of copy none = length copy
begin_of copy (some y) = y.begins

abbrev pub figures_of : List ℕ → Listed → List ℕ
figures_of copy d = d.number ∷ d.line.begins ∷ begin_of copy d.counterpart ∷ []

abbrev pub figures_listed : List ℕ → List ℕ → List ℕ
figures_listed original copy = join (map (figures_of copy) (listed_lines original copy))

-- what is handed back with a lent list: 0 and how many lines, at the front of it what is told of them, or 12 and the places needed,
-- nothing written
pub record Filled : Type 0 where
  pub number : ℕ
  pub values : List ℕ
  pub list : List ℕ

abbrev pub answered : Answer → List ℕ → Filled
answered a list = record { number = number a; values = values a; list = list }

abbrev pub filled : ℕ → List ℕ → List ℕ → Filled
filled n figures list =
    cond (leb (length figures) (length list)) (record { number = 0; values = n ∷ []; list = front figures list })
    (record { number = 12; values = length figures ∷ []; list = list })

unfoldable pub listing : List ℕ → List ℕ → List ℕ → Filled
listing original copy list = filled (length (listed_lines original copy)) (numbers_listed original copy) list

unfoldable pub figuring : List ℕ → List ℕ → List ℕ → Filled
figuring original copy list = filled (length (listed_lines original copy)) (figures_listed original copy) list
