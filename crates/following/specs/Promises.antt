-- What the theorems say of a page, lines and a page.
-- Assumes nothing.
use Rattle.std.specs.Prelude.{ℕ, ◌≤◌, ◌≡◌, List, ◌∷◌, length}
use Rattle.tables.specs.declared.Tables.{Tables}
use Rattle.reader.specs.Lines.{WrittenBy}
use Rattle.reader.specs.Reading.{not_read, reading}
use Rattle.console.specs.Console.{keyed}
use Rattle.console.specs.Sheet.{lent}
use Rattle.blocks.specs.Blocks.{tables_after}
use Rattle.following.specs.Differences.{Difference}
use Rattle.following.specs.Following.{Follow, no_first, no_next, follows, does_not_follow, verdict}

-- the verdict is `follows` exactly where some sound tables write the first page, and the tables after the lines are the very tables that
-- write the next
pub record FollowsExactly (first : List ℕ) (ls : List (List ℕ)) (next : List ℕ) : Type 0 where
  pub only : verdict first ls next ≡ follows → (t u : Tables) × WrittenBy t first × WrittenBy u next × (tables_after t ls ≡ u)
  pub all : (t u : Tables) → WrittenBy t first → WrittenBy u next → tables_after t ls ≡ u → verdict first ls next ≡ follows

-- that is what it is to follow
pub record IsFollow (first : List ℕ) (ls : List (List ℕ)) (next : List ℕ) : Type 0 where
  pub only : verdict first ls next ≡ follows → Follow first ls next
  pub all : Follow first ls next → verdict first ls next ≡ follows

-- the other verdicts: no page, as its reading is refused; or two pages, and the tables after the lines are not those of the next
pub record Otherwise (first : List ℕ) (ls : List (List ℕ)) (next : List ℕ) : Type 0 where
  pub no-first : (n : ℕ) → verdict first ls next ≡ no_first n → reading first ≡ not_read n
  pub no-next : (n : ℕ) → verdict first ls next ≡ no_next n → ((reading first).number ≡ 0) × (reading next ≡ not_read n)
  pub does_not : (ds : List Difference) → verdict first ls next ≡ does_not_follow ds
      → (t u : Tables) × WrittenBy t first × WrittenBy u next × (tables_after t ls ≡ u → ⊥)

-- where it does not follow, a difference is told
abbrev pub TellsSome : List ℕ → List (List ℕ) → List ℕ → Type 0
TellsSome first ls next = (ds : List Difference) → verdict first ls next ≡ does_not_follow ds → 1 ≤ length ds

-- a refused line changes nothing and does not end the run: the lines behind it are obeyed as if it were not there
abbrev pub Passes : Tables → List ℕ → List (List ℕ) → Type 0
Passes t l ls = 2 ≤ (keyed t l lent).number → tables_after t (l ∷ ls) ≡ tables_after t ls
