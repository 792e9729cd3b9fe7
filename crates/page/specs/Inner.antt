-- What inner functions ask and promise; nothing here need be believed for the call.
-- Assumes nothing.
use Rattle.std.specs.Prelude.{ℕ, ◌≤◌, Option, Some, None, List, ◌∷◌, map, length}
use Rattle.limits.specs.Limits.{most_tracks, most_numbers}
use Rattle.lists.specs.Lists.{join}
use Rattle.text.specs.Text.{text, decimal}
use Rattle.tables.specs.declared.Tables.{Tables}
use Rattle.tables.specs.Tables.{plain}
use Rattle.page.specs.Page.{dash, page}

-- numbers with a comma before each
abbrev pub others : List ℕ → List ℕ
others xs = join (map (λ x. 44 ∷ decimal x) xs)

-- a number, or a dash where there is none
abbrev pub or_none : Option ℕ → List ℕ
or_none (Some n) = decimal n
or_none None = text dash

-- tables whose page has n bytes at most
pub record Fits (t : Tables) (n : ℕ) : Type 0 where
  pub tracks : t.ledger.tracks.count ≤ most_tracks
  pub numbers : t.ledger.numbers.count ≤ most_numbers
  pub room : length (page (plain t)) ≤ n

-- tables whose page fits a buffer
abbrev pub CanPage : Tables → List ℕ → Type 0
CanPage t buf = Fits t (length buf)
