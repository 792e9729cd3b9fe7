-- How two pages differ: the sheet, and the page that was written (OUTLINE, "Whether a sheet follows").
-- Assumes nothing.
use Rattle.std.specs.Prelude.{ℕ, suc, cond, List, [], ◌∷◌, ◌++◌, map}
use Rattle.std.proofs.Math.Option.{Option, none, some}
use Rattle.lists.specs.Lists.{alike}
use Rattle.text.specs.Lines.{lines_of}
use Rattle.transcripts.specs.Transcripts.{Line}
use Rattle.transcripts.specs.Listing.{Listed, listed_lines}

-- a line by its number: what the sheet has there, and what was written; or a line that only the written page has
pub data Difference : Type 0 where
  line : ℕ → Option (List ℕ) → Option (List ℕ) → Difference
  written_line : ℕ → List ℕ → Difference

abbrev pub bytes_of : Option Line → Option (List ℕ)
bytes_of none = none
bytes_of (some y) = some y.bytes

-- a line of the sheet that the desk lists, with the written page as the copy
abbrev pub of_sheet : Listed → Difference
of_sheet d = line d.number (some d.line.bytes) (bytes_of d.counterpart)

-- of the lines of the written page that the desk lists, with the sheet as the copy, those that have no counterpart there
abbrev pub unmatched : Option Line → Difference → List Difference → List Difference
unmatched none x rest = x ∷ rest
unmatched (some y) x rest = rest

abbrev pub only_written : List Listed → List Difference
only_written [] = []
only_written (d ∷ ds) = unmatched d.counterpart (written_line d.number d.line.bytes) (only_written ds)

unfoldable pub listed : List ℕ → List ℕ → List Difference
listed sheet written = map of_sheet (listed_lines sheet written) ++ only_written (listed_lines written sheet)

-- the first line at which the two part, from line n on
unfoldable pub parting : ℕ → List (List ℕ) → List (List ℕ) → List Difference
parting n [] [] = []
parting n [] (y ∷ ys) = line n none (some y) ∷ []
parting n (x ∷ xs) [] = line n (some x) none ∷ []
parting n (x ∷ xs) (y ∷ ys) = cond (alike x y) (parting (suc n) xs ys) (line n (some x) (some y) ∷ [])

-- where neither list has a line, that
abbrev pub or_else : List Difference → List Difference → List Difference
or_else [] other = other
or_else (d ∷ ds) other = d ∷ ds

unfoldable pub differences : List ℕ → List ℕ → List Difference
differences sheet written = or_else (listed sheet written) (parting 1 (lines_of sheet) (lines_of written))
