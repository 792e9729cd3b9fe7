-- What inner functions ask and promise each other; no public call mentions it.
-- Assumes nothing.
use Rattle.std.specs.Prelude.{ℕ, ◌+◌, ◌*◌, Bool, true, false, cond, List, [], ◌++◌, map, length, ltb, eqb}
use Rattle.std.proofs.Math.Option.{none}
use Rattle.std.proofs.Math.Seq.{slice}
use Rattle.limits.specs.Limits.{page_room}
use Rattle.text.specs.Text.{text}
use Rattle.text.specs.Lines.{lines_of}
use Rattle.console.specs.Sheet.{line_end}
use Rattle.transcripts.specs.Listing.{listed_lines}
use Rattle.following.specs.Differences.{of_sheet, only_written, parting, differences}
use Rattle.following.specs.Following.{follows, does_not_follow}
use Rattle.comparing.specs.Verdicts.{side, sides, difference_texts, verdict_text}

-- the line that begins at a place
abbrev pub line_from : List ℕ → ℕ → List ℕ
line_from s at = slice at (line_end s at) s

-- what is said of a listed line, by its figures: where it begins, and where its counterpart does
abbrev pub said_of : Bool → List ℕ → List ℕ → ℕ → ℕ → ℕ → List ℕ
said_of true o c n begins other = text "line " ++ sides n (line_from o begins) (cond (eqb other (length c)) (side none) (line_from c other))
said_of false o c n begins other = cond (eqb other (length c)) (text "written line " ++ sides n (side none) (line_from o begins)) []

-- what is said of all of them
abbrev pub pieces : Bool → List ℕ → List ℕ → List ℕ
pieces true o c = difference_texts (map of_sheet (listed_lines o c))
pieces false o c = difference_texts (only_written (listed_lines o c))

-- what is said of line n of both, which begins at a and at b; and of the first line at which the two part
abbrev pub parted_at : List ℕ → ℕ → List ℕ → ℕ → ℕ → List ℕ
parted_at s a w b n =
    cond (ltb a (length s)) (text "line " ++ sides n (line_from s a) (cond (ltb b (length w)) (line_from w b) (side none)))
    (cond (ltb b (length w)) (text "line " ++ sides n (side none) (line_from w b)) [])

abbrev pub parting_text : List ℕ → List ℕ → List ℕ
parting_text s w = difference_texts (parting 1 (lines_of s) (lines_of w))

-- the room for one piece, and a place that all pieces together do not reach
abbrev pub piece_room : ℕ
piece_room = 2 * page_room + 68

abbrev pub far_place : ℕ
far_place = 1000000000

-- what is said of a page that follows, and of one that does not
abbrev pub follows_text : List ℕ → List ℕ
follows_text name = verdict_text name follows

abbrev pub parts_text : List ℕ → List ℕ → List ℕ → List ℕ
parts_text name sheet written = verdict_text name (does_not_follow (differences sheet written))
