-- What inner functions ask and promise each other; no public call mentions it.
-- Assumes nothing.
use Rattle.std.specs.Prelude.{ℕ, ◌-◌, cond, List, [], ◌∷◌, get_or, ltb, eqb}
use Rattle.text.specs.Text.{text}
use Rattle.text.specs.Lines.{lines_of}
use Rattle.transcripts.specs.Listing.{Filled}
use Rattle.showing.specs.Showing.{shown_in, meanings, is_taken, line_of_number, page_text}

-- what a number of 2 or more means; of 0 and 1 nothing is said
abbrev pub meant : ℕ → List ℕ
meant a = cond (ltb a 2) [] (text (get_or meanings (a - 2) ""))

-- the room for what is shown of a request, and of a page
abbrev pub request_room : ℕ
request_room = 321

abbrev pub page_text_room : ℕ
page_text_room = 69794

-- behind 15 the line that is not well formed
abbrev pub bad_text : List ℕ → ℕ → List ℕ → List ℕ
bad_text s a vs = cond (eqb a 15) (line_of_number (get_or vs 0 0) (lines_of s)) []

-- what is shown of a page that was read, by its answer
abbrev pub read_shown : List ℕ → List ℕ → ℕ → List ℕ → List ℕ → Filled
read_shown name s a vs out =
    cond (is_taken name s) (shown_in (page_text name s a vs) out) (record { number = 3; values = 0 ∷ []; list = out })
