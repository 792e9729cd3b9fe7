-- What is shown of requests and pages, to the byte (OUTLINE, "Whether a sheet follows").
-- Assumes nothing.
use Rattle.std.specs.Prelude.{ℕ, zero, suc, ◌-◌, Bool, cond, ◌&&◌, List, [], ◌∷◌, ◌++◌, map, length, get_or, take, leb, ltb, eqb}
use Prim.Native.String.{String}
use Rattle.std.proofs.Math.Option.{Option, none, some}
use Rattle.std.proofs.Math.ListN.{get_elem?}
use Rattle.limits.specs.Limits.{longest_line}
use Rattle.lists.specs.Lists.{up_to}
use Rattle.text.specs.Text.{text, decimal}
use Rattle.text.specs.Lines.{lines_of}
use Rattle.tables.specs.declared.Tables.{Tables}
use Rattle.tables.specs.Calls.{Result}
use Rattle.page.specs.Paging.{Written}
use Rattle.reader.specs.Reading.{reading}
use Rattle.transcripts.specs.Listing.{Filled, filled}
use Rattle.console.specs.Console.{keyed}
use Rattle.console.specs.Sheet.{lent, answer_of}
use Rattle.blocks.specs.Blocks.{Taker, on_sheet}

-- bytes at the front of a lent buffer: 0 and how many, or 12 and how many are needed, nothing written; with the tables after what was done,
-- or those before it where nothing was
abbrev pub shown_in : List ℕ → List ℕ → Filled
shown_in bytes out = filled (length bytes) bytes out

abbrev pub with_tables : Tables → Tables → Filled → Written
with_tables before after f =
    record { number = f.number; values = f.values; tables = cond (eqb f.number 0) after before; buffer = f.list }

-- A REQUEST
-- its bytes as they are shown: 72 at most, and `..` where there are more
abbrev pub shown_byte : ℕ → ℕ
shown_byte b = cond (up_to 32 126 b) b 63

abbrev pub shown_request : List ℕ → List ℕ
shown_request l = map shown_byte (take longest_line l) ++ cond (leb (length l) longest_line) [] (text "..")

-- what the numbers of refusals mean, from 2 up
abbrev pub meanings : List String
meanings =
    "no program is scheduled" ∷ "a number or parameter is not allowed" ∷ "no such program" ∷ "the program is in the wrong state"
    ∷ "the name is in use" ∷ "all 32 records are used" ∷ "no room now, and the caller would not wait" ∷ "not the holder"
    ∷ "the resource number is not allocated" ∷ "the clock is at its ceiling" ∷ "the lent buffer is too short"
    ∷ "the line is not understood" ∷ "the tables are not sound" ∷ []

-- at the end of a line that is refused
abbrev pub refusal : ℕ → List ℕ
refusal a = cond (ltb a 2) [] (text " (refused: " ++ text (get_or meanings (a - 2) "") ++ text ")")

-- the answer as `sheet` prints it, less its byte 10
abbrev pub answer_text : ℕ → List ℕ → List ℕ
answer_text a vs = take (length (answer_of a vs) - 1) (answer_of a vs)

-- `N: LINE -> answer=a,value=v`
abbrev pub request_text : ℕ → List ℕ → ℕ → List ℕ → List ℕ
request_text n l a vs = decimal n ++ text ": " ++ shown_request l ++ text " -> " ++ answer_text a vs ++ refusal a ++ (10 ∷ [])

unfoldable pub request_bytes : Tables → ℕ → List ℕ → List ℕ
request_bytes t n l = request_text n l (keyed t l lent).number (keyed t l lent).values

-- a line keyed in and shown; of tables that are not sound it shows 14, as `sheet` prints it
unfoldable pub request_shown : Tables → ℕ → List ℕ → List ℕ → Written
request_shown t n l out = with_tables t (keyed t l lent).tables (shown_in (request_bytes t n l) out)

-- the lines of a file one after another, counted from 1: what is kept, and what is shown for each
pub record Keying : Type 0 where
  pub count : ℕ
  pub tables : Tables

abbrev pub on_follow : Taker
on_follow = record {
  Kept = Keying;
  next = λ k l. record { count = suc k.count; tables = on_sheet.next k.tables l };
  shows = λ k l. request_bytes k.tables k.count l;
}

abbrev pub begun : Tables → Keying
begun t = record { count = 1; tables = t }

-- A PAGE
-- the longest name and the longest text of a page that are taken
abbrev pub longest_name : ℕ
longest_name = 4095

abbrev pub longest_page : ℕ
longest_page = 65536

abbrev pub is_taken : List ℕ → List ℕ → Bool
is_taken name s = leb (length name) longest_name && leb (length s) longest_page

-- line n of a text, from 1, as it stands
abbrev pub line_there : Option (List ℕ) → List ℕ
line_there none = []
line_there (some l) = l ++ (10 ∷ [])

abbrev pub line_of_number : ℕ → List (List ℕ) → List ℕ
line_of_number zero ls = []
line_of_number (suc k) ls = line_there (get_elem? ls k)

-- `NAME: answer=a,value=v`; behind 15 the line that is not well formed
abbrev pub page_text : List ℕ → List ℕ → ℕ → List ℕ → List ℕ
page_text name s a vs = name ++ text ": " ++ answer_of a vs ++ cond (eqb a 15) (line_of_number (get_or vs 0 0) (lines_of s)) []

unfoldable pub page_bytes : List ℕ → List ℕ → List ℕ
page_bytes name s = page_text name s (reading s).number (reading s).values

-- what its reading comes to, and what is shown of it; 3 for a longer name or text
pub record PageShown : Type 0 where
  pub read : Result
  pub shown : Filled

unfoldable pub page_shown : List ℕ → List ℕ → List ℕ → PageShown
page_shown name s out = record {
  read = reading s;
  shown = cond (is_taken name s) (shown_in (page_bytes name s) out) (record { number = 3; values = 0 ∷ []; list = out });
}
