-- What is shown of a verdict, to the byte; and all that the program `follow` shows (OUTLINE, "Whether a sheet follows").
-- Assumes nothing.
use Rattle.std.specs.Prelude.{ℕ, cond, List, [], ◌∷◌, ◌++◌, map, eqb}
use Rattle.std.proofs.Math.Option.{Option, none, some}
use Rattle.lists.specs.Lists.{join}
use Rattle.text.specs.Text.{text, decimal}
use Rattle.text.specs.Lines.{lines_of}
use Rattle.rules.specs.Engine.{not_sound, beside}
use Rattle.tables.specs.declared.Tables.{Tables}
use Rattle.tables.specs.Sound.{sound}
use Rattle.page.specs.Paging.{Written}
use Rattle.reader.specs.Reading.{reading}
use Rattle.blocks.specs.Blocks.{shown_for}
use Rattle.following.specs.Differences.{Difference, line, written_line}
use Rattle.following.specs.Following.{Verdict, no_first, no_next, follows, does_not_follow, held_against, verdict, Step}
use Rattle.showing.specs.Showing.{shown_in, with_tables, is_taken, on_follow, begun, page_bytes}

-- what stands for what one side lacks
abbrev pub side : Option (List ℕ) → List ℕ
side none = text "no such line"
side (some l) = l

abbrev pub sides : ℕ → List ℕ → List ℕ → List ℕ
sides n x y = decimal n ++ text ": " ++ x ++ text " on the sheet, " ++ y ++ text " by the requests" ++ (10 ∷ [])

abbrev pub difference_text : Difference → List ℕ
difference_text (line n x y) = text "line " ++ sides n (side x) (side y)
difference_text (written_line n y) = text "written line " ++ sides n (side none) y

abbrev pub difference_texts : List Difference → List ℕ
difference_texts ds = join (map difference_text ds)

-- that a page is none is shown with the page
abbrev pub verdict_text : List ℕ → Verdict → List ℕ
verdict_text name (no_first n) = []
verdict_text name (no_next n) = []
verdict_text name follows = name ++ text ": follows" ++ (10 ∷ [])
verdict_text name (does_not_follow ds) = name ++ text ": does not follow" ++ (10 ∷ difference_texts ds)

-- What tables t write held against the next page: 14 comes first, then 3 for a longer name or text, then 15 for the page. Where it is
-- shown, the tables are those of the page given, from which the next step goes on.
unfoldable pub verdict_shown : Tables → List ℕ → List ℕ → List ℕ → Written
verdict_shown t name next out =
    cond (sound t)
    (cond (is_taken name next)
    (cond (eqb (reading next).number 0)
    (with_tables t (reading next).tables (shown_in (verdict_text name (held_against t next)) out))
    (record { number = (reading next).number; values = (reading next).values; tables = t; buffer = out }))
    (record { number = 3; values = 0 ∷ []; tables = t; buffer = out }))
    (beside out (not_sound t))

-- THE WHOLE
-- what the program shows for files that are read: the first page, and then for each step its lines, its page and the verdict. A step
-- whose first page is none is not keyed in.
pub record Named : Type 0 where
  pub requests : List ℕ
  pub next : List ℕ
  pub files : Step

abbrev pub lines_text : List ℕ → List ℕ → List ℕ → List ℕ
lines_text name first requests =
    cond (eqb (reading first).number 0) (shown_for on_follow (begun (reading first).tables) (lines_of requests))
    (name ++ text ": not keyed in, without a first page" ++ (10 ∷ []))

unfoldable pub steps_text : List ℕ → List Named → List ℕ
steps_text first [] = []
steps_text first (s ∷ ss) =
    lines_text s.requests first s.files.requests ++ page_bytes s.next s.files.next
    ++ verdict_text s.next (verdict first (lines_of s.files.requests) s.files.next) ++ steps_text s.files.next ss

unfoldable pub follow : List ℕ → List ℕ → List Named → List ℕ
follow name first ss = page_bytes name first ++ steps_text first ss
