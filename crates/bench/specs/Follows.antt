-- Pages, requests and next pages, and what is shown of them; and texts with the same lines in another order, and how they differ.
-- Assumes nothing.
use Rattle.std.specs.Prelude.{ℕ, List, [], ◌∷◌, ◌++◌}
use Prim.Native.String.{String}
use Rattle.text.specs.Text.{text}
use Rattle.following.specs.Differences.{differences}
use Rattle.following.specs.Following.{Step}
use Rattle.comparing.specs.Verdicts.{Named, follow, difference_texts}
use Rattle.bench.specs.Pages.{bytes_of}

-- a step: the lines of its requests, and those of the next page
pub record Leg : Type 0 where
  pub requests : List String
  pub next : List String

pub record Walk : Type 0 where
  pub first : List String
  pub legs : List Leg
  pub shown : List ℕ

-- the files are called `first`, `requests` and `next`
unfoldable pub named : List Leg → List Named
unfolding bytes_of
named [] = []
named (l ∷ ls) =
    let files : Step = record { requests = bytes_of l.requests; next = bytes_of l.next } in
    record { requests = text "requests"; next = text "next"; files = files } ∷ named ls

unfoldable pub walk_all : List Walk → List Walk
unfolding bytes_of named
walk_all [] = []
walk_all (w ∷ ws) =
    record { first = w.first; legs = w.legs; shown = follow (text "first") (bytes_of w.first) (named w.legs) } ∷ walk_all ws

-- a page with one program, in state 1 or 6 with a due
abbrev sheet : String → String → String → String → List String
sheet state due one six =
    "page=rte2" ∷ "clock=0" ∷ "tracks=4" ∷ "system=1" ∷ "numbers=0" ∷ "programs=1" ∷ "id=1" ∷ "name=LOG" ∷ "priority=10" ∷ state ∷ "why=-" ∷ due
    ∷ "interval=-" ∷ one ∷ "chain3=" ∷ "chain5=" ∷ six ∷ "end=page" ∷ []

abbrev runs : List String
runs = sheet "state=1" "due=-" "chain1=1" "chain6="

abbrev rests : List String
rests = sheet "state=6" "due=-" "chain1=" "chain6=1"

-- the same while it holds two tracks
abbrev holds : List String
holds =
    "page=rte2" ∷ "clock=0" ∷ "tracks=4" ∷ "system=1" ∷ "numbers=0" ∷ "programs=1" ∷ "id=1" ∷ "name=LOG" ∷ "priority=10" ∷ "state=1" ∷ "why=-"
    ∷ "due=-" ∷ "interval=-" ∷ "chain1=1" ∷ "chain3=" ∷ "chain5=" ∷ "chain6=" ∷ "held=1-2:1" ∷ "end=page" ∷ []

-- two programs wait, A and B; the lines of A's mark and of B's
abbrev both_wait : List String → List String → List String
both_wait a b =
    ("page=rte2" ∷ "clock=0" ∷ "tracks=1" ∷ "system=1" ∷ "numbers=0" ∷ "programs=2" ∷ "id=1" ∷ "name=A" ∷ "priority=10" ∷ "state=5" ∷ "why=tracks:1"
    ∷ "due=-" ∷ "interval=-" ∷ a)
    ++ ("id=2" ∷ "name=B" ∷ "priority=10" ∷ "state=5" ∷ "why=tracks:1" ∷ "due=-" ∷ "interval=-" ∷ b)
    ++ ("chain1=" ∷ "chain3=" ∷ "chain5=1,2" ∷ "chain6=" ∷ "end=page" ∷ [])

abbrev leg : List String → List String → Leg
leg rs n = record { requests = rs; next = n }

abbrev walk : List String → List Leg → List String → Walk
walk f ls shown = record { first = f; legs = ls; shown = bytes_of shown }

unfoldable pub walks : List Walk
unfolding bytes_of
walks =
    -- one page alone; it follows; a refused line does not end the run
    walk runs [] ("first: answer=0,value=0" ∷ [])
    ∷ walk runs (leg ("EXEC,7" ∷ []) rests ∷ [])
    ("first: answer=0,value=0" ∷ "1: EXEC,7 -> answer=0,value=0" ∷ "next: answer=0,value=0" ∷ "next: follows" ∷ [])
    ∷ walk runs (leg ("RU,LOG" ∷ "RU,OTHER" ∷ "" ∷ "EXEC,7" ∷ []) rests ∷ [])
    ("first: answer=0,value=0" ∷ "1: RU,LOG -> answer=5,value=1 (refused: the program is in the wrong state)"
    ∷ "2: RU,OTHER -> answer=4,value=0 (refused: no such program)" ∷ "3:  -> answer=13,value=0 (refused: the line is not understood)"
    ∷ "4: EXEC,7 -> answer=0,value=0" ∷ "next: answer=0,value=0" ∷ "next: follows" ∷ [])
    -- it does not: lines otherwise, a line that only the sheet has, one that was only written
    ∷ walk runs (leg [] rests ∷ [])
    ("first: answer=0,value=0" ∷ "next: answer=0,value=0" ∷ "next: does not follow"
    ∷ "line 10: state=6 on the sheet, state=1 by the requests" ∷ "line 14: chain1= on the sheet, chain1=1 by the requests"
    ∷ "line 17: chain6=1 on the sheet, chain6= by the requests" ∷ [])
    ∷ walk runs (leg ("PAGE" ∷ []) holds ∷ [])
    ("first: answer=0,value=0" ∷ "1: PAGE -> answer=0,value=156" ∷ "next: answer=0,value=0" ∷ "next: does not follow"
    ∷ "line 18: held=1-2:1 on the sheet, no such line by the requests" ∷ [])
    ∷ walk runs (leg ("EXEC,4,2,1" ∷ []) runs ∷ [])
    ("first: answer=0,value=0" ∷ "1: EXEC,4,2,1 -> answer=0,value=1" ∷ "next: answer=0,value=0" ∷ "next: does not follow"
    ∷ "written line 18: no such line on the sheet, held=1-2:1 by the requests" ∷ [])
    -- the second step goes on from the page that was given, not from what was computed
    ∷ walk runs (leg ("EXEC,7" ∷ []) runs ∷ leg ("EXEC,7" ∷ []) rests ∷ [])
    ("first: answer=0,value=0" ∷ "1: EXEC,7 -> answer=0,value=0" ∷ "next: answer=0,value=0" ∷ "next: does not follow"
    ∷ "line 10: state=1 on the sheet, state=6 by the requests" ∷ "line 14: chain1=1 on the sheet, chain1= by the requests"
    ∷ "line 17: chain6= on the sheet, chain6=1 by the requests" ∷ "1: EXEC,7 -> answer=0,value=0" ∷ "next: answer=0,value=0"
    ∷ "next: follows" ∷ [])
    -- the mark is A's on the sheet and B's by the request: neither list has a line, so it is told where the pages part
    ∷ walk (both_wait [] []) (leg ("SS,B" ∷ []) (both_wait ("suspend=1" ∷ []) []) ∷ [])
    ("first: answer=0,value=0" ∷ "1: SS,B -> answer=0,value=0" ∷ "next: answer=0,value=0" ∷ "next: does not follow"
    ∷ "line 14: suspend=1 on the sheet, id=2 by the requests" ∷ [])
    ∷ walk (both_wait [] []) (leg ("SS,B" ∷ "SS,B" ∷ "GO,B" ∷ []) (both_wait [] ("suspend=1" ∷ [])) ∷ [])
    ("first: answer=0,value=0" ∷ "1: SS,B -> answer=0,value=0" ∷ "2: SS,B -> answer=0,value=0"
    ∷ "3: GO,B -> answer=5,value=5 (refused: the program is in the wrong state)" ∷ "next: answer=0,value=0" ∷ "next: follows" ∷ [])
    -- pages that are none: a line, none for 0, none past the end; the step behind has no first page
    ∷ walk ("page=rte2" ∷ "clok=0" ∷ []) (leg ("EXEC,7" ∷ []) rests ∷ [])
    ("first: answer=15,value=2" ∷ "clok=0" ∷ "requests: not keyed in, without a first page" ∷ "next: answer=0,value=0" ∷ [])
    ∷ walk runs (leg ("EXEC,11" ∷ []) (sheet "state=6" "due=-" "chain1=1" "chain6=") ∷ leg ("EXEC,7" ∷ []) [] ∷ [])
    ("first: answer=0,value=0" ∷ "1: EXEC,11 -> answer=0,value=1975.1.0.0.0.0" ∷ "next: answer=15,value=0"
    ∷ "requests: not keyed in, without a first page" ∷ "next: answer=15,value=1" ∷ [])
    -- a request of 73 bytes, and one with another byte
    ∷ walk runs (leg ("RU,LOG4567890123456789012345678901234567890123456789012345678901234567890" ∷ "EXEC,7\t" ∷ []) [] ∷ [])
    ("first: answer=0,value=0"
    ∷ "1: RU,LOG456789012345678901234567890123456789012345678901234567890123456789.. -> answer=13,value=0 (refused: the line is not understood)"
    ∷ "2: EXEC,7? -> answer=13,value=0 (refused: the line is not understood)" ∷ "next: answer=15,value=1" ∷ [])
    ∷ []

-- texts with the same lines in another order: neither list has a line
pub record Parted : Type 0 where
  pub sheet : String
  pub written : String
  pub shown : List ℕ

unfoldable pub part_all : List Parted → List Parted
part_all [] = []
part_all (p ∷ ps) =
    record { sheet = p.sheet; written = p.written; shown = difference_texts (differences (text p.sheet) (text p.written)) } ∷ part_all ps

abbrev parted : String → String → String → Parted
parted s w shown = record { sheet = s; written = w; shown = text shown }

unfoldable pub partings : List Parted
partings =
    parted "id=1\nm=1\nid=2\n" "id=1\nid=2\nm=1\n" "line 2: m=1 on the sheet, id=2 by the requests\n"
    ∷ parted "a\nb=1\n" "b=1\n" "line 1: a on the sheet, b=1 by the requests\n"
    ∷ parted "b=1\n" "b=1\na\n" "line 2: no such line on the sheet, a by the requests\n"
    ∷ parted "b=1\na\n" "b=1\n" "line 2: a on the sheet, no such line by the requests\n"
    ∷ parted "n=2\n" "n=1\nn=2\n"
    "line 1: n=2 on the sheet, n=1 by the requests\nwritten line 2: no such line on the sheet, n=2 by the requests\n"
    ∷ []
