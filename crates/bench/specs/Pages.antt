-- Pages and what reading them comes to: the outline's example, and the same damaged, line by line.
-- Assumes nothing.
use Rattle.std.specs.Prelude.{ℕ, List, [], ◌∷◌, ◌++◌}
use Prim.Native.String.{String}
use Rattle.text.specs.Text.{text}
use Rattle.tables.specs.Calls.{Result}
use Rattle.reader.specs.Reading.{reading}

-- lines, each ended by byte 10; bytes behind the last; the number and the values
pub record Paged : Type 0 where
  pub lines : List String
  pub behind : List ℕ
  pub number : ℕ
  pub values : List ℕ

unfoldable pub bytes_of : List String → List ℕ
bytes_of [] = []
bytes_of (l ∷ ls) = text l ++ (10 ∷ bytes_of ls)

unfoldable pub read_all : List Paged → List Paged
unfolding bytes_of
read_all [] = []
read_all (p ∷ ps) =
    let r : Result = reading (bytes_of p.lines ++ p.behind) in
    record { lines = p.lines; behind = p.behind; number = r.number; values = r.values } ∷ read_all ps

-- the example, with some of its lines as they are given
abbrev page : String → String → String → String → String → List String
page tracks name chain held last =
    "page=rte2" ∷ "clock=0" ∷ tracks ∷ "system=1" ∷ "numbers=1" ∷ "programs=1" ∷ "id=1" ∷ name ∷ "priority=10" ∷ "state=1" ∷ "why=-" ∷ "due=-"
    ∷ "interval=-" ∷ chain ∷ "chain3=" ∷ "chain5=" ∷ "chain6=" ∷ held ∷ last ∷ []

-- a program that waits for tracks, or is said to run; the lines behind its why, up to the chains
abbrev waiter : String → String → List String → String → String → List String
waiter state why ls one five =
    ("page=rte2" ∷ "clock=0" ∷ "tracks=1" ∷ "system=1" ∷ "numbers=0" ∷ "programs=1" ∷ "id=1" ∷ "name=A" ∷ "priority=10" ∷ state ∷ why ∷ ls)
    ++ (one ∷ "chain3=" ∷ five ∷ "chain6=" ∷ "end=page" ∷ [])

abbrev waits : List String → List String
waits ls = waiter "state=5" "why=tracks:1" ls "chain1=" "chain5=1"

-- the smallest tables, with some lines behind the clock and behind the tracks
abbrev dated : List String → List String → List String
dated ys zs =
    ("page=rte2" ∷ "clock=0" ∷ ys) ++ ("tracks=1" ∷ zs)
    ++ ("system=0" ∷ "numbers=0" ∷ "programs=0" ∷ "chain1=" ∷ "chain3=" ∷ "chain5=" ∷ "chain6=" ∷ "end=page" ∷ [])

abbrev of : List String → List ℕ → ℕ → ℕ → Paged
of ls more n v = record { lines = ls; behind = more; number = n; values = v ∷ [] }

unfoldable pub pages : List Paged
pages =
    of (page "tracks=4" "name=WHZAT" "chain1=1" "held=1-2:1" "end=page") [] 0 0
    ∷ of [] [] 15 1
    ∷ of (page "tracks=04" "name=WHZAT" "chain1=1" "held=1-2:1" "end=page") [] 15 3
    ∷ of (page "tracks=12345678901234" "name=WHZAT" "chain1=1" "held=1-2:1" "end=page") [] 15 3
    ∷ of (page "tracks=1234567890123" "name=WHZAT" "chain1=1" "held=1-2:1" "end=page") [] 15 0
    ∷ of (page "tracks=4" "name=WHZATS" "chain1=1" "held=1-2:1" "end=page") [] 15 8
    ∷ of (page "tracks=4" "name=WHZAT" "chain1=1," "held=1-2:1" "end=page") [] 15 14
    ∷ of (page "tracks=4" "name=WHZAT" "chain1=" "held=1-2:1" "end=page") [] 15 0
    ∷ of (page "tracks=4" "name=WHZAT" "chain1=1" "held=1-1:1" "held=2-2:1") (text "end=page" ++ (10 ∷ [])) 15 0
    ∷ of (page "tracks=4" "name=WHZAT" "chain1=1" "held=2-1:1" "end=page") [] 15 0
    ∷ of (page "tracks=4" "name=WHZAT" "chain1=1" "held=1:1" "end=page") [] 15 18
    ∷ of (page "tracks=4" "name=WHZAT" "chain1=1" "held=1-2:1" "end=pag") [] 15 19
    ∷ of (page "tracks=4" "name=WHZAT" "chain1=1" "held=1-2:1" "end=page") (10 ∷ []) 15 20
    ∷ of (page "tracks=4" "name=WHZAT" "chain1=1" "held=1-2:1" "held=3-3:global") [] 15 20
    -- a mark behind a record: one, none, another figure, two, one before interval, one without its byte 10; and in state 1
    ∷ of (waits ("due=-" ∷ "interval=-" ∷ "suspend=1" ∷ [])) [] 0 0
    ∷ of (waits ("due=-" ∷ "interval=-" ∷ [])) [] 0 0
    ∷ of (waits ("due=-" ∷ "interval=-" ∷ "suspend=0" ∷ [])) [] 15 14
    ∷ of (waits ("due=-" ∷ "interval=-" ∷ "suspend=1" ∷ "suspend=1" ∷ [])) [] 15 15
    ∷ of (waits ("due=-" ∷ "suspend=1" ∷ "interval=-" ∷ [])) [] 15 13
    ∷ of ("page=rte2" ∷ "clock=0" ∷ "tracks=1" ∷ "system=1" ∷ "numbers=0" ∷ "programs=0" ∷ []) (text "suspend=1") 15 7
    ∷ of ("page=rte2" ∷ "clock=0" ∷ "tracks=1" ∷ "system=1" ∷ "numbers=0" ∷ "programs=0" ∷ "suspend=1" ∷ []) [] 15 7
    ∷ of (waiter "state=1" "why=-" ("due=-" ∷ "interval=-" ∷ "suspend=1" ∷ []) "chain1=1" "chain5=") [] 15 0
    -- a year: none, another than the usual one, the usual one, out of range, of 13 digits and of 14; twice, before the clock, behind the tracks,
    -- without its byte 10, and with nothing behind it
    ∷ of (dated [] []) [] 0 0
    ∷ of (dated ("year=1976" ∷ []) []) [] 0 0
    ∷ of (dated ("year=1975" ∷ []) []) [] 15 0
    ∷ of (dated ("year=1969" ∷ []) []) [] 15 0
    ∷ of (dated ("year=67511" ∷ []) []) [] 15 0
    ∷ of (dated ("year=1234567890123" ∷ []) []) [] 15 0
    ∷ of (dated ("year=12345678901234" ∷ []) []) [] 15 3
    ∷ of (dated ("year=01976" ∷ []) []) [] 15 3
    ∷ of (dated ("year=" ∷ []) []) [] 15 3
    ∷ of (dated ("year=1976" ∷ "year=1976" ∷ []) []) [] 15 4
    ∷ of (dated [] ("year=1976" ∷ [])) [] 15 4
    ∷ of ("page=rte2" ∷ "year=1976" ∷ "clock=0" ∷ []) [] 15 2
    ∷ of ("page=rte2" ∷ "clock=0" ∷ []) (text "year=1976") 15 3
    ∷ of ("page=rte2" ∷ "clock=0" ∷ "year=1976" ∷ []) [] 15 4
    ∷ []
