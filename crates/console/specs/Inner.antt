-- What inner functions ask and promise; nothing here need be believed for the calls.
-- Assumes nothing.
use Rattle.std.specs.Prelude.{Option, Some, None}
use Rattle.std.specs.Prelude.{ℕ, zero, suc, ◌<◌, ◌≤◌, ◌≡◌, Bool, true, false, cond, ◌&&◌, List, [], ◌∷◌, ◌++◌, map, length, get_or, drop, replicate, leb, eqb}
use Rattle.limits.specs.Limits.{usual_year}
use Rattle.lists.specs.Lists.{alike}
use Rattle.text.specs.Text.{text, decimal, between, parts}
use Rattle.rules.specs.Requests.{EXEC5ALL, ALLOC}
use Rattle.rules.specs.Coded.{the_request}
use Rattle.rules.specs.Answers as answers
use Rattle.rules.specs.Engine.{beside, not_sound}
use Rattle.rules.specs.declared.Answer.{Answer}
use Rattle.rules.specs.declared.Order.TheVariants.{Ru, Ss, Go, Pr, Of}
use Rattle.rules.specs.declared.Call.TheVariants.{Exec4, Exec15, Exec5, Exec16, Exec5All, Exec6, Exec7, Exec11, Exec9}
use Rattle.rules.specs.declared.Call.TheVariants.{Exec10, Exec12, Alloc, Lock, Clear, Free}
use Rattle.rules.specs.declared.Request.TheVariants.{Fresh, Load, Operator, Tick, Running}
use Rattle.tables.specs.declared.Tables.{Tables}
use Rattle.tables.specs.Sound.{sound}
use Rattle.tables.specs.Calls.{Result}
use Rattle.page.specs.Paging.{Written}
use Rattle.console.specs.declared.Said.{Said}
use Rattle.console.specs.declared.Said.TheVariants.{Bad, Page, Asks, Ticks}
use Rattle.console.specs.declared.words.Word.{Word}
use Rattle.console.specs.Line.{Line, bad, PAGE, asks, ticks, Form, over, bare_or, number, name, Entry, word}
use Rattle.console.specs.Line.{unknown, ◌↝◌, calls, execs, numbers, forms}
use Rattle.console.specs.Console.{obeyed}

-- what the code's lines say, in the grammar's terms
abbrev pub says : Said → Line
says Bad = bad
says Page = PAGE
says (Asks q) = asks (the_request q)
says (Ticks n) = ticks n

abbrev pub says_or_bad : Option Said → Line
says_or_bad None = bad
says_or_bad (Some x) = says x

-- the fields from a place on; past the end there is none
unfoldable pub fields_from : List ℕ → ℕ → List (List ℕ)
fields_from s at = cond (leb at (length s)) (parts 44 (drop at s)) []

-- What reading comes to, whatever the form does with it: the form goes on with what was read and the fields behind it, or the line is bad.
-- First a name;
abbrev pub on_name : (List ℕ → Form) → List ℕ → Option (List ℕ × ℕ) → Line
on_name k s None = bad
on_name k s (Some r) = k r.0 (fields_from s r.1)

pub record NameRead (s : List ℕ) (at : ℕ) (r : Option (List ℕ × ℕ)) : Type 0 where
  pub says : (k : List ℕ → Form) → name k (fields_from s at) ≡ on_name k s r

-- then n numbers that the line ends with, the last of which may be left away where it is spare; for each that there is not the usual year,
-- which is FRESH's, and which nobody else looks at
abbrev pub Counted : Type 0
Counted = ℕ → ℕ → ℕ → ℕ → Line

abbrev pub none_left : Counted → Line
none_left k = k usual_year usual_year usual_year usual_year

abbrev pub or_end : Bool → Line → Form → Form
or_end true x f = bare_or x f
or_end false x f = f

abbrev pub counted : ℕ → Bool → Counted → Form
counted zero spare k = over (none_left k)
counted (suc n) spare k = or_end (spare && eqb n 0) (none_left k) (number λ a. counted n spare (λ b c d e. k a b c d))

-- four numbers that stand in a list
abbrev pub by_four : {A : Type 0} → (ℕ → ℕ → ℕ → ℕ → A) → List ℕ → A
by_four k ns = k (get_or ns 0 0) (get_or ns 1 0) (get_or ns 2 0) (get_or ns 3 0)

abbrev pub on_numbers : Counted → Option (List ℕ) → Line
on_numbers k None = bad
on_numbers k (Some ns) = by_four k ns

pub record NumbersRead (s : List ℕ) (at n : ℕ) (spare : Bool) (r : Option (List ℕ)) : Type 0 where
  pub says : (k : Counted) → counted n spare k (fields_from s at) ≡ on_numbers k r

-- The words as the code numbers them, each with the word before it, whether a name comes next, how many numbers, and whether the last of these is
-- spare; others may come behind a leading word, and where a field comes that is none of them, another row may hold in its place. And what each
-- says where no word comes behind it.
abbrev pub no_word : ℕ
no_word = 30

abbrev pub row : ℕ → ℕ → Bool → ℕ → Word
row own before named n = record { before = before; named = named; numbers = n; is_last = true; instead = own; spare = false }

abbrev pub lead : ℕ → ℕ → ℕ → Word
lead instead before n = record { before = before; named = false; numbers = n; is_last = false; instead = instead; spare = false }

unfoldable pub rows : List Word
rows =
    lead 0 no_word 0
    ∷ record { before = 0; named = false; numbers = 4; is_last = true; instead = 1; spare = true } ∷ row 2 0 true 1 ∷ row 3 0 true 0 ∷ row 4 0 true 0 ∷ row 5 0 true 0
    ∷ row 6 0 true 1 ∷ row 7 0 true 1 ∷ lead 29 0 0 ∷ lead 9 0 0 ∷ lead 10 0 0
    ∷ row 11 0 false 0 ∷ row 12 9 false 2 ∷ row 13 9 false 2 ∷ lead 14 9 2 ∷ row 15 9 false 2
    ∷ row 16 9 false 0 ∷ row 17 9 false 0 ∷ row 18 9 false 0 ∷ row 19 9 true 0 ∷ row 20 9 true 0
    ∷ row 21 9 true 3 ∷ lead 22 10 0 ∷ row 23 10 false 2 ∷ row 24 10 false 1 ∷ row 25 10 false 1
    ∷ row 26 22 false 1 ∷ row 27 22 false 1 ∷ row 28 14 false 0 ∷ row 29 no_word false 1
    ∷ []

abbrev pub row_at : ℕ → Word
row_at i = get_or rows i (lead 0 0 0)

unfoldable pub requests : List ℕ → ℕ → ℕ → ℕ → ℕ → List Said
requests nm a b c d =
    Bad
    ∷ Asks (Fresh a b c d) ∷ Asks (Load nm a) ∷ Asks (Operator Ru nm) ∷ Asks (Operator Ss nm) ∷ Asks (Operator Go nm) ∷ Asks (Operator (Pr a) nm)
    ∷ Asks (Operator (Of a) nm) ∷ Asks Tick ∷ Bad ∷ Bad ∷ Page
    ∷ Asks (Running (Exec4 a b)) ∷ Asks (Running (Exec15 a b)) ∷ Asks (Running (Exec5 a b)) ∷ Asks (Running (Exec16 a b))
    ∷ Asks (Running Exec6) ∷ Asks (Running Exec7) ∷ Asks (Running Exec11) ∷ Asks (Running (Exec9 nm)) ∷ Asks (Running (Exec10 nm))
    ∷ Asks (Running (Exec12 nm a b c))
    ∷ Bad ∷ Asks (Running (Lock a b)) ∷ Asks (Running (Clear a)) ∷ Asks (Running (Free a))
    ∷ Asks (Running (Alloc false a)) ∷ Asks (Running (Alloc true a))
    ∷ Asks (Running Exec5All) ∷ Ticks a
    ∷ []

abbrev pub said_with : ℕ → List ℕ → List ℕ → Said
said_with i nm ns = get_or (by_four (requests nm) ns) i Bad

abbrev pub request : ℕ → List ℕ → Counted
request i nm a b c d = says (get_or (requests nm a b c d) i Bad)

abbrev pub taking : Bool → ℕ → Bool → ℕ → Form
taking true n spare i = name (λ nm. counted n spare (request i nm))
taking false n spare i = counted n spare (request i (replicate 5 32))

unfoldable pub ended : ℕ → Form
ended i = taking (row_at i).named (row_at i).numbers (row_at i).spare i

-- the grammar's forms in the same order
unfoldable pub entries : List Entry
unfolding execs numbers forms
entries =
    ("" ↝ word forms unknown ∷ forms)
    ++ execs
    ++ numbers
    ++ ("L" ↝ (number λ w. calls (ALLOC false w))
    ∷ "G" ↝ (number λ w. calls (ALLOC true w)) ∷ "ALL" ↝ calls EXEC5ALL ∷ "" ↝ (number λ n. over (ticks n)) ∷ [])

unfoldable pub keys : List (List ℕ)
unfolding execs numbers forms entries
keys = map (λ e. text e.key) entries

unfoldable pub behind : ℕ → Form
behind i fs = get_or (map (λ e. e.form fs) entries) i bad

-- the number of the word behind word `last` that f is; or how many there are
abbrev pub seek : ℕ → List ℕ → List Word → List (List ℕ) → ℕ
seek last f [] ws = 0
seek last f (r ∷ rs) [] = 0
seek last f (r ∷ rs) (w ∷ ws) = cond (eqb r.before last && alike f w) 0 (suc (seek last f rs ws))

-- the number of a word, or none
abbrev pub Which : ℕ → Option ℕ → Type 0
Which j (Some i) = (i ≡ j) × (j < no_word)
Which j None = no_word ≤ j

-- what a line that says l does
unfoldable pub obeys : Tables → List ℕ → Line → Written
obeys t buf l = elim (sound t) [ true ↦ obeyed t buf l | false ↦ beside buf (not_sound t) ]

-- a line that is not understood: 13, but 14 where the tables are not sound
abbrev pub refusing : Tables → Result
refusing t = elim (sound t) [ true ↦ record { number = 13; values = 0 ∷ []; tables = t } | false ↦ not_sound t ]

abbrev pub is_page : Said → Bool
is_page Bad = false
is_page Page = true
is_page (Asks q) = false
is_page (Ticks n) = false

-- the value, where there is one
abbrev pub single : List ℕ → ℕ
single [] = 0
single (v ∷ []) = v
single (v ∷ w ∷ vs) = 0

-- numbers, a dot before each
abbrev pub dotted : List ℕ → List ℕ
dotted [] = []
dotted (n ∷ ns) = 46 ∷ (decimal n ++ dotted ns)

-- the bytes printed for an answer
unfoldable pub values_line : Answer → List ℕ
values_line a = between 46 (map decimal (answers.values a))

unfoldable pub answer_bytes : Answer → List ℕ
unfolding values_line
answer_bytes a = text "answer=" ++ decimal (answers.number a) ++ text ",value=" ++ values_line a ++ (10 ∷ [])
