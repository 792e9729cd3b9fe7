-- The console line: 1 to 72 bytes, words joined by commas (OUTLINE, "The page and the console line"). A wrong word, field
-- count or field form is not understood.
-- Assumes nothing.
use Rattle.std.specs.Prelude.{ℕ, true, false, List, [], ◌∷◌, length}
use Prim.Native.String.{String}
use Rattle.std.proofs.Math.Option.{none, some}
use Rattle.limits.specs.Limits.{longest_line, usual_year}
use Rattle.lists.specs.Lists.{up_to, alike}
use Rattle.text.specs.Text.{text, number_of, parts}
use Rattle.records.specs.Names.{name_of}
use Rattle.rules.specs.Requests.{RU, SS, GO, PR, OF, Call, EXEC4, EXEC15, EXEC5, EXEC16, EXEC5ALL, EXEC6, EXEC7, EXEC11, EXEC9, EXEC10}
use Rattle.rules.specs.Requests.{EXEC12, ALLOC, LOCK, CLEAR, FREE, Request, FRESH, LOAD, operator, TICK, running}

-- what a line says
pub data Line : Type 0 where
  bad PAGE : Line
  asks : Request → Line
  ticks : ℕ → Line  -- TICK,n

-- what the fields from here on say
abbrev pub Form : Type 0
Form = List (List ℕ) → Line

-- no field is left
abbrev pub over : Line → Form
over x [] = x
over x (f ∷ fs) = bad

-- x where no field is left; else what the fields say by k
abbrev pub bare_or : Line → Form → Form
bare_or x k [] = x
bare_or x k (f ∷ fs) = k (f ∷ fs)

-- the next field is a number of 1 to 10 digits; or a name
abbrev pub number : (ℕ → Form) → Form
number k [] = bad
number k (f ∷ fs) = elim (number_of 10 f) [ none ↦ bad | some n ↦ k n fs ]

abbrev pub name : (List ℕ → Form) → Form
name k [] = bad
name k (f ∷ fs) = elim (name_of f) [ none ↦ bad | some nm ↦ k nm fs ]

-- the next field is a word of a table, or else x
pub record Entry : Type 0 where
  pub key : String
  pub form : Form

abbrev pub look_up : List Entry → Form → List ℕ → List (List ℕ) → Line
look_up [] x f fs = x (f ∷ fs)
look_up (e ∷ es) x f fs = elim (alike f (text e.key)) [ true ↦ e.form fs | false ↦ look_up es x f fs ]

abbrev pub word : List Entry → Form → Form
word es x [] = bad
word es x (f ∷ fs) = look_up es x f fs

abbrev pub unknown : Form
unknown fs = bad

abbrev pub ◌↝◌ : String → Form → Entry
◌↝◌ k x = record { key = k; form = x }

infixl 90 ◌↝◌
abbrev pub calls : Call → Form
calls c = over (asks (running c))

-- the call behind EXEC
unfoldable pub execs : List Entry
execs =
    "4" ↝ (number λ n. number λ w. calls (EXEC4 n w))
    ∷ "15" ↝ (number λ n. number λ w. calls (EXEC15 n w))
    ∷ "5" ↝ (word ("ALL" ↝ calls EXEC5ALL ∷ []) (number λ n. number λ s. calls (EXEC5 n s)))
    ∷ "16" ↝ (number λ n. number λ s. calls (EXEC16 n s))
    ∷ "6" ↝ calls EXEC6
    ∷ "7" ↝ calls EXEC7
    ∷ "11" ↝ calls EXEC11
    ∷ "9" ↝ (name λ nm. calls (EXEC9 nm))
    ∷ "10" ↝ (name λ nm. calls (EXEC10 nm))
    ∷ "12" ↝ (name λ nm. number λ r. number λ m. number λ o. calls (EXEC12 nm r m o))
    ∷ []

-- the call behind RN
unfoldable pub numbers : List Entry
numbers =
    "ALLOC" ↝ (word ("L" ↝ (number λ w. calls (ALLOC false w)) ∷ "G" ↝ (number λ w. calls (ALLOC true w)) ∷ []) unknown)
    ∷ "LOCK" ↝ (number λ r. number λ w. calls (LOCK r w))
    ∷ "CLEAR" ↝ (number λ r. calls (CLEAR r))
    ∷ "FREE" ↝ (number λ r. calls (FREE r))
    ∷ []

-- the first word
unfoldable pub forms : List Entry
unfolding execs numbers
forms =
    "FRESH" ↝ (number λ t. number λ s. number λ r. bare_or (asks (FRESH t s r usual_year)) (number λ y. over (asks (FRESH t s r y))))
    ∷ "LOAD" ↝ (name λ nm. number λ p. over (asks (LOAD nm p)))
    ∷ "RU" ↝ (name λ nm. over (asks (operator RU nm)))
    ∷ "SS" ↝ (name λ nm. over (asks (operator SS nm)))
    ∷ "GO" ↝ (name λ nm. over (asks (operator GO nm)))
    ∷ "PR" ↝ (name λ nm. number λ n. over (asks (operator (PR n) nm)))
    ∷ "OF" ↝ (name λ nm. number λ k. over (asks (operator (OF k) nm)))
    ∷ "TICK" ↝ bare_or (asks TICK) (number λ n. over (ticks n))
    ∷ "EXEC" ↝ word execs unknown
    ∷ "RN" ↝ word numbers unknown
    ∷ "PAGE" ↝ over PAGE
    ∷ []

-- a line of bytes
unfoldable pub line_of : List ℕ → Line
unfolding forms
line_of s = elim (up_to 1 longest_line (length s)) [ true ↦ word forms unknown (parts 44 s) | false ↦ bad ]
