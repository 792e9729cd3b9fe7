-- The page of a plain state: lines of key=value in the outline's order (OUTLINE, "The page and the console line").
-- Assumes nothing.
use Rattle.std.specs.Prelude.{ℕ, Bool, cond, ◌||◌, List, [], ◌∷◌, ◌++◌, map, length, get_or, eqb, ltb}
use Prim.Native.String.{String}
use Rattle.limits.specs.Limits.{scheduled, general, disc, suspended, usual_year}
use Rattle.lists.specs.Lists.{keep, from, join}
use Rattle.text.specs.Text.{text, decimal, between, entry}
use Rattle.records.specs.declared.Program.{Program}
use Rattle.records.specs.declared.Resource.{Resource}
use Rattle.records.specs.declared.Why.{Why}
use Rattle.records.specs.declared.Why.TheVariants.{Nothing, Tracks, Son, Lock, Number}
use Rattle.records.specs.Names.{bare}
use Rattle.records.specs.Records.{all, record_at}
use Rattle.records.specs.Numbers.{globally, number_at}
use Rattle.tracks.specs.declared.held.Run.{Run}
use Rattle.tracks.specs.Tracks.{nobody, system}
use Rattle.tracks.specs.Runs.{runs_of}
use Rattle.rules.specs.Book.{Book}
use Rattle.rules.specs.Keeper.{lists, State}

pub record Line : Type 0 where
  pub key : List ℕ
  pub value : List ℕ

-- key=value, and byte 10
abbrev pub bytes_of : Line → List ℕ
bytes_of l = entry l.key l.value

unfoldable pub bytes : List Line → List ℕ
bytes ls = join (map bytes_of ls)

-- THE KEYS; src/keys.rt has the code's, and what puts a line promises the key that stands here
abbrev pub page_key : String
page_key = "page"

abbrev pub clock_key : String
clock_key = "clock"

abbrev pub year_key : String
year_key = "year"

abbrev pub tracks_key : String
tracks_key = "tracks"

abbrev pub system_key : String
system_key = "system"

abbrev pub numbers_key : String
numbers_key = "numbers"

abbrev pub programs_key : String
programs_key = "programs"

abbrev pub id_key : String
id_key = "id"

abbrev pub name_key : String
name_key = "name"

abbrev pub priority_key : String
priority_key = "priority"

abbrev pub state_key : String
state_key = "state"

abbrev pub why_key : String
why_key = "why"

abbrev pub due_key : String
due_key = "due"

abbrev pub interval_key : String
interval_key = "interval"

abbrev pub suspend_key : String
suspend_key = "suspend"

abbrev pub chain_key : String
chain_key = "chain"

abbrev pub held_key : String
held_key = "held"

abbrev pub number_key : String
number_key = "number"

abbrev pub end_key : String
end_key = "end"

-- the head's, before the year and behind it, and those that every record has, as they come on the page
abbrev pub first_keys : List String
first_keys = page_key ∷ clock_key ∷ []

abbrev pub size_keys : List String
size_keys = tracks_key ∷ system_key ∷ numbers_key ∷ programs_key ∷ []

abbrev pub record_keys : List String
record_keys = id_key ∷ name_key ∷ priority_key ∷ state_key ∷ why_key ∷ due_key ∷ interval_key ∷ []

-- the states whose chains are shown; the key is `chain` and the state's digit
abbrev pub chained : List ℕ
chained = scheduled ∷ general ∷ disc ∷ suspended ∷ []

abbrev pub key_of_chain : ℕ → List ℕ
key_of_chain s = text chain_key ++ decimal s

-- THE WORDS that values have: the first line's, the last line's, a mark's, for none, for global, and before the number of each reason
abbrev pub first_word : String
first_word = "rte2"

abbrev pub last_word : String
last_word = "page"

abbrev pub mark_word : String
mark_word = "1"

abbrev pub dash : String
dash = "-"

abbrev pub global_word : String
global_word = "global"

abbrev pub tracks_word : String
tracks_word = "tracks:"

abbrev pub son_word : String
son_word = "son:"

abbrev pub lock_word : String
lock_word = "lock:"

abbrev pub any_number : String
any_number = "number"

-- VALUES
-- a number that may be absent
abbrev pub or_dash : Bool → ℕ → List ℕ
or_dash there n = cond there (decimal n) (text dash)

-- a holder or an owner: a number or `global`
abbrev pub party : ℕ → List ℕ
party h = cond (eqb h globally) (text global_word) (decimal h)

abbrev pub reason : Why → List ℕ
reason Nothing = text dash
reason (Tracks n) = text tracks_word ++ decimal n
reason (Son k) = text son_word ++ decimal k
reason (Lock r) = text lock_word ++ decimal r
reason Number = text any_number

-- LINES
abbrev pub line : String → List ℕ → Line
line key value = record { key = text key; value = value }

-- each key with the value at its place
abbrev pub paired : List String → List (List ℕ) → List Line
paired [] vs = []
paired (k ∷ ks) [] = []
paired (k ∷ ks) (v ∷ vs) = line k v ∷ paired ks vs

-- the start year, unless it is the usual one
abbrev pub year_line : ℕ → List Line
year_line Y = cond (eqb Y usual_year) [] (line year_key (decimal Y) ∷ [])

abbrev pub head_lines : ℕ → ℕ → ℕ → ℕ → ℕ → ℕ → List Line
head_lines clock T S R Y n =
    paired first_keys (text first_word ∷ decimal clock ∷ []) ++ year_line Y
    ++ paired size_keys (decimal T ∷ decimal S ∷ decimal R ∷ decimal n ∷ [])

-- the numbers of the used records, upward
unfoldable pub used_in : List Program → List ℕ
used_in ps = keep (λ p. (record_at ps p).used) all

-- `suspend=1` where the mark stands, otherwise no line
abbrev pub mark_line : Bool → List Line
mark_line there = cond there (line suspend_key (text mark_word) ∷ []) []

abbrev pub recorded : ℕ → Program → List Line
recorded p r =
    let timer : Bool = ltb 0 r.due in
    paired record_keys
    (decimal p ∷ bare r.name ∷ decimal r.priority ∷ decimal r.state ∷ reason r.why ∷ or_dash timer r.due
    ∷ or_dash timer r.interval ∷ [])
    ++ mark_line r.suspend

unfoldable pub record_lines : List Program → List Line
record_lines ps = join (map (λ p. recorded p (record_at ps p)) (used_in ps))

-- the programs joined by commas
abbrev pub chain_line : ℕ → List ℕ → Line
chain_line s c = record { key = key_of_chain s; value = between 44 (map decimal c) }

unfoldable pub chain_lines : List (List ℕ) → List Line
chain_lines m = map (λ s. chain_line s (get_or m s [])) chained

-- `held=first-last:holder`; none for free tracks and the system's
unfoldable pub held_line : Run → List Line
held_line g =
    cond (eqb g.holder nobody || eqb g.holder system) []
    (line held_key (decimal g.first ++ text "-" ++ decimal g.last ++ text ":" ++ party g.holder) ∷ [])

unfoldable pub held_lines : List ℕ → List Line
held_lines hs = join (map held_line (runs_of 0 hs))

-- `number=r:owner:lock` for each allocated one
unfoldable pub number_line : ℕ → Resource → List Line
number_line r x =
    cond (eqb x.owner 0) []
    (line number_key (decimal r ++ text ":" ++ party x.owner ++ text ":" ++ or_dash (ltb 0 x.lock) x.lock) ∷ [])

unfoldable pub number_lines : ℕ → List Resource → List Line
number_lines n xs = join (map (λ r. number_line r (number_at xs r)) (from 1 n))

-- THE PAGE, part by part
abbrev pub parts : State lists → List (List Line)
parts a =
    let b : Book = a.book in
    head_lines b.clock b.tracks b.system b.numbers b.year (length (used_in b.programs)) ∷ record_lines b.programs
    ∷ chain_lines a.kept ∷ held_lines b.holders ∷ number_lines b.numbers b.resources ∷ (line end_key (text last_word) ∷ []) ∷ []

unfoldable pub lines : State lists → List Line
lines a = join (parts a)

unfoldable pub page : State lists → List ℕ
page a = bytes (lines a)
