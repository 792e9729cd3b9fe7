-- What the lines of a page say, where all of them are well formed: fresh tables of that year and those sizes, in which each line puts what
-- it says. A line that names no record, no tracks or no number of these tables puts nothing.
-- Assumes nothing.
use Rattle.std.specs.Prelude.{ℕ, zero, suc, ◌-◌, Bool, true, false, cond, ◌&&◌, List, [], ◌∷◌, length, set, take, drop, leb, ltb}
use Prim.Native.String.{String}
use Rattle.std.proofs.Math.Option.{none, some}
use Rattle.lists.specs.Lists.{hit, up_to}
use Rattle.text.specs.Text.{text}
use Rattle.records.specs.declared.Program.{Program}
use Rattle.records.specs.declared.Why.TheVariants.{Nothing}
use Rattle.records.specs.Names.{name_of}
use Rattle.records.specs.Records.{known}
use Rattle.records.specs.Numbers.{with_number}
use Rattle.tracks.specs.declared.held.Run.{Run}
use Rattle.tracks.specs.Tracks.{filled}
use Rattle.limits.specs.Limits.{usual_year}
use Rattle.rules.specs.Book.{Book, put, with_clock, with_holders, with_resources, fresh_book}
use Rattle.rules.specs.Rules.{may_start}
use Rattle.rules.specs.Keeper.{lists, State}
use Rattle.page.specs.Page.{clock_key, tracks_key, system_key, numbers_key, programs_key, id_key, name_key, priority_key, state_key, why_key, due_key}
use Rattle.page.specs.Page.{interval_key, first_keys, size_keys, record_keys, held_key, number_key, chained, key_of_chain}
use Rattle.shapes.specs.Shapes.{otherwise, figure, figure_or_dash, reason_of, listed, run_in, Numbered, numbered}
use Rattle.reader.specs.Order.{Form, year_form, mark_form, value_behind}

-- the value of the line of that key among some lines; a number there
unfoldable pub value_of : String → List (List ℕ) → List ℕ
unfolding value_behind
value_of key [] = []
value_of key (l ∷ ls) = elim (value_behind (text key) l) [ some v ↦ v | none ↦ value_of key ls ]

abbrev pub figure_of : String → List (List ℕ) → ℕ
figure_of key ls = otherwise 0 (figure (value_of key ls))

-- the state with another book, or another chain of state s
abbrev pub on_book : (Book → Book) → State lists → State lists
on_book f a = record { book = f a.book; kept = a.kept }

abbrev pub with_chain : ℕ → List ℕ → State lists → State lists
with_chain s c a = record { book = a.book; kept = set a.kept s c }

-- whether the first of some lines is of a kind; whether it is a mark
abbrev pub begins_with : Form → List (List ℕ) → Bool
begins_with f [] = false
begins_with f (l ∷ ls) = elim (value_behind f.key l) [ some v ↦ f.shape v | none ↦ false ]

abbrev pub marked_by : List (List ℕ) → Bool
marked_by ls = begins_with mark_form ls

-- the head: what FRESH yields for this year and these sizes, the smallest where they are not allowed, at that time
abbrev pub started : ℕ → ℕ → ℕ → ℕ → ℕ → State lists
started clock T S R Y =
    record { book = with_clock clock (cond (may_start T S R Y) (fresh_book T S R Y) (fresh_book 1 0 0 usual_year)); kept = lists.none }

-- the year, by the lines behind the first two: the usual one where the first of them is none for it
abbrev pub year_said : List (List ℕ) → ℕ
year_said [] = usual_year
year_said (l ∷ ls) = elim (value_behind year_form.key l) [ some v ↦ otherwise usual_year (figure v) | none ↦ usual_year ]

-- a record, by its lines, and whether a mark stands behind them
abbrev pub record_in : List (List ℕ) → Bool → Program
record_in ls mark = record {
  used = true;
  name = otherwise [] (name_of (value_of name_key ls));
  priority = figure_of priority_key ls;
  state = figure_of state_key ls;
  why = otherwise Nothing (reason_of (value_of why_key ls));
  due = otherwise 0 (figure_or_dash (value_of due_key ls));
  interval = otherwise 0 (figure_or_dash (value_of interval_key ls));
  suspend = mark;
}

abbrev pub with_record : ℕ → Program → State lists → State lists
with_record p r a = on_book (λ b. cond (known p) (put p r b) b) a

-- tracks that are held
abbrev pub with_run : Run → State lists → State lists
with_run g a =
    on_book (λ b. cond (leb g.first g.last && ltb g.last b.tracks)
    (with_holders (filled g.first (suc g.last - g.first) g.holder b.holders) b) b) a

-- a number
abbrev pub with_resource : Numbered → State lists → State lists
with_resource x a =
    on_book (λ b. cond (up_to 1 b.numbers x.number)
    (with_resources (with_number x.number x.resource.owner x.resource.lock b.resources) b) b) a

-- a line of what is held or of a number, and all of them; other lines say nothing
abbrev pub with_held : List ℕ → State lists → State lists
with_held v a = elim (run_in v) [ none ↦ a | some g ↦ with_run g a ]

abbrev pub with_numbered : List ℕ → State lists → State lists
with_numbered v a = elim (numbered v) [ none ↦ a | some x ↦ with_resource x a ]

unfoldable pub with_line : List ℕ → State lists → State lists
unfolding value_behind
with_line l a =
    elim (value_behind (text held_key) l) [
      | some v ↦ with_held v a
      | none ↦ elim (value_behind (text number_key) l) [ some v ↦ with_numbered v a | none ↦ a ]
    ]

unfoldable pub rest_said : State lists → List (List ℕ) → State lists
unfolding with_line
rest_said a [] = a
rest_said a (l ∷ ls) = rest_said (with_line l a) ls

-- the chains of these states, and what comes behind
unfoldable pub chains_said : List ℕ → State lists → List (List ℕ) → State lists
unfolding rest_said
chains_said [] a ls = rest_said a ls
chains_said (s ∷ ss) a [] = a
chains_said (s ∷ ss) a (l ∷ ls) = chains_said ss (with_chain s (otherwise [] (listed (otherwise [] (value_behind (key_of_chain s) l)))) a) ls

-- n records, and what comes behind
unfoldable pub records_said : ℕ → State lists → List (List ℕ) → State lists
unfolding chains_said
records_said zero a ls = chains_said chained a ls
records_said (suc n) a ls =
    let own : List (List ℕ) = take (length record_keys) ls in
    let rest : List (List ℕ) = drop (length record_keys) ls in
    records_said n (with_record (figure_of id_key own) (record_in own (marked_by rest)) a) (drop (hit (marked_by rest)) rest)

-- all of them
unfoldable pub said : List (List ℕ) → State lists
unfolding records_said
said ls =
    let first : List (List ℕ) = take (length first_keys) ls in
    let rest : List (List ℕ) = drop (length first_keys) ls in
    let behind : List (List ℕ) = drop (hit (begins_with year_form rest)) rest in
    let own : List (List ℕ) = take (length size_keys) behind in
    records_said (figure_of programs_key own)
    (started (figure_of clock_key first) (figure_of tracks_key own) (figure_of system_key own) (figure_of numbers_key own) (year_said rest))
    (drop (length size_keys) behind)
