-- WHICH LINE MAY COME NEXT on a page (OUTLINE, "The page and the console line"), and the first one that may not. A line is well
-- formed exactly when its key may come next and its value has the key's shape.
-- Assumes nothing.
use Rattle.std.specs.Prelude.{ℕ, zero, suc, Bool, true, false, List, [], ◌∷◌, ◌++◌, map}
use Prim.Native.String.{String}
use Rattle.std.proofs.Math.Option.{Option, none, some}
use Rattle.lists.specs.Lists.{alike}
use Rattle.text.specs.Text.{text, behind}
use Rattle.records.specs.Names.{name_of}
use Rattle.page.specs.Page.{first_keys, year_key, size_keys, record_keys, suspend_key, held_key, number_key, end_key, chained, key_of_chain, first_word, last_word, mark_word}
use Rattle.shapes.specs.Shapes.{there, otherwise, figure, figure_or_dash, reason_of, listed, run_in, numbered}

-- a kind of line: its key, and whether a value has its shape
pub record Form : Type 0 where
  pub key : List ℕ
  pub shape : List ℕ → Bool

abbrev pub form : String → (List ℕ → Bool) → Form
form key shape = record { key = text key; shape = shape }

-- each key with the shape at its place
abbrev pub formed : List String → List (List ℕ → Bool) → List Form
formed [] ss = []
formed (k ∷ ks) [] = []
formed (k ∷ ks) (s ∷ ss) = form k s ∷ formed ks ss

abbrev pub is_figure : List ℕ → Bool
is_figure v = there (figure v)

abbrev pub is_figure_or_dash : List ℕ → Bool
is_figure_or_dash v = there (figure_or_dash v)

abbrev pub first_forms : List Form
first_forms = formed first_keys ((λ v. alike v (text first_word)) ∷ is_figure ∷ [])

abbrev pub year_form : Form
year_form = form year_key is_figure

abbrev pub size_forms : List Form
size_forms = formed size_keys (is_figure ∷ is_figure ∷ is_figure ∷ is_figure ∷ [])

abbrev pub record_forms : List Form
record_forms =
    formed record_keys
    (is_figure ∷ (λ v. there (name_of v)) ∷ is_figure ∷ is_figure ∷ (λ v. there (reason_of v)) ∷ is_figure_or_dash ∷ is_figure_or_dash ∷ [])

abbrev pub mark_form : Form
mark_form = form suspend_key (λ v. alike v (text mark_word))

abbrev pub chain_forms : List Form
chain_forms = map (λ s. record { key = key_of_chain s; shape = λ v. there (listed v) }) chained

abbrev pub held_form : Form
held_form = form held_key (λ v. there (run_in v))

abbrev pub number_form : Form
number_form = form number_key (λ v. there (numbered v))

abbrev pub end_form : Form
end_form = form end_key (λ v. alike v (text last_word))

-- where a reader of the page stands
pub data Place : Type 0 where
  opening : List Form → Place  -- the first lines of the head come
  heading : List Form → Place  -- its last lines
  recording : List Form → ℕ → Place  -- lines of a record, and then so many records
  perhaps : Form → Place → Place  -- a line of that kind, or what may come at that place
  chaining : List Form → Place  -- chains
  holding : Place  -- tracks that are held, as many as there are; or what may stand behind them
  numbering : Place  -- numbers, as many as there are; or the last line
  ended : Place  -- nothing

-- these chains come, and then what is held
abbrev pub chains_ahead : List Form → Place
chains_ahead [] = holding
chains_ahead (f ∷ fs) = chaining (f ∷ fs)

-- n records come, and then the chains; these lines of a record, its mark if it has one, and then n records
abbrev pub records_ahead : ℕ → Place
records_ahead zero = chains_ahead chain_forms
records_ahead (suc n) = recording record_forms n

abbrev pub record_ahead : List Form → ℕ → Place
record_ahead [] n = perhaps mark_form (records_ahead n)
record_ahead (f ∷ fs) n = recording (f ∷ fs) n

-- the year, if it is there, and then the sizes; the whole page
abbrev pub year_ahead : Place
year_ahead = perhaps year_form (heading size_forms)

abbrev pub page_ahead : Place
page_ahead = opening first_forms

-- a kind of line that may come, and where the reader stands behind it, by its value
pub record Choice : Type 0 where
  pub kind : Form
  pub then : List ℕ → Place

abbrev pub choice : Form → Place → Choice
choice f p = record { kind = f; then = λ v. p }

-- the kinds that may come: the records as many as the head's last line says
abbrev pub may_come : Place → List Choice
may_come (opening []) = []
may_come (opening (f ∷ [])) = choice f year_ahead ∷ []
may_come (opening (f ∷ g ∷ fs)) = choice f (opening (g ∷ fs)) ∷ []
may_come (heading []) = []
may_come (heading (f ∷ [])) = record { kind = f; then = λ v. records_ahead (otherwise 0 (figure v)) } ∷ []
may_come (heading (f ∷ g ∷ fs)) = choice f (heading (g ∷ fs)) ∷ []
may_come (recording [] n) = []
may_come (recording (f ∷ fs) n) = choice f (record_ahead fs n) ∷ []
may_come (perhaps f p) = choice f p ∷ may_come p
may_come (chaining []) = []
may_come (chaining (f ∷ fs)) = choice f (chains_ahead fs) ∷ []
may_come holding = choice held_form holding ∷ choice number_form numbering ∷ choice end_form ended ∷ []
may_come numbering = choice number_form numbering ∷ choice end_form ended ∷ []
may_come ended = []

-- what a line of that key has behind its `=`
unfoldable pub value_behind : List ℕ → List ℕ → Option (List ℕ)
value_behind key l = behind (key ++ (61 ∷ [])) l

-- where the reader stands behind a line of one of these kinds: nowhere, where it is of none
abbrev pub after_kind : Place → Bool → Option Place → Option Place
after_kind p true o = some p
after_kind p false o = o

abbrev pub after_one : List Choice → List ℕ → Option Place
after_one [] l = none
after_one (c ∷ cs) l =
    elim (value_behind c.kind.key l) [
      | none ↦ after_one cs l
      | some v ↦ after_kind (c.then v) (c.kind.shape v) (after_one cs l)
    ]

-- the place behind a line that is well formed at a place; none where it is not
unfoldable pub behind_line : Place → List ℕ → Option Place
unfolding value_behind
behind_line p l = after_one (may_come p) l

-- what stands behind the last byte 10, as line n: it has to be nothing, and the page at its end
abbrev pub behind_all : Place → ℕ → List ℕ → ℕ
behind_all ended n [] = 0
behind_all ended n (c ∷ cs) = n
behind_all (opening fs) n l = n
behind_all (heading fs) n l = n
behind_all (recording fs k) n l = n
behind_all (perhaps f p) n l = n
behind_all (chaining fs) n l = n
behind_all holding n l = n
behind_all numbering n l = n

-- The lines of a text are its parts between the bytes 10. The first of them, counted on from n, that is not well formed, or the line
-- after the last where the page stops short; 0 where there is none.
unfoldable pub first_bad : Place → ℕ → List (List ℕ) → ℕ
unfolding behind_line
first_bad p n [] = n
first_bad p n (l ∷ []) = behind_all p n l
first_bad p n (l ∷ m ∷ ls) = elim (behind_line p l) [ none ↦ n | some q ↦ first_bad q (suc n) (m ∷ ls) ]
