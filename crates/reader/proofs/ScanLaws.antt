-- Laws of the scan: where all lines from a place on are well formed, and a line that is passed.
-- Assumes nothing.
use Prim.Native.Nat.{ℕ, suc}
use native.Mathlib.Omega.{arith}
use mathlib.Core.Path.{◌≡◌, refl, sym, ap, ◌∙◌}
use mathlib.Core.Bool.{Bool, true}
use mathlib.Core.List.{List, [], ◌∷◌, ◌++◌, append_assoc}
use mathlib.Core.Option.{Option, none, some}
use Rattle.text.specs.Text.{text, behind}
use Rattle.text.proofs.Words.{behind-append}
use Rattle.page.specs.Page.{line, held_key, number_key, end_key, last_word}
use Rattle.shapes.specs.Shapes.{there, otherwise, figure, run_in, numbered}
use Rattle.reader.specs.Order.{Form, held_form, number_form, end_form, Place, opening, heading, recording, chaining, holding, numbering}
use Rattle.reader.specs.Order.{ended, Choice, choice, year_ahead, chains_ahead, records_ahead, record_ahead}
use Rattle.reader.specs.Order.{value_behind, after_kind, after_one, behind_line, first_bad}
use Rattle.reader.proofs.Text.{content, told}

-- no line is bad, whatever the number of the first
pub record Good (p : Place) (ls : List (List ℕ)) : Type 0 where
  pub none : (n : ℕ) → first_bad p n ls ≡ 0

-- a line is passed; behind it some line always comes, if only the one behind the last byte 10
pub good-step : {p q : Place} (l : List ℕ) (ls : List (List ℕ)) → behind_line p l ≡ some q → Good q ls → Good p (l ∷ ls)
unfolding first_bad
good-step l [] e g = let z = g.none 1 in absurd (omega arith)
good-step {p} {q} l (m ∷ ls) e g =
    record { none = λ n. ap (λ (o : Option Place). elim o [ none ↦ n | some r ↦ first_bad r (suc n) (m ∷ ls) ]) e ∙ g.none (suc n) }

-- the value behind a key
pub value-behind : (key v : List ℕ) → value_behind key (key ++ (61 ∷ v)) ≡ some v
unfolding value_behind
value-behind key v =
    ap (behind (key ++ (61 ∷ []))) (sym (append_assoc key (61 ∷ []) v)) ∙ behind-append (key ++ (61 ∷ [])) v

-- a line of the first kind that may come, whose value has its shape
pub pass : (f : Form) (then : List ℕ → Place) (cs : List Choice) (v : List ℕ) → f.shape v ≡ true
    → after_one (record { kind = f; then = then } ∷ cs) (f.key ++ (61 ∷ v)) ≡ some (then v)
unfolding value_behind
pass f then cs v e =
    let l : List ℕ = f.key ++ (61 ∷ v) in
    ap (λ (o : Option (List ℕ)). elim o [ none ↦ after_one cs l | some w ↦ after_kind (then w) (f.shape w) (after_one cs l) ])
    (value-behind f.key v)
    ∙ ap (λ (t : Bool). after_kind (then v) t (after_one cs l)) e

-- lines of the head: the first ones, and those behind the year, the last of which says how many records come
module _ {f : Form} (v : List ℕ) {ls : List (List ℕ)} (e : f.shape v ≡ true) where
  pub first_step : {g : Form} {fs : List Form} → Good (opening (g ∷ fs)) ls → Good (opening (f ∷ g ∷ fs)) ((f.key ++ (61 ∷ v)) ∷ ls)
  unfolding behind_line
  first_step {g} {fs} h = good-step (f.key ++ (61 ∷ v)) ls (pass f (λ w. opening (g ∷ fs)) [] v e) h

  pub first-last : Good year_ahead ls → Good (opening (f ∷ [])) ((f.key ++ (61 ∷ v)) ∷ ls)
  unfolding behind_line
  first-last h = good-step (f.key ++ (61 ∷ v)) ls (pass f (λ w. year_ahead) [] v e) h

  pub head_step : {g : Form} {fs : List Form} → Good (heading (g ∷ fs)) ls → Good (heading (f ∷ g ∷ fs)) ((f.key ++ (61 ∷ v)) ∷ ls)
  unfolding behind_line
  head_step {g} {fs} h = good-step (f.key ++ (61 ∷ v)) ls (pass f (λ w. heading (g ∷ fs)) [] v e) h

  pub head-last : (n : ℕ) → figure v ≡ some n → Good (records_ahead n) ls → Good (heading (f ∷ [])) ((f.key ++ (61 ∷ v)) ∷ ls)
  unfolding behind_line
  head-last n k h =
      good-step (f.key ++ (61 ∷ v)) ls
      (pass f (λ w. records_ahead (otherwise 0 (figure w))) [] v e ∙ ap (λ (o : Option ℕ). some (records_ahead (otherwise 0 o))) k) h

  -- of a record; of a chain
  pub record-step : {fs : List Form} {n : ℕ} → Good (record_ahead fs n) ls → Good (recording (f ∷ fs) n) ((f.key ++ (61 ∷ v)) ∷ ls)
  unfolding behind_line
  record-step {fs} {n} h = good-step (f.key ++ (61 ∷ v)) ls (pass f (λ w. record_ahead fs n) [] v e) h

  pub chain-step : {fs : List Form} → Good (chains_ahead fs) ls → Good (chaining (f ∷ fs)) ((f.key ++ (61 ∷ v)) ∷ ls)
  unfolding behind_line
  chain-step {fs} h = good-step (f.key ++ (61 ∷ v)) ls (pass f (λ w. chains_ahead fs) [] v e) h

-- of what is held; of a number, at either place; the last one
pub held-step : (v : List ℕ) (ls : List (List ℕ)) → there (run_in v) ≡ true → Good holding ls → Good holding (content (line held_key v) ∷ ls)
unfolding behind_line
held-step v ls e h =
    good-step (content (line held_key v)) ls
    (pass held_form (λ w. holding) (choice number_form numbering ∷ choice end_form ended ∷ []) v e) h

pub number-first : (v : List ℕ) (ls : List (List ℕ)) → there (numbered v) ≡ true → Good numbering ls
    → Good holding (content (line number_key v) ∷ ls)
unfolding behind_line value_behind behind
number-first v ls e h = good-step (content (line number_key v)) ls (ap (λ (t : Bool). after_kind numbering t none) e) h

pub number_step : (v : List ℕ) (ls : List (List ℕ)) → there (numbered v) ≡ true → Good numbering ls
    → Good numbering (content (line number_key v) ∷ ls)
unfolding behind_line
number_step v ls e h =
    good-step (content (line number_key v)) ls (pass number_form (λ w. numbering) (choice end_form ended ∷ []) v e) h

abbrev pub last_lines : List (List ℕ)
last_lines = told (line end_key (text last_word) ∷ []) ([] ∷ [])

all_read : Good ended ([] ∷ [])
unfolding first_bad
all_read = record { none = λ n. refl }

pub end-held : Good holding last_lines
unfolding behind_line value_behind behind
end-held = good-step (content (line end_key (text last_word))) ([] ∷ []) refl all_read

pub end-numbered : Good numbering last_lines
unfolding behind_line value_behind behind
end-numbered = good-step (content (line end_key (text last_word))) ([] ∷ []) refl all_read
