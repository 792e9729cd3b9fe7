-- The head of a page, read back.
-- Assumes nothing.
use Prim.Native.Nat.{ℕ}
use native.Mathlib.Omega.{arith}
use mathlib.Core.Path.{◌≡◌, refl, sym, ap, ◌∙◌, subst}
use mathlib.Core.Bool.{Bool, true, false, cond}
use mathlib.Core.List.{List, [], ◌∷◌, ◌++◌}
use mathlib.Core.Option.{some}
use lib.ListN.{drop}
use lib.Dec.{eqb}
use borrow.Author.Tests.{eqb-true}
use Rattle.limits.specs.Limits.{usual_year}
use Rattle.lists.specs.Lists.{same, count, hit}
use Rattle.text.specs.Text.{text, decimal, behind}
use Rattle.page.specs.Page.{Line, line, page_key, clock_key, year_key, tracks_key, system_key, numbers_key, programs_key, size_keys, first_word, paired}
use Rattle.page.specs.Page.{year_line, head_lines}
use Rattle.shapes.specs.Shapes.{there, otherwise}
use Rattle.reader.specs.Order.{value_behind, is_figure, year_form, size_forms, heading, year_ahead, page_ahead, records_ahead}
use Rattle.reader.specs.Said.{begins_with, year_said, started, records_said, said}
use Rattle.shapes.proofs.Pieces.{decimal-only, clean_line}
use Rattle.reader.proofs.Text.{told, told-append, Clean, clean-none, clean-more, clean-append}
use Rattle.shapes.proofs.ValuesBack.{Short, figure-decimal}
use Rattle.reader.proofs.ScanLaws.{Good, first_step, first-last, head_step, head-last}
use Rattle.reader.proofs.PerhapsLaws.{one-good, none-good}
use Rattle.reader.proofs.HeadLaws.{started_by, sized_by, two, four}

-- a number's digits have the shape of one, and no byte 10
pub figure-there : (n : ℕ) → Short n → is_figure (decimal n) ≡ true
figure-there n h = ap there (figure-decimal n h)

pub figure-clean : (key : List ℕ) → count 10 key ≡ 0 → (n : ℕ) → count 10 (key ++ (61 ∷ decimal n)) ≡ 0
figure-clean key h n = clean_line key (decimal n) h (decimal-only 10 n (λ l. absurd (omega arith)))

-- the year's line, where it is not the usual one
module _ (Y : ℕ) where
  abbrev year_or : Bool → List Line
  year_or b = cond b [] (line year_key (decimal Y) ∷ [])

  year-clean : Clean (year_line Y)
  unfolding same
  year-clean = go (eqb Y usual_year)
    where
      go : (b : Bool) → Clean (year_or b)
      go true = clean-none
      go false = clean-more (figure-clean (text year_key) refl Y) clean-none

  year-good : Short Y → (rs : List (List ℕ)) → begins_with year_form rs ≡ false → Good (heading size_forms) rs
      → Good year_ahead (told (year_line Y) rs)
  year-good y rs e g = go (eqb Y usual_year)
    where
      go : (b : Bool) → Good year_ahead (told (year_or b) rs)
      go true = none-good year_form (heading size_forms) (λ k l. refl) rs e g
      go false = one-good year_form (heading size_forms) (λ k l. refl) (decimal Y) rs (figure-there Y y) g

  -- what it says, and what is left behind it
  year-told : Short Y → (rs : List (List ℕ)) → begins_with year_form rs ≡ false → year_said rs ≡ usual_year
      → (year_said (told (year_line Y) rs) ≡ Y)
      × (drop (hit (begins_with year_form (told (year_line Y) rs))) (told (year_line Y) rs) ≡ rs)
  unfolding value_behind behind
  year-told y rs e u = go (eqb Y usual_year) refl
    where
      go : (b : Bool) → eqb Y usual_year ≡ b → (year_said (told (year_or b) rs) ≡ Y)
          × (drop (hit (begins_with year_form (told (year_or b) rs))) (told (year_or b) rs) ≡ rs)
      go true i = (u ∙ sym (eqb-true Y usual_year i), ap (λ (t : Bool). drop (hit t) rs) e)
      go false i = (
        ap (otherwise usual_year) (figure-decimal Y y),
        ap (λ (t : Bool). drop (hit t) ((text year_key ++ (61 ∷ decimal Y)) ∷ rs)) (figure-there Y y),
      )

module _ (clock T S R Y n : ℕ) where
  -- the lines behind the year's
  abbrev sized : List Line
  sized = paired size_keys (decimal T ∷ decimal S ∷ decimal R ∷ decimal n ∷ [])

  pub head-clean : Clean (head_lines clock T S R Y n)
  unfolding same
  head-clean =
      clean-more refl
      (clean-more (figure-clean (text clock_key) refl clock)
      (clean-append (year-clean Y)
      (clean-more (figure-clean (text tracks_key) refl T)
      (clean-more (figure-clean (text system_key) refl S)
      (clean-more (figure-clean (text numbers_key) refl R)
      (clean-more (figure-clean (text programs_key) refl n) clean-none))))))

  module _ (c : Short clock) (t : Short T) (s : Short S) (r : Short R) (y : Short Y) (m : Short n) (rs : List (List ℕ)) where
    abbrev behind_year : List (List ℕ)
    behind_year = told sized rs

    lines-told : told (head_lines clock T S R Y n) rs
        ≡ (text page_key ++ (61 ∷ text first_word)) ∷ (text clock_key ++ (61 ∷ decimal clock)) ∷ told (year_line Y) behind_year
    lines-told =
        ap (λ (x : List (List ℕ)). (text page_key ++ (61 ∷ text first_word)) ∷ (text clock_key ++ (61 ∷ decimal clock)) ∷ x)
        (told-append (year_line Y) sized rs)

    no-year : begins_with year_form behind_year ≡ false
    unfolding value_behind behind
    no-year = refl

    usual : year_said behind_year ≡ usual_year
    unfolding value_behind behind
    usual = refl

    pub head-good : Good (records_ahead n) rs → Good page_ahead (told (head_lines clock T S R Y n) rs)
    head-good g =
        subst (Good page_ahead) (sym lines-told)
        (first_step (text first_word) refl
        (first-last (decimal clock) (figure-there clock c)
        (year-good Y y behind_year no-year
        (head_step (decimal T) (figure-there T t)
        (head_step (decimal S) (figure-there S s)
        (head_step (decimal R) (figure-there R r)
        (head-last (decimal n) (figure-there n m) n (figure-decimal n m) g)))))))

    pub head-said : said (told (head_lines clock T S R Y n) rs) ≡ records_said n (started clock T S R Y) rs
    head-said =
        let (p, q) = year-told Y y behind_year no-year usual in
        ap said lines-told ∙ two (text first_word) (decimal clock) (told (year_line Y) behind_year)
        ∙ (λ i. sized_by (figure-decimal clock c i) (p i) (q i))
        ∙ four (some clock) Y (decimal T) (decimal S) (decimal R) (decimal n) rs
        ∙ (λ i. started_by rs (some clock) (figure-decimal T t i) (figure-decimal S s i) (figure-decimal R r i) Y (figure-decimal n m i))
