-- The last line of a page, and what stands behind it.
-- Assumes nothing.
use Prim.Native.Nat.{ℕ, suc, ◌+◌, ◌≤◌, ◌<◌}
use native.Mathlib.Omega.{arith}
use mathlib.Core.Path.{◌≡◌, refl, sym, ap, ◌∙◌, subst}
use mathlib.Core.Bool.{Bool, true, false, cond}
use lib.Dec.{eqb}
use mathlib.Core.List.{List, [], ◌∷◌, ◌++◌}
use mathlib.Core.Option.{none}
use lib.ListN.{length, drop, length-drop, drop_of_length-le}
use Rattle.text.specs.Text.{text, behind, on_first, parts}
use Rattle.page.specs.Page.{number_key, end_key, last_word}
use Rattle.shapes.specs.Shapes.{there, numbered}
use Rattle.reader.specs.Order.{numbering, ended, number_form, end_form, choice, value_behind, after_one, behind_line, first_bad}
use Rattle.reader.specs.Said.{with_line, rest_said}
use Rattle.shapes.specs.Inner.{narrow_numbered, number_in, LineIs, NoLine, unended, keyless, shapeless, word_is}
use Rattle.reader.specs.Walks.{ahead, Stops, EndIs}
use Rattle.reader.specs.declared.parts.BadLine.{BadLine}
use Rattle.reader.proofs.ScanLaws.{pass}
use Rattle.shapes.proofs.Marks.{some-part}
use Rattle.reader.proofs.LineLaws.{scan-line, scan-stop, pass-key, pass_shape, there-into, word-there}

-- at the numbers, a line that is none, or not of its shape, can only be the last one
at-numbers : (l : List ℕ) → behind (text number_key ++ (61 ∷ [])) l ≡ none → behind_line numbering l ≡ after_one (choice end_form ended ∷ []) l
unfolding behind_line
at-numbers l e = pass-key (choice number_form numbering) (choice end_form ended ∷ []) l e

misshapen : (v : List ℕ) → number_in v ≡ none
    → behind_line numbering (text number_key ++ (61 ∷ v)) ≡ after_one (choice end_form ended ∷ []) (text number_key ++ (61 ∷ v))
unfolding behind_line
misshapen v e =
    pass_shape (choice number_form numbering) (choice end_form ended ∷ []) v (sym (there-into narrow_numbered (numbered v)) ∙ ap there e)

-- two ways to cut one text
one_line : {l m : List ℕ} {ls ms : List (List ℕ)} → l ∷ ls ≡ m ∷ ms → l ≡ m
one_line e = ap first e
  where
    first : List (List ℕ) → List ℕ
    first [] = []
    first (x ∷ xs) = x

-- a line that is no number and not the last one either
module _ (s : List ℕ) (at line : ℕ) where
  no_number : (l : List ℕ) (next : ℕ) → parts 10 (drop at s) ≡ l ∷ parts 10 (drop next s) → NoLine number_in s at (text number_key)
      → behind_line numbering l ≡ after_one (choice end_form ended ∷ []) l
  no_number l next e (unended m f) =
      let (y, ys, g) = some-part 10 (drop next s) in
      absurd (omega (arith, ap length (sym f ∙ e ∙ ap (λ (x : List (List ℕ)). l ∷ x) g)))
  no_number l next e (keyless m n f g) = at-numbers l (ap (behind (text number_key ++ (61 ∷ []))) (one_line (sym e ∙ f)) ∙ g)
  no_number l next e (shapeless v n f g) =
      subst (λ (x : List ℕ). behind_line numbering x ≡ after_one (choice end_form ended ∷ []) x) (sym (one_line (sym e ∙ f))) (misshapen v g)

  stops : (l : List ℕ) (next : ℕ) → parts 10 (drop at s) ≡ l ∷ parts 10 (drop next s) → NoLine number_in s at (text number_key)
      → after_one (choice end_form ended ∷ []) l ≡ none → first_bad numbering line (ahead s at) ≡ line
  stops l next e x g = ap (first_bad numbering line) e ∙ scan-stop numbering l (drop next s) line (no_number l next e x ∙ g)

  scan-no-end : NoLine number_in s at (text number_key) → NoLine (word_is (text last_word)) s at (text end_key)
      → first_bad numbering line (ahead s at) ≡ line
  unfolding first_bad
  scan-no-end x (unended l e) = ap (first_bad numbering line) e
  scan-no-end x (keyless l next e f) = stops l next e x (pass-key (choice end_form ended) [] l f)
  scan-no-end x (shapeless v next e f) =
      stops (text end_key ++ (61 ∷ v)) next e x (pass_shape (choice end_form ended) [] v (word-there (text last_word) v ∙ ap there f))

  pub no_end : 1 ≤ line → NoLine number_in s at (text number_key) → NoLine (word_is (text last_word)) s at (text end_key)
      → (b : BadLine) → b.0 ≡ line → Stops numbering line (ahead s at) b
  no_end h x y b e = record { some = omega (arith, e); scan = scan-no-end x y ∙ sym e }

-- behind the last line no byte may stand
over : (n : ℕ) (t : List ℕ) → 1 ≤ length t → first_bad ended n (parts 10 t) ≡ n
unfolding first_bad behind_line parts
over n [] k = absurd (omega arith)
over n (x ∷ xs) k =
    let (m, ls, e) = some-part 10 xs in
    ap (λ (y : List (List ℕ)). first_bad ended n (cond (eqb x 10) ([] ∷ y) (on_first x y))) e ∙ go (eqb x 10) m ls
  where
    go : (b : Bool) (m : List ℕ) (ls : List (List ℕ)) → first_bad ended n (cond b ([] ∷ m ∷ ls) (on_first x (m ∷ ls))) ≡ n
    go true m ls = refl
    go false m [] = refl
    go false m (l ∷ ls) = refl

-- the last line
module _ (s : List ℕ) (at line next : ℕ) (l : LineIs (word_is (text last_word)) s at (text end_key) true next) where
  scan-end : first_bad numbering line (ahead s at) ≡ first_bad ended (suc line) (ahead s next)
  unfolding value_behind behind
  scan-end =
      ap (first_bad numbering line) l.cut
      ∙ scan-line numbering ended (text end_key ++ (61 ∷ l.value)) (drop next s) line
      (at-numbers (text end_key ++ (61 ∷ l.value)) refl
      ∙ pass end_form (λ v. ended) [] l.value (word-there (text last_word) l.value ∙ ap there l.shaped))

  -- nothing behind it
  pub all-over : length s ≤ next → EndIs s at line
  unfolding first_bad parts rest_said with_line value_behind behind
  all-over h =
      let e : drop next s ≡ [] = drop_of_length-le s h in
      record {
        scan = scan-end ∙ ap (λ (x : List ℕ). first_bad ended (suc line) (parts 10 x)) e;
        says = λ a. ap (rest_said a) (l.cut ∙ ap (λ (x : List ℕ). (text end_key ++ (61 ∷ l.value)) ∷ parts 10 x) e);
      }

  -- something behind it
  pub more-behind : next < length s → (b : BadLine) → b.0 ≡ line + 1 → Stops numbering line (ahead s at) b
  more-behind h b q =
      record {
        some = omega (arith, q);
        scan = scan-end ∙ over (suc line) (drop next s) (omega (arith, length-drop next s))
            ∙ (let e : suc line ≡ b.0 = omega (arith, q) in e);
      }
