-- Laws of the lines of a text, one by one: from a place on, the line that begins there and then those behind its end.
-- Assumes nothing.
use Prim.Native.Nat.{ℕ, ◌+◌, ◌<◌, ◌≤◌}
use native.Mathlib.Decide.{dec_lt}
use native.Mathlib.Omega.{arith}
use mathlib.Core.Path.{◌≡◌, refl, sym, ap, ◌∙◌}
use mathlib.Core.List.{List, [], ◌∷◌}
use lib.ListN.{length, get_or, drop, drop_of_length-le}
use lib.Seq.{slice}
use Rattle.text.specs.Text.{parts}
use Rattle.text.specs.Lines.{drop_empty, lines_of}
use Rattle.text.specs.Inner.{PartEnd}
use Rattle.text.proofs.Fields.{slice-next, parts_cut}

-- the text is at its end
pub lines_none : (s : List ℕ) (from : ℕ) → length s ≤ from → lines_of (drop from s) ≡ []
unfolding lines_of parts
lines_none s from h = ap lines_of (drop_of_length-le s h)

-- a line that is not the last stays, and so does a last one that is not empty
line_stays : (l m : List ℕ) (ms ls : List (List ℕ)) → ls ≡ m ∷ ms → drop_empty (l ∷ ls) ≡ l ∷ drop_empty ls
line_stays l m ms ls e = ap (λ (xs : List (List ℕ)). drop_empty (l ∷ xs)) e ∙ go l ∙ ap (λ (xs : List (List ℕ)). l ∷ drop_empty xs) (sym e)
  where
    go : (k : List ℕ) → drop_empty (k ∷ m ∷ ms) ≡ k ∷ drop_empty (m ∷ ms)
    go [] = refl
    go (x ∷ xs) = refl

more-lines : (l : List ℕ) (s : List ℕ) → drop_empty (l ∷ parts 10 s) ≡ l ∷ lines_of s
unfolding lines_of
more-lines l s = line_stays l _ _ (parts 10 s) (parts_cut 10 s)

last_line : (l : List ℕ) (x : ℕ) (xs : List ℕ) → l ≡ x ∷ xs → drop_empty (l ∷ []) ≡ l ∷ []
last_line l x xs e = ap (λ (r : List ℕ). drop_empty (r ∷ [])) e ∙ ap (λ (r : List ℕ). r ∷ []) (sym e)

pub lines_next : (s : List ℕ) (from e : ℕ) → from < length s → PartEnd 10 s from e
    → lines_of (drop from s) ≡ slice from e s ∷ lines_of (drop (e + 1) s)
unfolding lines_of
lines_next s from e h P = go (dec_lt e (length s))
  where
    go : Dec (e < length s) → lines_of (drop from s) ≡ slice from e s ∷ lines_of (drop (e + 1) s)
    go (yes more) = ap drop_empty (P.more more) ∙ more-lines (slice from e s) (drop (e + 1) s)
    go (no last) =
        let at : e ≡ length s = omega (arith, P.high) in
        ap drop_empty (P.last at)
        ∙ last_line (slice from e s) (get_or s from 0) (slice (from + 1) e s) (slice-next s from e (omega arith) (omega arith))
        ∙ ap (λ (ls : List (List ℕ)). slice from e s ∷ ls) (sym (lines_none s (e + 1) (omega arith)))
