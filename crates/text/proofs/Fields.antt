-- Laws of slices, of the parts of a text, of the equality of two texts. A part ends where the next separator stands, so a
-- search for it is a search for the first.
-- Assumes nothing.
use Prim.Native.Nat.{ℕ, zero, suc, ◌+◌, ◌-◌, ◌<◌, ◌≤◌}
use native.Mathlib.Nat.{suc-add, zero-add}
use native.Mathlib.Numerals.{add-one}
use native.Mathlib.Omega.{arith}
use mathlib.Core.Path.{◌≡◌, refl, sym, ap, subst, ◌∙◌, ap₂}
use mathlib.Core.Logic.{◌≢◌}
use mathlib.Core.Bool.{Bool, true, false, cond, ◌&&◌}
use mathlib.Core.List.{List, [], ◌∷◌, ◌++◌}
use Rattle.std.proofs.Common.{nat_eq}
use lib.Pointwise.{pointwise}
use lib.Dec.{eqb, eqb-zero-suc, eqb-suc-suc}
use Rattle.std.specs.Prelude.{Option, Some, None}
use Rattle.std.specs.List.{position, position_or_len}
use Rattle.std.proofs.lemmas.List.Recursion.{is_position_or_len}
use lib.ListN.{length, get_or, take, drop, length-drop, drop_of_length-le}
use lib.Seq.{slice, slice-cons, slice_empty, drop-cons, take-nil, drop-drop, take-add, drop-append-le, length-take-le}
use Rattle.std.proofs.lemmas.List.{take_all}
use borrow.Author.Tests.{eq-eqb, ne_eqb, ltb-false}
use Rattle.lists.specs.Lists.{alike}
use Rattle.lists.proofs.Tests.{alike-true}
use Rattle.text.specs.Text.{on_first, parts}
use Rattle.text.specs.Inner.{PartEnd}

pub drop-next : (l : List ℕ) (i : ℕ) → i < length l → drop i l ≡ get_or l i 0 ∷ drop (i + 1) l
drop-next l i h = rw (add-one i) (drop-cons l i 0 h)

pub slice-next : (l : List ℕ) (i t : ℕ) → i < t → t ≤ length l → slice i t l ≡ get_or l i 0 ∷ slice (i + 1) t l
slice-next l i t h k = rw (add-one i) (slice-cons i t l 0 h k)

pub slice-none : (l : List ℕ) (i t : ℕ) → i ≡ t → slice i t l ≡ []
slice-none l i t e = rw e (slice_empty t l)

pub slice-head : (l : List ℕ) (i t : ℕ) → i < t → t ≤ length l → get_or (slice i t l) 0 0 ≡ get_or l i 0
slice-head l i t h k = ap (λ (r : List ℕ). get_or r 0 0) (slice-cons i t l 0 h k)

pub drop-take : (a c : ℕ) (l : List ℕ) → drop a (take (a + c) l) ≡ take c (drop a l)
drop-take zero c l = rw (zero-add c)
drop-take (suc a) c [] = rw (suc-add a c) (sym (take-nil c))
drop-take (suc a) c (x ∷ l) = rw (suc-add a c) (drop-take a c l)

-- a slice up to a place in it, and on from there
pub slice-split : (l : List ℕ) (f m t : ℕ) → f ≤ m → m ≤ t → t ≤ length l → slice f t l ≡ slice f m l ++ slice m t l
slice-split l f m t h k b =
    let e : m + (t - m) ≡ t = omega arith in
    subst (λ (n : ℕ). slice f n l ≡ slice f m l ++ slice m n l) e
    (ap (drop f) (take-add m (t - m) l)
    ∙ drop-append-le f (take m l) (take (t - m) (drop m l)) (omega (arith, length-take-le m l (omega arith)))
    ∙ ap (λ (r : List ℕ). slice f m l ++ r) (sym (drop-take m (t - m) l)))

-- where the first d stands, or the length where there is none
unfoldable pub until : ℕ → List ℕ → ℕ
until d [] = 0
until d (x ∷ xs) = cond (eqb x d) 0 (suc (until d xs))

-- what stands behind the first part
abbrev after : ℕ → List ℕ → List (List ℕ)
after d s = cond (eqb (until d s) (length s)) [] (parts d (drop (suc (until d s)) s))

pub parts_cut : (d : ℕ) (s : List ℕ) → parts d s ≡ take (until d s) s ∷ after d s
unfolding parts until
parts_cut d [] = refl
parts_cut d (x ∷ xs) = go (eqb x d) (parts_cut d xs)
  where
    go : (t : Bool) → parts d xs ≡ take (until d xs) xs ∷ after d xs
        → cond t ([] ∷ parts d xs) (on_first x (parts d xs))
        ≡ take (cond t 0 (suc (until d xs))) (x ∷ xs)
        ∷ cond (eqb (cond t 0 (suc (until d xs))) (suc (length xs))) [] (parts d (drop (suc (cond t 0 (suc (until d xs)))) (x ∷ xs)))
    go true ih = simp (eqb-zero-suc (length xs))
    go false ih = simp (eqb-suc-suc (until d xs) (length xs)) (ap (on_first x) ih)

pub until-le : (d : ℕ) (s : List ℕ) → until d s ≤ length s
unfolding until
until-le d [] = omega arith
until-le d (x ∷ xs) = go (eqb x d) (until-le d xs)
  where
    go : (t : Bool) → until d xs ≤ length xs → cond t 0 (suc (until d xs)) ≤ suc (length xs)
    go true ih = omega arith
    go false ih = omega arith

-- the part that begins at `from` ends at the first d from there on
pub part_end : (d : ℕ) (s : List ℕ) (from : ℕ) → from ≤ length s → PartEnd d s from (from + until d (drop from s))
part_end d s from h =
    let r : List ℕ = drop from s in
    let len : length r ≡ length s - from = length-drop from s in
    let at : from + suc (until d r) ≡ from + until d r + 1 = omega arith in
    let le : until d r ≤ length r = until-le d r in
    record {
      low = omega arith;
      high = omega arith;
      last = λ e. parts_cut d r ∙ rw (eq-eqb (until d r) (length r) (omega arith), drop-take from (until d r) s) refl;
      more = λ l. parts_cut d r
          ∙ rw (ne_eqb (until d r) (length r) (omega arith), drop-take from (until d r) s, drop-drop (suc (until d r)) from s, at);
    }

-- the search for it
until-position : (d : ℕ) (s : List ℕ) → until d s ≡ position_or_len (λ b. eqb b d) s
unfolding until
until-position d s = is_position_or_len (until d) (λ b. eqb b d) refl (λ x xs. ap (cond (eqb x d) 0) (omega arith)) s

-- where it is found, and where it is not; the code's slice is as long as it can be
module _ (d : ℕ) (s : List ℕ) (from n : ℕ) (h : from ≤ length s) where
  there : take (length s - from) (drop from s) ≡ drop from s
  there = take_all (length s - from) (drop from s) (omega (arith, length-drop from s))

  found : (o : Option ℕ) → position (λ b. eqb b d) (drop from s) ≡ o → o ≡ Some n → from + until d (drop from s) ≡ from + n
  found o e q = go _ (e ∙ q)
    where
      go : (t : Bool) → cond t (Some (position_or_len (λ b. eqb b d) (drop from s))) None ≡ Some n → from + until d (drop from s) ≡ from + n
      go true e = let k : position_or_len (λ b. eqb b d) (drop from s) ≡ n = cc in ap (λ (k : ℕ). from + k) (until-position d (drop from s) ∙ k)
      go false e = let z : ◌≡◌ {A = ℕ} 0 1 = cc in absurd (omega arith)

  pub found_end : position (λ b. eqb b d) (take (length s - from) (drop from s)) ≡ Some n → PartEnd d s from (from + n)
  found_end e = subst (PartEnd d s from) (found _ refl (ap (position (λ b. eqb b d)) (sym there) ∙ e)) (part_end d s from h)

  missed : (t : Bool) → cond t (Some (position_or_len (λ b. eqb b d) (drop from s))) None ≡ None → t ≡ false
  missed true e = let z : ◌≡◌ {A = ℕ} 0 1 = cc in absurd (omega arith)
  missed false e = refl

  pub none_end : position (λ b. eqb b d) (take (length s - from) (drop from s)) ≡ None → PartEnd d s from (length s)
  none_end e = subst (PartEnd d s from) (omega (
    arith,
    until-position d (drop from s),
    until-le d (drop from s),
    length-drop from s,
    ltb-false (position_or_len (λ b. eqb b d) (drop from s)) (length (drop from s))
        (missed _ (ap (position (λ b. eqb b d)) (sym there) ∙ e)),
  )) (part_end d s from h)

pub until_end : (d : ℕ) (s : List ℕ) (i : ℕ) → length s ≤ i → until d (drop i s) ≡ 0
unfolding until
until_end d s i h = ap (until d) (drop_of_length-le s h)

-- bytes are compared by `==` as `alike` compares them
pub same_bytes : (a b : List ℕ) → pointwise nat_eq a b ≡ alike a b
same_bytes [] [] = refl
same_bytes [] (y ∷ b) = refl
same_bytes (x ∷ a) [] = refl
same_bytes (x ∷ a) (y ∷ b) = ap (λ (t : Bool). nat_eq x y && t) (same_bytes a b)

pub rest_same : (s w : List ℕ) (from : ℕ) → pointwise nat_eq (take (length s - from) (drop from s)) w ≡ alike (drop from s) w
rest_same s w from = same_bytes (take (length s - from) (drop from s)) w
    ∙ ap (λ (r : List ℕ). alike r w) (take_all (length s - from) (drop from s) (omega (arith, length-drop from s)))

pub alike-not : (a b : List ℕ) → a ≢ b → alike a b ≡ false
alike-not a b n = go (alike a b) refl
  where
    go : (t : Bool) → alike a b ≡ t → t ≡ false
    go true e = absurd (n (alike-true a b e))
    go false e = refl

-- Laws of `until` and `alike`, a byte at a time, for whoever proves about them.
pub until-hit : (d : ℕ) (s : List ℕ) (i : ℕ) → i < length s → get_or s i 0 ≡ d → until d (drop i s) ≡ 0
unfolding until
until-hit d s i h e = ap (until d) (drop-cons s i 0 h) ∙ simp (eq-eqb (get_or s i 0) d e)

pub until-miss : (d : ℕ) (s : List ℕ) (i : ℕ) → i < length s → (get_or s i 0 ≡ d → ⊥) → until d (drop i s) ≡ suc (until d (drop (i + 1) s))
unfolding until
until-miss d s i h e = rw (add-one i) (ap (until d) (drop-cons s i 0 h) ∙ simp (ne_eqb (get_or s i 0) d e))

-- two texts, from o and from i on
module _ (s w : List ℕ) (o i t : ℕ) (h : o < t) (k : t ≤ length s) (l : i < length w) where
  alike_next : (b : Bool) → eqb (get_or s o 0) (get_or w i 0) ≡ b
      → alike (slice o t s) (drop i w) ≡ (b && alike (slice (o + 1) t s) (drop (i + 1) w))
  alike_next b e = ap₂ alike (slice-next s o t h k) (drop-next w i l) ∙ ap (λ (c : Bool). c && alike (slice (o + 1) t s) (drop (i + 1) w)) e

  pub alike-on : get_or s o 0 ≡ get_or w i 0 → alike (slice o t s) (drop i w) ≡ alike (slice (o + 1) t s) (drop (i + 1) w)
  alike-on e = alike_next true (eq-eqb (get_or s o 0) (get_or w i 0) e)

  pub alike-differ : (get_or s o 0 ≡ get_or w i 0 → ⊥) → alike (slice o t s) (drop i w) ≡ false
  alike-differ n = alike_next false (ne_eqb (get_or s o 0) (get_or w i 0) n)
