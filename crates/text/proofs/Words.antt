-- Laws of a word that a text begins with, and of a line that a text begins with.
-- Assumes nothing.
use Prim.Native.Nat.{ℕ, ◌+◌, ◌-◌, ◌≤◌, ◌<◌}
use native.Mathlib.Omega.{arith}
use mathlib.Core.Path.{◌≡◌, refl, sym, ap, ap₂, subst, ◌∙◌}
use mathlib.Core.Bool.{Bool, true, false, cond, not}
use mathlib.Core.List.{List, [], ◌∷◌, ◌++◌}
use mathlib.Core.Option.{Option, none, some}
use lib.Dec.{eqb}
use lib.ListN.{length, take, drop, length-take, take-append-drop, get_or}
use lib.Seq.{slice, take_at, drop-drop, length-slice}
use borrow.Author.Tests.{eq-eqb, eqb-true, not-true, ne_eqb}
use Rattle.lists.specs.Lists.{every}
use Rattle.lists.proofs.Tests.{both}
use Rattle.std.specs.Prelude.{Some, None}
use Rattle.std.specs.Cmp.Lexicographic.{same_text, other_text}
use Rattle.std.proofs.Common.{nat_eq}
use lib.Pointwise.{pointwise}
use Rattle.text.specs.Text.{on_first, parts, behind}
use Rattle.text.specs.Inner.{Behind, BehindAt}
use Rattle.text.proofs.Fields.{drop-take, drop-next, slice-next}

-- the next byte of both
abbrev next : List ℕ → List ℕ → Bool → Option (List ℕ)
next ws cs b = elim b [ true ↦ behind ws cs | false ↦ none ]

behind-next : (w c : ℕ) (ws cs : List ℕ) (b : Bool) → eqb w c ≡ b → behind (w ∷ ws) (c ∷ cs) ≡ next ws cs b
unfolding behind
behind-next w c ws cs b e = ap (next ws cs) e

-- a word stands before what is behind it, and only there
pub behind-append : (w v : List ℕ) → behind w (w ++ v) ≡ some v
unfolding behind
behind-append [] v = refl
behind-append (x ∷ w) v = behind-next x x w (w ++ v) true (eq-eqb x x refl) ∙ behind-append w v

pub behind-exact : (w s v : List ℕ) → behind w s ≡ some v → s ≡ w ++ v
unfolding behind
behind-exact [] s v e = cc
behind-exact (x ∷ w) [] v e = let z : ◌≡◌ {A = ℕ} 0 1 = cc in absurd (omega arith)
behind-exact (x ∷ w) (c ∷ s) v e = go (eqb x c) refl e (behind-exact w s v)
  where
    go : (b : Bool) → eqb x c ≡ b → next w s b ≡ some v → (behind w s ≡ some v → s ≡ w ++ v) → c ∷ s ≡ x ∷ (w ++ v)
    go true t h ih = ap₂ ◌∷◌ (sym (eqb-true x c t)) (ih h)
    go false t h ih = let z : ◌≡◌ {A = ℕ} 0 1 = cc in absurd (omega arith)

-- a text begins with a word, or nothing stands behind it
pub behind-begins : (w s : List ℕ) → true ≡ pointwise nat_eq w (take (length w) s) → behind w s ≡ some (drop (length w) s)
behind-begins w s e =
    let b : w ≡ take (length w) s = same_text w (take (length w) s) e in
    ap (behind w) (sym (ap (λ (l : List ℕ). l ++ drop (length w) s) b ∙ take-append-drop (length w) s))
    ∙ behind-append w (drop (length w) s)

pub behind-none : (w s : List ℕ) → false ≡ pointwise nat_eq w (take (length w) s) → behind w s ≡ none
behind-none w s e = go (behind w s) refl
  where
    go : (o : Option (List ℕ)) → behind w s ≡ o → o ≡ none
    go none h = refl
    go (some v) h = absurd (other_text w (take (length w) s) e
        (sym (ap (take (length w)) (behind-exact w s v h) ∙ take_at w v (length w) refl)))

-- what is told
module _ {w s : List ℕ} {from to : ℕ} where
  pub behind-at : {i : ℕ} → BehindAt w s from to i → Behind w s from to (Some i)
  behind-at {i} h = record {
    at = λ j e. let q : i ≡ j = cc in subst (BehindAt w s from to) q h;
    not = λ e. let z : ◌≡◌ {A = ℕ} 0 1 = cc in absurd (omega arith);
  }

  pub behind-not : behind w (slice from to s) ≡ none → Behind w s from to None
  behind-not h = record { at = λ j e. let z : ◌≡◌ {A = ℕ} 0 1 = cc in absurd (omega arith); not = λ e. h }

-- what `starts_with` tells of a part of a text
module _ (w s : List ℕ) (from to : ℕ) (h : from ≤ to) where
  part : take (to - from) (drop from s) ≡ slice from to s
  part =
      let e : from + (to - from) ≡ to = omega arith in
      sym (drop-take from (to - from) s) ∙ ap (λ (k : ℕ). slice from k s) e

  pub begins : to ≤ length s → true ≡ pointwise nat_eq w (take (length w) (take (to - from) (drop from s)))
      → Behind w s from to (Some (from + length w))
  begins k e =
      let b : w ≡ take (length w) (slice from to s) = same_text w (take (length w) (slice from to s)) (rw part at e) in
      behind-at (record {
        place = refl;
        high = omega (arith, ap length b, length-take (length w) (slice from to s), length-slice from to s k);
        rest = behind-begins w (slice from to s) (rw part at e) ∙ ap some (drop-drop (length w) from (take to s)
            ∙ ap (λ (n : ℕ). slice n to s) (omega arith));
      })

  pub begins_not : false ≡ pointwise nat_eq w (take (length w) (take (to - from) (drop from s))) → Behind w s from to None
  begins_not e = behind-not (behind-none w (slice from to s) (rw part at e))

-- a text whose first part is l, which has no d
pub parts-line : (d : ℕ) (l r : List ℕ) → every (λ c. not (eqb c d)) l ≡ true → parts d (l ++ (d ∷ r)) ≡ l ∷ parts d r
unfolding parts
parts-line d [] r e = ap (λ (b : Bool). cond b ([] ∷ parts d r) (on_first d (parts d r))) (eq-eqb d d refl)
parts-line d (x ∷ l) r e =
    let b = both (not (eqb x d)) (every (λ c. not (eqb c d)) l) e in
    ap (λ (t : Bool). cond t ([] ∷ parts d (l ++ (d ∷ r))) (on_first x (parts d (l ++ (d ∷ r))))) (not-true (eqb x d) b.0)
    ∙ ap (on_first x) (parts-line d l r b.1)

pub parts_last : (d : ℕ) (l : List ℕ) → every (λ c. not (eqb c d)) l ≡ true → parts d l ≡ l ∷ []
unfolding parts
parts_last d [] e = refl
parts_last d (x ∷ l) e =
    let b = both (not (eqb x d)) (every (λ c. not (eqb c d)) l) e in
    ap (λ (t : Bool). cond t ([] ∷ parts d l) (on_first x (parts d l))) (not-true (eqb x d) b.0)
    ∙ ap (on_first x) (parts_last d l b.1)

-- Laws of `behind`, a byte at a time, for whoever proves about it.
pub behind-short : (w s : List ℕ) → length s < length w → behind w s ≡ none
unfolding behind
behind-short [] s h = absurd (omega arith)
behind-short (x ∷ w) [] h = refl
behind-short (x ∷ w) (c ∷ s) h = go (eqb x c) (behind-short w s (omega arith))
  where
    go : (b : Bool) → behind w s ≡ none → next w s b ≡ none
    go true ih = ih
    go false ih = refl

pub behind-nothing : (w s : List ℕ) → w ≡ [] → behind w s ≡ some s
unfolding behind
behind-nothing w s e = ap (λ (x : List ℕ). behind x s) e

-- the word from i on, and the text from o on
module _ (s w : List ℕ) (o i t : ℕ) (h : o < t) (k : t ≤ length s) (l : i < length w) where
  both-next : (b : Bool) → eqb (get_or w i 0) (get_or s o 0) ≡ b
      → behind (drop i w) (slice o t s) ≡ next (drop (i + 1) w) (slice (o + 1) t s) b
  both-next b e =
      ap₂ behind (drop-next w i l) (slice-next s o t h k)
      ∙ behind-next (get_or w i 0) (get_or s o 0) (drop (i + 1) w) (slice (o + 1) t s) b e

  pub behind-on : get_or s o 0 ≡ get_or w i 0 → behind (drop i w) (slice o t s) ≡ behind (drop (i + 1) w) (slice (o + 1) t s)
  behind-on e = both-next true (eq-eqb (get_or w i 0) (get_or s o 0) (sym e))

  pub behind-differ : (get_or s o 0 ≡ get_or w i 0 → ⊥) → behind (drop i w) (slice o t s) ≡ none
  behind-differ n = both-next false (ne_eqb (get_or w i 0) (get_or s o 0) (λ e. n (sym e)))
