-- Laws of a name without its blanks: its bytes, stored over five blanks, are the name padded, and no blank is among them.
-- Assumes nothing.
use Prim.Native.Nat.{ℕ, zero, suc, ◌-◌, ◌<◌, ◌+◌, ◌≤◌}
use native.Mathlib.Omega.{arith}
use mathlib.Core.Path.{◌≡◌, refl, sym, ap, ap₂, ◌∙◌}
use mathlib.Core.Bool.{Bool, true, false, cond, not, ◌&&◌, ◌||◌}
use mathlib.Core.List.{List, [], ◌∷◌, ◌++◌}
use mathlib.Core.Option.{none, some}
use lib.ListN.{length, get_or, drop, replicate, length-append, length-replicate, set, length-set}
use borrow.Author.Tests.{ne_eqb, eq-eqb}
use Rattle.std.specs.List.{list_any}
use Rattle.lists.specs.Lists.{every}
use Rattle.records.specs.Names.{letter, blank, rest, legal, padded, name_of}
use native.Mathlib.Numerals.{add-one}
use lib.Seq.{sets, sets-eq, slice, slice-cons, slice_empty, length-slice}

abbrev plain : List ℕ → Bool
plain f = every (λ c. not (blank c)) f

-- five bytes
pub five : (l : List ℕ) → length l ≡ 5 → l ≡ get_or l 0 0 ∷ get_or l 1 0 ∷ get_or l 2 0 ∷ get_or l 3 0 ∷ get_or l 4 0 ∷ []
five [] h = absurd (omega arith)
five (a ∷ []) h = absurd (omega arith)
five (a ∷ b ∷ []) h = absurd (omega arith)
five (a ∷ b ∷ c ∷ []) h = absurd (omega arith)
five (a ∷ b ∷ c ∷ d ∷ []) h = absurd (omega arith)
five (a ∷ b ∷ c ∷ d ∷ e ∷ []) h = refl
five (a ∷ b ∷ c ∷ d ∷ e ∷ f ∷ l) h = absurd (omega arith)

-- the bytes with the rest of five blanks behind them
blanks-left : (n m : ℕ) → drop m (replicate {A = ℕ} n 32) ≡ replicate (n - m) 32
blanks-left n zero = let e : n ≡ n - 0 = omega arith in ap (λ (k : ℕ). replicate k 32) e
blanks-left zero (suc m) = let e : 0 ≡ 0 - suc m = omega arith in ap (λ (k : ℕ). replicate k 32) e
blanks-left (suc n) (suc m) = let e : n - m ≡ suc n - suc m = omega arith in blanks-left n m ∙ ap (λ (k : ℕ). replicate k 32) e

abbrev pub over_blanks : List ℕ → List ℕ
over_blanks f = f ++ drop (length f) (replicate 5 32)

padded-over : (f : List ℕ) → over_blanks f ≡ padded f
padded-over f = ap (λ (l : List ℕ). f ++ l) (blanks-left 5 (length f))

-- no blank stands among them
plain-any : (f : List ℕ) → plain f ≡ not (list_any blank f)
plain-any [] = refl
plain-any (x ∷ xs) = go (blank x) (plain-any xs)
  where
    go : (b : Bool) → plain xs ≡ not (list_any blank xs) → (not b && plain xs) ≡ not (b || list_any blank xs)
    go true e = refl
    go false e = e

-- what is no name
legal-length : (l : List ℕ) → (length l ≡ 5 → ⊥) → legal l ≡ false
legal-length [] n = refl
legal-length (c ∷ cs) n = ap (λ (b : Bool). letter c && rest cs && b) (ne_eqb (length cs) 4 (λ e. n (omega arith)))
    ∙ go (letter c) (rest cs)
  where
    go : (a b : Bool) → (a && b && false) ≡ false
    go true true = refl
    go true false = refl
    go false b = refl

name_by : (f : List ℕ) (a b : Bool) → legal (padded f) ≡ a → plain f ≡ b → name_of f ≡ cond (a && b) (some (padded f)) none
unfolding name_of
name_by f a b h k = ap₂ (λ (x y : Bool). cond (x && y) (some (padded f)) none) h k

pub name-long : (f : List ℕ) → 5 < length f → name_of f ≡ none
name-long f h = name_by f false (plain f) (legal-length (padded f)
    (λ e. omega (arith, length-append f (replicate (5 - length f) 32), length-replicate {A = ℕ} (5 - length f) 32))) refl

pub name-blank : (f : List ℕ) → list_any blank f ≡ true → name_of f ≡ none
name-blank f h = name_by f (legal (padded f)) false refl (plain-any f ∙ ap not h) ∙ go (legal (padded f))
  where
    go : (a : Bool) → cond (a && false) (some (padded f)) none ≡ none
    go true = refl
    go false = refl

pub name-bytes : (f : List ℕ) (b : Bool) → list_any blank f ≡ false → legal (over_blanks f) ≡ b → name_of f ≡ cond b (some (over_blanks f)) none
name-bytes f b h l =
    name_by f b true (ap legal (sym (padded-over f)) ∙ l) (plain-any f ∙ ap not h)
    ∙ ap₂ (λ (t : Bool) (p : List ℕ). cond t (some p) none) (and-true b) (sym (padded-over f))
  where
    and-true : (a : Bool) → (a && true) ≡ a
    and-true true = refl
    and-true false = refl

-- Laws of a name whose bytes are stored one by one, for whoever proves about it.
-- the next byte of a part, and a part that is over
slice-next : (l : List ℕ) (i t : ℕ) → i < t → t ≤ length l → slice i t l ≡ get_or l i 0 ∷ slice (i + 1) t l
slice-next l i t h k = rw (add-one i) (slice-cons i t l 0 h k)

slice-none : (l : List ℕ) (i t : ℕ) → i ≡ t → slice i t l ≡ []
slice-none l i t e = rw e (slice_empty t l)

stored : (f : List ℕ) → length f ≤ 5 → sets (replicate 5 32) 0 f ≡ padded f
stored f h =
    let e : 0 + length f ≡ length f = omega arith in
    sets-eq f (replicate 5 32) 0 (omega arith) ∙ ap (λ (n : ℕ). f ++ drop n (replicate 5 32)) e
    ∙ ap (λ (l : List ℕ). f ++ l) (blanks-left 5 (length f))

-- the loop that stores: what is left, stored over the name, gives what the whole does over blanks
pub record Filling (s : List ℕ) (at end : ℕ) (name : List ℕ) (i : ℕ) : Type 0 where
  pub low : at ≤ i
  pub high : i ≤ end
  pub whole : sets name (i - at) (slice i end s) ≡ sets (replicate 5 32) 0 (slice at end s)
  pub plainly : plain (slice at end s) ≡ plain (slice i end s)
  pub long : length name ≡ 5

pub filling-start : {s : List ℕ} {at end : ℕ} → at ≤ end → Filling s at end (replicate 5 32) at
filling-start {s} {at} {end} h =
    let e : at - at ≡ 0 = omega arith in
    record { low = omega arith; high = h; whole = ap (λ (k : ℕ). sets (replicate 5 32) k (slice at end s)) e; plainly = refl; long = refl }

module _ {s : List ℕ} {at end : ℕ} {name : List ℕ} {i : ℕ} (h : Filling s at end name i) (fits : end ≤ length s) where
  plain-next : (t : Bool) → i < end → blank (get_or s i 0) ≡ t → plain (slice at end s) ≡ (not t && plain (slice (i + 1) end s))
  plain-next t m e = h.plainly ∙ ap plain (slice-next s i end m fits) ∙ ap (λ (b : Bool). not b && plain (slice (i + 1) end s)) e

  pub filling-turn : i < end → (get_or s i 0 ≡ 32 → ⊥) → Filling s at end (set name (i - at) (get_or s i 0)) (i + 1)
  filling-turn m n =
      let e : i + 1 - at ≡ suc (i - at) = omega arith in
      record {
        low = omega arith;
        high = omega arith;
        whole = ap (λ (k : ℕ). sets (set name (i - at) (get_or s i 0)) k (slice (i + 1) end s)) e
            ∙ ap (sets name (i - at)) (sym (slice-next s i end m fits)) ∙ h.whole;
        plainly = plain-next false m (ne_eqb (get_or s i 0) 32 n);
        long = length-set name (i - at) (get_or s i 0) ∙ h.long;
      }

  pub filling-blank : i < end → get_or s i 0 ≡ 32 → name_of (slice at end s) ≡ none
  filling-blank m e = name_by (slice at end s) (legal (padded (slice at end s))) false refl (plain-next true m (eq-eqb (get_or s i 0) 32 e))
      ∙ go (legal (padded (slice at end s)))
    where
      go : (a : Bool) → cond (a && false) (some (padded (slice at end s))) none ≡ none
      go true = refl
      go false = refl

  -- all bytes are stored
  module _ (all : end ≤ i) (few : end - at ≤ 5) where
    filled : name ≡ padded (slice at end s)
    filled =
        ap (sets name (i - at)) (sym (slice-none s i end (omega arith))) ∙ h.whole
        ∙ stored (slice at end s) (omega (arith, length-slice at end s fits))

    pub filled-not : legal name ≡ false → name_of (slice at end s) ≡ none
    filled-not e = name_by (slice at end s) false (plain (slice at end s)) (ap legal (sym filled) ∙ e) refl

    pub filled_is : legal name ≡ true
        → name_of (slice at end s) ≡ some (get_or name 0 0 ∷ get_or name 1 0 ∷ get_or name 2 0 ∷ get_or name 3 0 ∷ get_or name 4 0 ∷ [])
    filled_is e =
        name_by (slice at end s) true true (ap legal (sym filled) ∙ e) (h.plainly ∙ ap plain (slice-none s i end (omega arith)))
        ∙ ap some (sym filled ∙ five name h.long)
