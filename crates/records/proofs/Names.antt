-- Laws of names, byte by byte: what a test of the next byte leaves of the question.
-- Assumes nothing.
use Prim.Native.Nat.{ℕ, suc, ◌+◌, ◌<◌, ◌≤◌}
use native.Mathlib.Omega.{arith}
use native.Mathlib.Numerals.{add-one}
use mathlib.Core.Path.{◌≡◌, refl, ap, ap₂, ◌∙◌, sym}
use mathlib.Core.Bool.{Bool, true, false, cond, ◌&&◌, ◌||◌}
use mathlib.Core.List.{List, [], ◌∷◌}
use lib.Dec.{eqb}
use lib.ListN.{length, get_or, drop, drop_of_length-le}
use lib.Seq.{drop-cons}
use borrow.Author.Tests.{eq-eqb, ne_eqb}
use Rattle.std.specs.List.{list_all, prefix_len}
use Rattle.lists.specs.Lists.{every, alike}
use Rattle.lists.proofs.Tests.{false-true}
use Rattle.records.specs.Names.{letter, digit, blank, rest, legal}

-- the next byte and the others
next : (xs : List ℕ) (i : ℕ) → i < length xs → drop i xs ≡ get_or xs i 0 ∷ drop (i + 1) xs
next xs i h = rw (add-one, drop-cons xs i 0)

and-true : (b : Bool) → (b && true) ≡ b
and-true true = refl
and-true false = refl

or-false : (b : Bool) → (b || false) ≡ b
or-false true = refl
or-false false = refl

-- blanks to the end
every-all : (f : ℕ → Bool) (xs : List ℕ) → every f xs ≡ list_all f xs
every-all f [] = refl
every-all f (x ∷ xs) = ap (λ (b : Bool). f x && b) (every-all f xs)

-- letters or digits, then blanks
not-blank : (x : ℕ) → (letter x || digit x) ≡ true → blank x ≡ false
not-blank x h = ne_eqb x 32 (λ e. false-true (rw e at h))

-- what stands behind the letters and digits is blank
pub rest-all : (xs : List ℕ) → rest xs ≡ list_all blank (drop (prefix_len (λ c. letter c || digit c) xs) xs)
rest-all [] = refl
rest-all (x ∷ xs) = go (letter x || digit x) refl (rest-all xs)
  where
    go : (b : Bool) → (letter x || digit x) ≡ b → rest xs ≡ list_all blank (drop (prefix_len (λ c. letter c || digit c) xs) xs)
        → ((b && rest xs) || (blank x && every blank xs)) ≡ list_all blank (drop (cond b (1 + prefix_len (λ c. letter c || digit c) xs) 0) (x ∷ xs))
    go true e r = ap (λ (b : Bool). rest xs || (b && every blank xs)) (not-blank x e) ∙ or-false (rest xs) ∙ r
        ∙ ap (λ (n : ℕ). list_all blank (drop n (x ∷ xs)))
        (let e : suc (prefix_len (λ c. letter c || digit c) xs) ≡ 1 + prefix_len (λ c. letter c || digit c) xs = omega arith in e)
    go false e r = ap (λ (b : Bool). blank x && b) (every-all blank xs)

-- a name of five bytes
pub legal-rest : (xs : List ℕ) → length xs ≡ 5 → letter (get_or xs 0 0) ≡ true → legal xs ≡ rest (drop 1 xs)
legal-rest [] l e = absurd (omega arith)
legal-rest (x ∷ xs) l e =
    ap₂ (λ (a b : Bool). a && rest xs && b) e (eq-eqb (length xs) 4 (omega arith)) ∙ and-true (rest xs)

pub legal-no : (xs : List ℕ) → letter (get_or xs 0 0) ≡ false → legal xs ≡ false
legal-no [] e = refl
legal-no (x ∷ xs) e = ap (λ (a : Bool). a && rest xs && eqb (length xs) 4) e

-- Laws of blanks, of what may stand behind a letter, and of two names, a byte at a time, for whoever proves about them.
-- blanks to the end
pub blank-on : (xs : List ℕ) (i : ℕ) → i < length xs → get_or xs i 0 ≡ 32 → every blank (drop i xs) ≡ every blank (drop (i + 1) xs)
blank-on xs i h e = ap (every blank) (next xs i h) ∙ ap (λ (b : Bool). b && every blank (drop (i + 1) xs)) (eq-eqb (get_or xs i 0) 32 e)

pub blank-no : (xs : List ℕ) (i : ℕ) → i < length xs → (get_or xs i 0 ≡ 32 → ⊥) → every blank (drop i xs) ≡ false
blank-no xs i h e = ap (every blank) (next xs i h) ∙ ap (λ (b : Bool). b && every blank (drop (i + 1) xs)) (ne_eqb (get_or xs i 0) 32 e)

pub blank-end : (xs : List ℕ) (i : ℕ) → length xs ≤ i → every blank (drop i xs) ≡ true
blank-end xs i h = ap (every blank) (drop_of_length-le xs {i = i} h)

rest-cons : (x : ℕ) (xs : List ℕ) → (letter x || digit x) ≡ true → rest (x ∷ xs) ≡ rest xs
rest-cons x xs h =
    ap₂ (λ (s b : Bool). (s && rest xs) || (b && every blank xs)) h (not-blank x h) ∙ or-false (rest xs)

pub rest-on : (xs : List ℕ) (i : ℕ) → i < length xs → (letter (get_or xs i 0) || digit (get_or xs i 0)) ≡ true
    → rest (drop i xs) ≡ rest (drop (i + 1) xs)
rest-on xs i h e = ap rest (next xs i h) ∙ rest-cons (get_or xs i 0) (drop (i + 1) xs) e

pub rest-blank : (xs : List ℕ) (i : ℕ) → i < length xs → (letter (get_or xs i 0) || digit (get_or xs i 0)) ≡ false
    → rest (drop i xs) ≡ every blank (drop i xs)
rest-blank xs i h e =
    ap rest (next xs i h)
    ∙ ap (λ (s : Bool). (s && rest (drop (i + 1) xs)) || every blank (get_or xs i 0 ∷ drop (i + 1) xs)) e
    ∙ ap (every blank) (sym (next xs i h))

pub rest_end : (xs : List ℕ) (i : ℕ) → length xs ≤ i → rest (drop i xs) ≡ true
rest_end xs i h = ap rest (drop_of_length-le xs {i = i} h)

-- two names
module _ (xs ys : List ℕ) (i : ℕ) (h : i < length xs) (k : i < length ys) where
  both-next : alike (drop i xs) (drop i ys) ≡ (eqb (get_or xs i 0) (get_or ys i 0) && alike (drop (i + 1) xs) (drop (i + 1) ys))
  both-next = ap₂ alike (next xs i h) (next ys i k)

  pub alike-on : get_or xs i 0 ≡ get_or ys i 0 → alike (drop i xs) (drop i ys) ≡ alike (drop (i + 1) xs) (drop (i + 1) ys)
  alike-on e = both-next ∙ ap (λ (b : Bool). b && alike (drop (i + 1) xs) (drop (i + 1) ys)) (eq-eqb (get_or xs i 0) (get_or ys i 0) e)

  pub alike-no : (get_or xs i 0 ≡ get_or ys i 0 → ⊥) → alike (drop i xs) (drop i ys) ≡ false
  alike-no e = both-next ∙ ap (λ (b : Bool). b && alike (drop (i + 1) xs) (drop (i + 1) ys)) (ne_eqb (get_or xs i 0) (get_or ys i 0) e)

pub alike_end : (xs ys : List ℕ) (i : ℕ) → length xs ≤ i → length ys ≤ i → alike (drop i xs) (drop i ys) ≡ true
alike_end xs ys i h k = ap₂ alike (drop_of_length-le xs {i = i} h) (drop_of_length-le ys {i = i} k)
