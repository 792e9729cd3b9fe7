-- Reading a number is exact: what is read as n is what would be written for n.
-- Assumes nothing.
use Prim.Native.Nat.{ℕ, suc, ◌+◌, ◌*◌, ◌-◌, ◌/◌, ◌%◌, ◌<◌, ◌≤◌}
use native.Mathlib.Nat.{add-zero}
use native.Mathlib.Omega.{arith}
use mathlib.Core.Path.{◌≡◌, refl, sym, ap, ap₂, ◌∙◌}
use mathlib.Core.Bool.{Bool, true, false, cond, not, ◌&&◌, ◌||◌}
use mathlib.Core.List.{List, [], ◌∷◌, ◌++◌, append_assoc, append-nil}
use mathlib.Core.Option.{none, some}
use lib.Dec.{eqb}
use lib.ListN.{length, get_or}
use borrow.Author.Tests.{eqb-false, not-true, ne_eqb}
use Rattle.lists.specs.Lists.{up_to}
use Rattle.lists.proofs.Tests.{both, otherwise, up_to-true}
use Rattle.text.specs.Text.{decimal, horner, number_of}
use Rattle.text.proofs.Laws.{ten, ten-mono, decimal-small, decimal_step}

-- a number was read: its first byte is a digit
horner-inv : (a x n : ℕ) (xs : List ℕ) → horner a (x ∷ xs) ≡ some n → (48 ≤ x) × (x ≤ 57) × (horner (a * 10 + (x - 48)) xs ≡ some n)
horner-inv a x n xs = go (up_to 48 57 x) refl
  where
    go : (t : Bool) → up_to 48 57 x ≡ t → elim t [ true ↦ horner (a * 10 + (x - 48)) xs | false ↦ none ] ≡ some n
        → (48 ≤ x) × (x ≤ 57) × (horner (a * 10 + (x - 48)) xs ≡ some n)
    go true p e = let b = up_to-true 48 57 x p in (b.0, b.1, e)
    go false p e = let z : ◌≡◌ {A = ℕ} 0 1 = cc in absurd (omega arith)

horner-le : (s : List ℕ) (a n : ℕ) → horner a s ≡ some n → a ≤ n
horner-le [] a n e = let q : a ≡ n = cc in omega arith
horner-le (x ∷ s) a n e =
    let i = horner-inv a x n s e in
    omega (arith, horner-le s (a * 10 + (x - 48)) n i.2)

horner-lt : (s : List ℕ) (k a n : ℕ) → a < ten k → horner a s ≡ some n → n < ten (k + length s)
horner-lt [] k a n h e = let q : a ≡ n = cc in rw (add-zero k) (omega arith)
horner-lt (x ∷ s) k a n h e =
    let i = horner-inv a x n s e in
    let e' : k + suc (length s) ≡ suc k + length s = omega arith in
    rw e' (horner-lt s (suc k) (a * 10 + (x - 48)) n (omega (arith, i.0, i.1)) i.2)

horner-exact : (s : List ℕ) (a n : ℕ) → 0 < a → n < ten 20 → horner a s ≡ some n → decimal a ++ s ≡ decimal n
horner-exact [] a n p b e = let q : a ≡ n = cc in append-nil (decimal a) ∙ ap decimal q
horner-exact (x ∷ s) a n p b e =
    let i = horner-inv a x n s e in
    let a' : ℕ = a * 10 + (x - 48) in
    let le : a * 10 + (x - 48) ≤ n = horner-le s (a * 10 + (x - 48)) n i.2 in
    let d : a' / 10 ≡ a = omega (arith, i.0, i.1) in
    let m : 48 + a' % 10 ≡ x = omega (arith, i.0, i.1) in
    let w : decimal a' ≡ decimal a ++ (x ∷ []) =
    decimal_step a' (omega arith) (omega arith) ∙ ap₂ (λ (q r : ℕ). decimal q ++ (r ∷ [])) d m in
    sym (append_assoc (decimal a) (x ∷ []) s) ∙ ap (λ (l : List ℕ). l ++ s) (sym w) ∙ horner-exact s a' n (omega arith) b i.2

-- what the answer says of the text
pub record Plain (most : ℕ) (s : List ℕ) (n : ℕ) : Type 0 where
  pub low : 1 ≤ length s
  pub high : length s ≤ most
  pub said : horner 0 s ≡ some n
  pub head : 1 < length s → get_or s 0 0 ≡ 48 → ⊥

pub plain : (most : ℕ) (s : List ℕ) (n : ℕ) → number_of most s ≡ some n → Plain most s n
unfolding number_of
plain most s n = go (up_to 1 most (length s) && (eqb (length s) 1 || not (eqb (get_or s 0 0) 48))) refl
  where
    go : (t : Bool) → (up_to 1 most (length s) && (eqb (length s) 1 || not (eqb (get_or s 0 0) 48))) ≡ t → cond t (horner 0 s) none ≡ some n
        → Plain most s n
    go true p e =
        let b = both (up_to 1 most (length s)) (eqb (length s) 1 || not (eqb (get_or s 0 0) 48)) p in
        let u = up_to-true 1 most (length s) b.0 in
        record {
          low = u.0;
          high = u.1;
          said = e;
          head = λ l. eqb-false (get_or s 0 0) 48 (not-true (eqb (get_or s 0 0) 48)
              (otherwise (eqb (length s) 1) (not (eqb (get_or s 0 0) 48)) b.1 (ne_eqb (length s) 1 (omega arith))));
        }
    go false p e = let z : ◌≡◌ {A = ℕ} 0 1 = cc in absurd (omega arith)

is-end : (a n : ℕ) → horner a [] ≡ some n → a ≡ n
is-end a n e = cc

-- only n's own decimal digits are read as n
pub number_of-exact : (most : ℕ) (s : List ℕ) (n : ℕ) → most ≤ 20 → number_of most s ≡ some n → (s ≡ decimal n) × (n < ten most)
number_of-exact most s n k e = (text s (plain most s n e), small)
  where
    small : n < ten most
    small =
        let i = plain most s n e in
        omega (arith, horner-lt s 0 0 n (omega arith) i.said, ten-mono (0 + length s) most (omega (arith, i.high)))

    text : (s : List ℕ) → Plain most s n → s ≡ decimal n
    text [] i = absurd (omega (arith, i.low))
    text (x ∷ []) i =
        let j = horner-inv 0 x n [] i.said in
        let q : 0 * 10 + (x - 48) ≡ n = is-end (0 * 10 + (x - 48)) n j.2 in
        sym (decimal-small n (omega (arith, j.0, j.1)) ∙ ap (λ (k : ℕ). k ∷ []) (omega (arith, j.0, j.1)))
    text (x ∷ y ∷ ys) i =
        let j = horner-inv 0 x n (y ∷ ys) i.said in
        let a : ℕ = 0 * 10 + (x - 48) in
        let ne : x ≡ 48 → ⊥ = i.head (omega arith) in
        let d : decimal a ≡ x ∷ [] = decimal-small a (omega (arith, j.0, j.1)) ∙ ap (λ (k : ℕ). k ∷ []) (omega (arith, j.0, j.1)) in
        ap (λ (l : List ℕ). l ++ (y ∷ ys)) (sym d)
        ∙ horner-exact (y ∷ ys) a n (omega (arith, j.0, ne)) (omega (arith, small, ten-mono most 20 k)) j.2
