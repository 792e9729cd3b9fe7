-- Laws of reading a number: one digit more, the answers, and that what was written is read back.
-- Assumes nothing.
use Prim.Native.Nat.{ℕ, zero, suc, ◌+◌, ◌*◌, ◌-◌, ◌/◌, ◌%◌, ◌<◌, ◌≤◌}
use native.Mathlib.Omega.{arith}
use mathlib.Core.Path.{◌≡◌, refl, sym, ap, ap₂, ◌∙◌}
use mathlib.Core.Bool.{Bool, true, false, cond, not, ◌&&◌, ◌||◌}
use mathlib.Core.List.{List, [], ◌∷◌, ◌++◌, append_assoc, append-nil}
use mathlib.Core.Option.{Option, none, some}
use lib.Dec.{leb, ltb, eqb}
use lib.ListN.{length, get_or, get_or-append}
use lib.Seq.{slice, slice_empty}
use borrow.Author.Tests.{ltb-true, ltb-false, lt-leb, eqb-false, eq-eqb, ne_eqb}
use Rattle.lists.specs.Lists.{up_to}
use Rattle.lists.proofs.Tests.{and, or, not-both, up_to-is}
use Rattle.text.specs.Text.{digits, decimal, horner, number_of}
use Rattle.text.proofs.Laws.{ten, digits-small, digits_step, digits-pos, decimal-small, decimal-length, decimal-pos, ten-mono}
use Rattle.text.proofs.Fields.{slice-next, slice-split}

pub up_to-under : (l h n : ℕ) → n < l → up_to l h n ≡ false
up_to-under l h n k = ap (λ (t : Bool). t && leb n h) (lt-leb l n k)

pub up_to-over : (l h n : ℕ) → h < n → up_to l h n ≡ false
up_to-over l h n k = not-both (leb l n) (leb n h) (lt-leb n h k)

-- the next byte
abbrev turn : ℕ → ℕ → List ℕ → Bool → Option ℕ
turn a x xs t = elim t [ true ↦ horner (a * 10 + (x - 48)) xs | false ↦ none ]

horner-digit : (a x : ℕ) (xs : List ℕ) → 48 ≤ x → x ≤ 57 → horner a (x ∷ xs) ≡ horner (a * 10 + (x - 48)) xs
horner-digit a x xs l h = ap (turn a x xs) (up_to-is 48 57 x l h)

-- digits that were read, and what stands behind them
horner-append : (xs ys : List ℕ) (a b : ℕ) → horner a xs ≡ some b → horner a (xs ++ ys) ≡ horner b ys
horner-append [] ys a b e = let q : a ≡ b = cc in ap (λ (k : ℕ). horner k ys) q
horner-append (x ∷ xs) ys a b e = go (up_to 48 57 x) e (horner-append xs ys (a * 10 + (x - 48)) b)
  where
    go : (t : Bool) → turn a x xs t ≡ some b
        → (horner (a * 10 + (x - 48)) xs ≡ some b → horner (a * 10 + (x - 48)) (xs ++ ys) ≡ horner b ys)
        → turn a x (xs ++ ys) t ≡ horner b ys
    go true h ih = ih h
    go false h ih = let z : ◌≡◌ {A = ℕ} 0 1 = cc in absurd (omega arith)

-- what stands before i was read as a; at i stands one digit more, or a byte that is none
module _ (s : List ℕ) (from i a : ℕ) (l : from ≤ i) (e : horner 0 (slice from i s) ≡ some a) where
  horner-at : (t : ℕ) → i < t → t ≤ length s → horner 0 (slice from t s) ≡ horner a (get_or s i 0 ∷ slice (i + 1) t s)
  horner-at t h k =
      ap (horner 0) (slice-split s from i t l (omega arith) k)
      ∙ horner-append (slice from i s) (slice i t s) 0 a e
      ∙ ap (horner a) (slice-next s i t h k)

  pub horner-more : i < length s → 48 ≤ get_or s i 0 → get_or s i 0 ≤ 57
      → horner 0 (slice from (i + 1) s) ≡ some (a * 10 + (get_or s i 0 - 48))
  horner-more k b c =
      horner-at (i + 1) (omega arith) (omega arith)
      ∙ horner-digit a (get_or s i 0) (slice (i + 1) (i + 1) s) b c
      ∙ ap (horner (a * 10 + (get_or s i 0 - 48))) (slice_empty (i + 1) s)

  pub horner-stop : (t : ℕ) → i < t → t ≤ length s → up_to 48 57 (get_or s i 0) ≡ false → horner 0 (slice from t s) ≡ none
  horner-stop t h k n = horner-at t h k ∙ ap (turn a (get_or s i 0) (slice (i + 1) t s)) n

-- the answers
abbrev shown : ℕ → List ℕ → Bool
shown most s = up_to 1 most (length s) && (eqb (length s) 1 || not (eqb (get_or s 0 0) 48))

answer : (most : ℕ) (s : List ℕ) (t : Bool) → shown most s ≡ t → number_of most s ≡ cond t (horner 0 s) none
unfolding number_of
answer most s t e = ap (λ (u : Bool). cond u (horner 0 s) none) e

pub number_of-none : (most : ℕ) (s : List ℕ) → length s ≡ 0 → number_of most s ≡ none
number_of-none most s e = answer most s false
    (ap (λ (t : Bool). t && (eqb (length s) 1 || not (eqb (get_or s 0 0) 48))) (up_to-under 1 most (length s) (omega arith)))

pub number_of-long : (most : ℕ) (s : List ℕ) → most < length s → number_of most s ≡ none
number_of-long most s h =
    answer most s false (ap (λ (t : Bool). t && (eqb (length s) 1 || not (eqb (get_or s 0 0) 48))) (up_to-over 1 most (length s) h))

pub number_of-zero : (most : ℕ) (s : List ℕ) → 1 < length s → get_or s 0 0 ≡ 48 → number_of most s ≡ none
number_of-zero most s h e =
    answer most s false (not-both (up_to 1 most (length s)) (eqb (length s) 1 || not (eqb (get_or s 0 0) 48))
    (ap₂ (λ (t u : Bool). t || not u) (ne_eqb (length s) 1 (omega arith)) (eq-eqb (get_or s 0 0) 48 e)))

-- a text of 1 to `most` bytes that is one byte long or does not begin with 0
pub number_of-plain : (most : ℕ) (s : List ℕ) → 0 < length s → length s ≤ most → (1 < length s → get_or s 0 0 ≡ 48 → ⊥)
    → number_of most s ≡ horner 0 s
number_of-plain most s a b n =
    answer most s true (and (up_to-is 1 most (length s) a b)
    (or (eqb (length s) 1) (not (eqb (get_or s 0 0) 48)) (λ e. ap not (ne_eqb (get_or s 0 0) 48 (n (long e))))))
  where
    long : eqb (length s) 1 ≡ false → 1 < length s
    long e = omega (arith, eqb-false (length s) 1 e)

-- what was written is read back: n's digits, read after nothing, are n
horner-small : (f n : ℕ) (rest : List ℕ) → n < 10 → horner 0 (digits (suc f) n ++ rest) ≡ horner n rest
horner-small f n rest h =
    ap (λ (l : List ℕ). horner 0 (l ++ rest)) (digits-small f n h)
    ∙ horner-digit 0 (48 + n) rest (omega arith) (omega arith)
    ∙ ap (λ (k : ℕ). horner k rest) (omega arith)

horner-step : (f n : ℕ) (rest : List ℕ) → 10 ≤ n
    → ((r : List ℕ) → horner 0 (digits f (n / 10) ++ r) ≡ horner (n / 10) r) → horner 0 (digits (suc f) n ++ rest) ≡ horner n rest
horner-step f n rest h ih =
    ap (λ (l : List ℕ). horner 0 (l ++ rest)) (digits_step f n h)
    ∙ ap (horner 0) (append_assoc (digits f (n / 10)) ((48 + n % 10) ∷ []) rest)
    ∙ ih ((48 + n % 10) ∷ rest)
    ∙ horner-digit (n / 10) (48 + n % 10) rest (omega arith) (omega arith)
    ∙ ap (λ (k : ℕ). horner k rest) (omega arith)

pub horner-digits : (f n : ℕ) (rest : List ℕ) → n < ten (suc f) → horner 0 (digits (suc f) n ++ rest) ≡ horner n rest
horner-digits zero n rest h = horner-small zero n rest h
horner-digits (suc f) n rest h = go (ltb n 10) refl (λ r. horner-digits f (n / 10) r (omega arith))
  where
    go : (t : Bool) → ltb n 10 ≡ t → ((r : List ℕ) → horner 0 (digits (suc f) (n / 10) ++ r) ≡ horner (n / 10) r)
        → horner 0 (digits (suc (suc f)) n ++ rest) ≡ horner n rest
    go true e ih = horner-small (suc f) n rest (ltb-true n 10 e)
    go false e ih = horner-step (suc f) n rest (ltb-false n 10 e) ih

-- the first digit is not 0, unless n is
pub digits-head : (f n : ℕ) → 0 < n → n < ten (suc f) → 48 < get_or (digits (suc f) n) 0 0
digits-head zero n p h = rw (digits-small zero n h) (omega arith)
digits-head (suc f) n p h = go (ltb n 10) refl (λ q. digits-head f (n / 10) q (omega arith))
  where
    go : (t : Bool) → ltb n 10 ≡ t → (0 < n / 10 → 48 < get_or (digits (suc f) (n / 10)) 0 0) → 48 < get_or (digits (suc (suc f)) n) 0 0
    go true e ih = rw (digits-small (suc f) n (ltb-true n 10 e)) (omega arith)
    go false e ih =
        let b : 10 ≤ n = ltb-false n 10 e in
        rw (digits_step (suc f) n b, get_or-append (digits (suc f) (n / 10)) ((48 + n % 10) ∷ []) 0 0 (digits-pos f (n / 10)))
        (ih (omega arith))

pub decimal-head : (n : ℕ) → 0 < n → n < ten 20 → 48 < get_or (decimal n) 0 0
unfolding decimal
decimal-head n p h = digits-head 19 n p h

pub horner-decimal : (n : ℕ) → n < ten 20 → horner 0 (decimal n) ≡ some n
unfolding decimal
horner-decimal n h = ap (horner 0) (sym (append-nil (digits 20 n))) ∙ horner-digits 19 n [] h

pub number_of-decimal : (f n : ℕ) → suc f ≤ 20 → n < ten (suc f) → number_of (suc f) (decimal n) ≡ some n
number_of-decimal f n k h =
    let b : n < ten 20 = omega (arith, ten-mono (suc f) 20 k) in
    number_of-plain (suc f) (decimal n) (decimal-pos n) (decimal-length f n h) (go (ltb n 10) refl b) ∙ horner-decimal n b
  where
    go : (t : Bool) → ltb n 10 ≡ t → n < ten 20 → 1 < length (decimal n) → get_or (decimal n) 0 0 ≡ 48 → ⊥
    go true e b l z = omega (arith, ap length (decimal-small n (ltb-true n 10 e)))
    go false e b l z = omega (arith, decimal-head n (omega (arith, ltb-false n 10 e)) b)
