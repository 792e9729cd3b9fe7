-- Laws of the lines with a key: one by one, and of lines behind others.
-- Assumes nothing.
use Prim.Native.Nat.{ℕ, zero, suc, ◌+◌, ◌-◌, ◌<◌}
use native.Mathlib.Omega.{arith}
use mathlib.Core.Path.{◌≡◌, refl, ap, ◌∙◌}
use mathlib.Core.Bool.{Bool, true, false, cond}
use mathlib.Core.List.{List, [], ◌∷◌, ◌++◌}
use mathlib.Core.Option.{none, some}
use lib.ListN.{length, get_elem?, length-append}
use Rattle.transcripts.specs.Transcripts.{Line, has_key, with_key}
use Rattle.transcripts.specs.Inner.{occurrences, behind_others}

module _ (k : List ℕ) (x : Line) (xs : List Line) where
  with-miss : has_key k x.bytes ≡ false → with_key k (x ∷ xs) ≡ with_key k xs
  with-miss e = ap (λ (b : Bool). cond b (x ∷ with_key k xs) (with_key k xs)) e

  with-hit : has_key k x.bytes ≡ true → with_key k (x ∷ xs) ≡ x ∷ with_key k xs
  with-hit e = ap (λ (b : Bool). cond b (x ∷ with_key k xs) (with_key k xs)) e

  pub behind-miss : (n : ℕ) → has_key k x.bytes ≡ false → behind_others k n (x ∷ xs) ≡ behind_others k n xs
  unfolding behind_others
  behind-miss n e = ap (λ (zs : List Line). get_elem? zs n) (with-miss e)

  pub behind-hit : has_key k x.bytes ≡ true → behind_others k 0 (x ∷ xs) ≡ some x
  unfolding behind_others
  behind-hit e = ap (λ (zs : List Line). get_elem? zs 0) (with-hit e)

  pub behind_more : (n : ℕ) → has_key k x.bytes ≡ true → 0 < n → behind_others k n (x ∷ xs) ≡ behind_others k (n - 1) xs
  unfolding behind_others
  behind_more n e h = ap (λ (zs : List Line). get_elem? zs n) (with-hit e) ∙ past n h
    where
      past : (m : ℕ) → 0 < m → get_elem? (x ∷ with_key k xs) m ≡ get_elem? (with_key k xs) (m - 1)
      past zero l = absurd (omega arith)
      past (suc m) l = let one : m ≡ suc m - 1 = omega arith in ap (λ (i : ℕ). get_elem? (with_key k xs) i) one

  pub count-miss : has_key k x.bytes ≡ false → occurrences k (x ∷ xs) ≡ occurrences k xs
  unfolding occurrences
  count-miss e = ap length (with-miss e)

  pub count-hit : has_key k x.bytes ≡ true → occurrences k (x ∷ xs) ≡ suc (occurrences k xs)
  unfolding occurrences
  count-hit e = ap length (with-hit e)

pub behind-none : (k : List ℕ) (n : ℕ) → behind_others k n [] ≡ none
unfolding behind_others
behind-none k n = refl

pub count_none : (k : List ℕ) → occurrences k [] ≡ 0
unfolding occurrences
count_none k = refl

with_append : (k : List ℕ) (xs ys : List Line) → with_key k (xs ++ ys) ≡ with_key k xs ++ with_key k ys
with_append k [] ys = refl
with_append k (x ∷ xs) ys = go (has_key k x.bytes) (with_append k xs ys)
  where
    go : (b : Bool) → with_key k (xs ++ ys) ≡ with_key k xs ++ with_key k ys
        → cond b (x ∷ with_key k (xs ++ ys)) (with_key k (xs ++ ys)) ≡ cond b (x ∷ with_key k xs) (with_key k xs) ++ with_key k ys
    go true e = ap (λ (zs : List Line). x ∷ zs) e
    go false e = e

pub count-append : (k : List ℕ) (xs ys : List Line) → occurrences k (xs ++ ys) ≡ occurrences k xs + occurrences k ys
unfolding occurrences
count-append k xs ys = ap length (with_append k xs ys) ∙ length-append (with_key k xs) (with_key k ys)

skip-append : (n : ℕ) (xs ys : List Line) → get_elem? (xs ++ ys) (length xs + n) ≡ get_elem? ys n
skip-append n [] ys = let e : 0 + n ≡ n = omega arith in ap (λ (i : ℕ). get_elem? ys i) e
skip-append n (x ∷ xs) ys =
    let e : suc (length xs) + n ≡ suc (length xs + n) = omega arith in
    ap (λ (i : ℕ). get_elem? (x ∷ (xs ++ ys)) i) e ∙ skip-append n xs ys

-- behind as many as the first lines have, the line is one of the others
pub behind-append : (k : List ℕ) (n : ℕ) (xs ys : List Line) → behind_others k (occurrences k xs + n) (xs ++ ys) ≡ behind_others k n ys
unfolding behind_others occurrences
behind-append k n xs ys =
    ap ((λ (zs : List Line). get_elem? zs (length (with_key k xs) + n))) (with_append k xs ys) ∙ skip-append n (with_key k xs) (with_key k ys)
