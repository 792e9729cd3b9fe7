-- The pieces of a text between its bytes d, where the pieces have none.
-- Assumes nothing.
use Prim.Native.Nat.{ℕ, zero, suc, ◌+◌, ◌%◌, ◌/◌, ◌≤◌, ◌<◌}
use native.Mathlib.Omega.{arith}
use mathlib.Core.Path.{◌≡◌, refl, ap, ◌∙◌}
use mathlib.Core.Logic.{◌≢◌}
use mathlib.Core.Bool.{Bool, true, false, cond}
use mathlib.Core.List.{List, [], ◌∷◌, ◌++◌}
use lib.Dec.{ltb}
use borrow.Author.Tests.{eq-eqb, ne_eqb, ltb-true, ltb-false}
use Rattle.lists.specs.Lists.{same, count}
use Rattle.lists.proofs.Laws.{same_refl, same-ne, count-append}
use Rattle.text.specs.Text.{digits, decimal, on_first, parts, between}
use Rattle.text.proofs.Laws.{digits-small, digits_step}

-- a byte that a text has not
pub not_first : (d x : ℕ) (xs : List ℕ) → count d (x ∷ xs) ≡ 0 → x ≢ d
not_first d x xs h e = omega (arith, same_refl d, ap (same d) e)

pub parts_at : (d : ℕ) (s t : List ℕ) → count d s ≡ 0 → parts d (s ++ (d ∷ t)) ≡ s ∷ parts d t
unfolding parts
parts_at d [] t h = ap (λ (b : Bool). cond b ([] ∷ parts d t) (on_first d (parts d t))) (eq-eqb d d refl)
parts_at d (x ∷ s) t h =
    ap (λ (b : Bool). cond b ([] ∷ parts d (s ++ (d ∷ t))) (on_first x (parts d (s ++ (d ∷ t))))) (ne_eqb x d (not_first d x s h))
    ∙ ap (on_first x) (parts_at d s t (omega arith))

pub parts_last : (d : ℕ) (s : List ℕ) → count d s ≡ 0 → parts d s ≡ s ∷ []
unfolding parts
parts_last d [] h = refl
parts_last d (x ∷ s) h =
    ap (λ (b : Bool). cond b ([] ∷ parts d s) (on_first x (parts d s))) (ne_eqb x d (not_first d x s h))
    ∙ ap (on_first x) (parts_last d s (omega arith))

-- a number's digits
digits-only : (c f n : ℕ) → (48 ≤ c → 57 < c) → count c (digits f n) ≡ 0
unfolding digits
digits-only c zero n h = refl
digits-only c (suc f) n h = go (ltb n 10) refl (digits-only c f (n / 10) h)
  where
    go : (t : Bool) → ltb n 10 ≡ t → count c (digits f (n / 10)) ≡ 0 → count c (digits (suc f) n) ≡ 0
    go true e ih =
        let l : n < 10 = ltb-true n 10 e in
        rw (digits-small f n l) (omega (arith, same-ne c (48 + n) (λ w. omega (arith, h (omega arith)))))
    go false e ih =
        rw (digits_step f n (ltb-false n 10 e), count-append c (digits f (n / 10)) ((48 + n % 10) ∷ []))
        (omega (arith, same-ne c (48 + n % 10) (λ w. omega (arith, h (omega arith)))))

pub decimal-only : (c n : ℕ) → (48 ≤ c → 57 < c) → count c (decimal n) ≡ 0
unfolding decimal
decimal-only c n h = digits-only c 20 n h

-- a key, `=` and a value without a byte 10
pub clean_line : (key v : List ℕ) → count 10 key ≡ 0 → count 10 v ≡ 0 → count 10 (key ++ (61 ∷ v)) ≡ 0
unfolding same
clean_line key v h k = omega (arith, count-append 10 key (61 ∷ v))

-- texts with a byte between each two
abbrev pub Without : ℕ → List (List ℕ) → Type 0
Without d [] = Unit {0}
Without d (x ∷ xs) = (count d x ≡ 0) × Without d xs

pub between-parts : (d : ℕ) (x : List ℕ) (xs : List (List ℕ)) → Without d (x ∷ xs) → parts d (between d (x ∷ xs)) ≡ x ∷ xs
between-parts d x [] w = parts_last d x w.0
between-parts d x (y ∷ ys) w =
    parts_at d x (between d (y ∷ ys)) w.0 ∙ ap (λ (r : List (List ℕ)). x ∷ r) (between-parts d y ys w.1)
