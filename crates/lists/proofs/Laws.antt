-- Laws of counts, of lists in order, of what passes a test. A number's place in a list is taken by how often it stands
-- there, so that nearly all is arithmetic.
-- Assumes nothing.
use Prim.Native.Nat.{ℕ, zero, suc, ◌+◌, ◌-◌, ◌≤◌, ◌<◌}
use native.Mathlib.Omega.{arith}
use native.Mathlib.Decide.{ℕ_discrete, dec_le}
use mathlib.Core.Path.{◌≡◌, refl, sym, ap, ◌∙◌}
use mathlib.Core.Logic.{◌≢◌}
use mathlib.Core.Bool.{Bool, true, false, cond}
use mathlib.Core.List.{List, [], ◌∷◌, ◌++◌}
use lib.Dec.{leb, eqb}
use borrow.Author.Tests.{eq-eqb, ne_eqb, eqb-true, eqb-false}
use Rattle.lists.specs.Lists.{hit, same, count, keep, first, from, insert, remove, Ascending}

pub same_refl : (i : ℕ) → same i i ≡ 1
unfolding same
same_refl i = ap hit (eq-eqb i i refl)

pub same-ne : (i j : ℕ) → i ≢ j → same i j ≡ 0
unfolding same
same-ne i j h = ap hit (ne_eqb i j h)

pub same-le : (i j : ℕ) → same i j ≤ 1
unfolding same
same-le i j = go (eqb i j)
  where
    go : (b : Bool) → hit b ≤ 1
    go true = omega arith
    go false = omega arith

pub same-eq : (i j : ℕ) → 1 ≤ same i j → i ≡ j
same-eq i j h = go (ℕ_discrete i j)
  where
    go : Dec (i ≡ j) → i ≡ j
    go (yes e) = e
    go (no n) = absurd (omega (arith, same-ne i j n))

-- counts
pub count-cond : (b : Bool) (x n : ℕ) (c d : List ℕ) → count x c ≡ n → count x d ≡ n → count x (cond b c d) ≡ n
count-cond true x n c d h k = h
count-cond false x n c d h k = k

pub count-insert : (pr : ℕ → ℕ) (x p : ℕ) (c : List ℕ) → count x (insert pr p c) ≡ same x p + count x c
count-insert pr x p [] = refl
count-insert pr x p (q ∷ qs) =
    count-cond (leb (pr q) (pr p)) x (same x p + count x (q ∷ qs)) (q ∷ insert pr p qs) (p ∷ q ∷ qs)
    (omega (arith, count-insert pr x p qs)) refl

remove-step : (b : Bool) (x p q : ℕ) (qs : List ℕ) → eqb q p ≡ b → (1 ≤ count p qs → count x (remove p qs) + same x p ≡ count x qs)
    → 1 ≤ count p (q ∷ qs) → count x (cond b qs (q ∷ remove p qs)) + same x p ≡ count x (q ∷ qs)
remove-step true x p q qs t ih h = rw (eqb-true q p t) (omega arith)
remove-step false x p q qs t ih h = omega (arith, ih (omega (arith, same-ne p q (λ e. eqb-false q p t (sym e)))))

pub count-remove : (x p : ℕ) (c : List ℕ) → 1 ≤ count p c → count x (remove p c) + same x p ≡ count x c
count-remove x p [] h = omega arith
count-remove x p (q ∷ qs) h = remove-step (eqb q p) x p q qs refl (count-remove x p qs) h

pub count-remove-le : (r p : ℕ) (c : List ℕ) → count r (remove p c) ≤ count r c
count-remove-le r p [] = omega arith
count-remove-le r p (q ∷ qs) = go (eqb q p) (count-remove-le r p qs)
  where
    go : (b : Bool) → count r (remove p qs) ≤ count r qs → count r (cond b qs (q ∷ remove p qs)) ≤ count r (q ∷ qs)
    go true h = omega arith
    go false h = omega arith

keep-step : (b : Bool) (f : ℕ → Bool) (x q n : ℕ) (qs : List ℕ) → f q ≡ b → count x (keep f qs) ≡ cond (f x) n 0 → count x qs ≡ n
    → count x (cond b (q ∷ keep f qs) (keep f qs)) ≡ cond (f x) (same x q + n) 0
keep-step b f x q n qs t ih e = go b (f x) (ℕ_discrete x q) t refl ih
  where
    go : (b c : Bool) → Dec (x ≡ q) → f q ≡ b → f x ≡ c → count x (keep f qs) ≡ cond c n 0
        → count x (cond b (q ∷ keep f qs) (keep f qs)) ≡ cond c (same x q + n) 0
    go true true d t u ih = omega arith
    go false false d t u ih = ih
    go true false (yes w) t u ih = let z : true ≡ false = sym t ∙ ap f (sym w) ∙ u in let o : ◌≡◌ {A = ℕ} 0 1 = cc in omega arith
    go true false (no w) t u ih = omega (arith, same-ne x q w)
    go false true (yes w) t u ih = let z : false ≡ true = sym t ∙ ap f (sym w) ∙ u in let o : ◌≡◌ {A = ℕ} 0 1 = cc in omega arith
    go false true (no w) t u ih = omega (arith, same-ne x q w)

zero-cond : (b : Bool) → 0 ≡ cond {A = ℕ} b 0 0
zero-cond true = refl
zero-cond false = refl

pub count-keep : (f : ℕ → Bool) (x : ℕ) (c : List ℕ) → count x (keep f c) ≡ cond (f x) (count x c) 0
count-keep f x [] = zero-cond (f x)
count-keep f x (q ∷ qs) = keep-step (f q) f x q (count x qs) qs refl (count-keep f x qs) refl

pub count-from-out : (x p n : ℕ) → (p ≤ x → p + n ≤ x) → count x (from p n) ≡ 0
count-from-out x p zero h = refl
count-from-out x p (suc n) h =
    omega (arith, same-ne x p (λ e. omega (arith, h (omega arith))), count-from-out x (suc p) n (λ l. omega (arith, h (omega arith))))

pub count-from : (x p n : ℕ) → p ≤ x → x < p + n → count x (from p n) ≡ 1
count-from x p zero h k = absurd (omega arith)
count-from x p (suc n) h k = go (ℕ_discrete x p) (count-from x (suc p) n)
  where
    go : Dec (x ≡ p) → (suc p ≤ x → x < suc p + n → count x (from (suc p) n) ≡ 1) → same x p + count x (from (suc p) n) ≡ 1
    go (yes e) ih = omega (arith, same_refl x, ap (same x) e, count-from-out x (suc p) n (λ l. absurd (omega arith)))
    go (no w) ih = omega (arith, same-ne x p w, ih (omega arith) (omega arith))

-- r among q ∷ qs is q or among qs
pub among : (P : ℕ → Type 0) (q r : ℕ) (qs : List ℕ) → P q → (1 ≤ count r qs → P r) → 1 ≤ count r (q ∷ qs) → P r
among P q r qs here there h = go (ℕ_discrete r q)
  where
    go : Dec (r ≡ q) → P r
    go (yes e) = rw e here
    go (no n) = there (omega (arith, same-ne r q n))

pub ascending-map : (R S : ℕ → ℕ → Type 0) (c : List ℕ) → ((x y : ℕ) → 1 ≤ count x c → 1 ≤ count y c → R x y → S x y) → Ascending R c
    → Ascending S c
ascending-map R S [] f A = tt
ascending-map R S (q ∷ qs) f A = (
  λ r h. f q r (omega (arith, same_refl q)) (omega arith) (A.0 r h),
  ascending-map R S qs (λ x y h k. f x y (omega arith) (omega arith)) A.1,
)

pub remove-ascending : (R : ℕ → ℕ → Type 0) (p : ℕ) (c : List ℕ) → Ascending R c → Ascending R (remove p c)
remove-ascending R p [] S = tt
remove-ascending R p (q ∷ qs) S = go (eqb q p) (remove-ascending R p qs S.1)
  where
    go : (b : Bool) → Ascending R (remove p qs) → Ascending R (cond b qs (q ∷ remove p qs))
    go true h = S.1
    go false h = (λ r k. S.0 r (omega (arith, count-remove-le r p qs)), h)

-- two ascending lists of the same members are one
module _ (R : ℕ → ℕ → Type 0) (asym : (x y : ℕ) → R x y → R y x → ⊥) where
  same_head : (x y : ℕ) (xs ys : List ℕ) → Ascending R (x ∷ xs) → Ascending R (y ∷ ys)
      → ((z : ℕ) → count z (x ∷ xs) ≡ count z (y ∷ ys)) → x ≡ y
  same_head x y xs ys S T e = go (ℕ_discrete x y)
    where
      go : Dec (x ≡ y) → x ≡ y
      go (yes w) = w
      go (no n) = absurd (asym x y
          (S.0 y (omega (arith, e y, same_refl y, same-ne y x (λ w. n (sym w)))))
          (T.0 x (omega (arith, e x, same_refl x, same-ne x y n))))

  pub ascending-unique : (c d : List ℕ) → Ascending R c → Ascending R d → ((z : ℕ) → count z c ≡ count z d) → c ≡ d
  ascending-unique [] [] S T e = refl
  ascending-unique [] (y ∷ ys) S T e = absurd (omega (arith, e y, same_refl y))
  ascending-unique (x ∷ xs) [] S T e = absurd (omega (arith, e x, same_refl x))
  ascending-unique (x ∷ xs) (y ∷ ys) S T e =
      let h : x ≡ y = same_head x y xs ys S T e in
      let t : xs ≡ ys = ascending-unique xs ys S.1 T.1 (λ z. omega (arith, e z, ap (same z) h)) in
      cc

pub keep-in : (f : ℕ → Bool) (x : ℕ) (c : List ℕ) → 1 ≤ count x (keep f c) → (f x ≡ true) × (1 ≤ count x c)
keep-in f x c h = go (f x) refl (count-keep f x c)
  where
    go : (b : Bool) → f x ≡ b → count x (keep f c) ≡ cond b (count x c) 0 → (f x ≡ true) × (1 ≤ count x c)
    go true e k = (e, omega arith)
    go false e k = absurd (omega arith)

pub keep-le : (f : ℕ → Bool) (x : ℕ) (c : List ℕ) → count x (keep f c) ≤ count x c
keep-le f x c = go (f x) (count-keep f x c)
  where
    go : (b : Bool) → count x (keep f c) ≡ cond b (count x c) 0 → count x (keep f c) ≤ count x c
    go true k = omega arith
    go false k = omega arith

pub from_in : (x p n : ℕ) → 1 ≤ count x (from p n) → (p ≤ x) × (x < p + n)
from_in x p n h = go (dec_le p x) (dec_le (suc x) (p + n))
  where
    go : Dec (p ≤ x) → Dec (x < p + n) → (p ≤ x) × (x < p + n)
    go (yes a) (yes b) = (a, b)
    go (no a) d = absurd (omega (arith, count-from-out x p n (λ k. absurd (a k))))
    go (yes a) (no b) = absurd (omega (arith, count-from-out x p n (λ k. omega (arith, b))))

pub from-once : (x p n : ℕ) → count x (from p n) ≤ 1
from-once x p n = go (dec_le p x) (dec_le (suc x) (p + n))
  where
    go : Dec (p ≤ x) → Dec (x < p + n) → count x (from p n) ≤ 1
    go (yes a) (yes b) = omega (arith, count-from x p n a b)
    go (no a) d = omega (arith, count-from-out x p n (λ k. absurd (a k)))
    go (yes a) (no b) = omega (arith, count-from-out x p n (λ k. omega (arith, b)))

pub first-in : (f : ℕ → Bool) (c : List ℕ) → 1 ≤ first f c → 1 ≤ count (first f c) c
first-in f [] h = absurd (omega arith)
first-in f (q ∷ qs) h = go (f q) (first-in f qs) h
  where
    go : (b : Bool) → (1 ≤ first f qs → 1 ≤ count (first f qs) qs) → 1 ≤ cond b q (first f qs) → 1 ≤ count (cond b q (first f qs)) (q ∷ qs)
    go true ih k = omega (arith, same_refl q)
    go false ih k = omega (arith, ih k)

pub first-true : (f : ℕ → Bool) (c : List ℕ) → 1 ≤ first f c → f (first f c) ≡ true
first-true f [] h = absurd (omega arith)
first-true f (q ∷ qs) h = go (f q) refl (first-true f qs) h
  where
    go : (b : Bool) → f q ≡ b → (1 ≤ first f qs → f (first f qs) ≡ true) → 1 ≤ cond b q (first f qs) → f (cond b q (first f qs)) ≡ true
    go true e ih k = e
    go false e ih k = ih k

-- where there is no first none passes; 0, which stands for none, may not be listed itself
pub first-none : (f : ℕ → Bool) (c : List ℕ) (x : ℕ) → count 0 c ≡ 0 → first f c ≡ 0 → 1 ≤ count x c → f x ≡ false
first-none f [] x z e h = absurd (omega arith)
first-none f (q ∷ qs) x z e h = go (f q) refl (first-none f qs x (omega arith)) e
  where
    go : (b : Bool) → f q ≡ b → (first f qs ≡ 0 → 1 ≤ count x qs → f x ≡ false) → cond b q (first f qs) ≡ 0 → f x ≡ false
    go true w ih k = absurd (omega (arith, ap (same 0) k, same_refl 0))
    go false w ih k = among (λ y. f y ≡ false) q x qs w (ih k) h

-- what is not there cannot be taken out
pub remove_absent : (p : ℕ) (c : List ℕ) → count p c ≡ 0 → remove p c ≡ c
remove_absent p [] h = refl
remove_absent p (q ∷ qs) h =
    rw (ne_eqb q p (λ e. omega (arith, same_refl p, ap (same p) e)))
    (ap (λ (x : List ℕ). q ∷ x) (remove_absent p qs (omega arith)))

pub count-append : (x : ℕ) (c d : List ℕ) → count x (c ++ d) ≡ count x c + count x d
count-append x [] d = omega arith
count-append x (q ∷ qs) d = omega (arith, count-append x qs d)
