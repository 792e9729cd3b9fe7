-- Tests and what they say: conjunctions, implications, a test of every number of a list, the equality of two lists.
-- Assumes nothing.
use Prim.Native.Nat.{ℕ, zero, suc, ◌+◌, ◌≤◌, ◌<◌}
use native.Mathlib.Omega.{arith}
use mathlib.Core.Path.{◌≡◌, refl, sym, ap, ap₂, ◌∙◌}
use mathlib.Core.Bool.{Bool, true, false, not, ◌&&◌, ◌||◌}
use mathlib.Core.List.{List, [], ◌∷◌}
use lib.ListN.{get_or}
use lib.Dec.{leb, eqb}
use borrow.Author.Tests.{eq-eqb, eqb-true, leb-true, le-leb}
use Rattle.lists.specs.Lists.{count, every, along, up_to, alike}
use Rattle.lists.proofs.Laws.{same_refl, among}

pub false-true : {A : Type 0} → false ≡ true → A
false-true e = absurd (let z : ◌≡◌ {A = ℕ} 0 1 = cc in omega arith)

-- a test does not both pass and fail
pub clash : {A : Type 0} {t : Bool} → t ≡ true → t ≡ false → A
clash h k = false-true (sym k ∙ h)

-- both
pub both : (a b : Bool) → (a && b) ≡ true → (a ≡ true) × (b ≡ true)
both true b e = (refl, e)
both false b e = false-true e

pub and : {a b : Bool} → a ≡ true → b ≡ true → (a && b) ≡ true
and h k = ap₂ ◌&&◌ h k

pub not-both : (a b : Bool) → b ≡ false → (a && b) ≡ false
not-both true b e = e
not-both false b e = refl

-- the one unless the other
pub unless : (a b : Bool) → (not a || b) ≡ true → a ≡ true → b ≡ true
unless true b e h = e
unless false b e h = false-true h

pub implies : (a b : Bool) → (a ≡ true → b ≡ true) → (not a || b) ≡ true
implies true b f = f refl
implies false b f = refl

pub otherwise : (a b : Bool) → (a || b) ≡ true → a ≡ false → b ≡ true
otherwise true b e h = false-true (sym h)
otherwise false b e h = e

pub or : (a b : Bool) → (a ≡ false → b ≡ true) → (a || b) ≡ true
or true b f = refl
or false b f = f refl

-- every number of a list
pub every_in : (f : ℕ → Bool) (c : List ℕ) → every f c ≡ true → (x : ℕ) → 1 ≤ count x c → f x ≡ true
every_in f [] e x h = absurd (omega arith)
every_in f (q ∷ qs) e x h =
    let b = both (f q) (every f qs) e in
    among (λ y. f y ≡ true) q x qs b.0 (every_in f qs b.1 x) h

pub every-is : (f : ℕ → Bool) (c : List ℕ) → ((x : ℕ) → 1 ≤ count x c → f x ≡ true) → every f c ≡ true
every-is f [] h = refl
every-is f (q ∷ qs) h = and (h q (omega (arith, same_refl q))) (every-is f qs (λ x k. h x (omega arith)))

-- n places from i on
pub along-in : {A : Type 0} (d : A) (f : ℕ → A → Bool) (i n : ℕ) (xs : List A) → along d f i n xs ≡ true → (k : ℕ) → k < n
    → f (k + i) (get_or xs k d) ≡ true
along-in d f i zero xs e k h = absurd (omega arith)
along-in d f i (suc n) [] e zero h = ap (λ (x : ℕ). f x d) (omega arith) ∙ (both (f i d) (along d f (suc i) n []) e).0
along-in d f i (suc n) [] e (suc k) h =
    ap (λ (x : ℕ). f x d) (omega arith) ∙ along-in d f (suc i) n [] (both (f i d) (along d f (suc i) n []) e).1 k (omega arith)
along-in d f i (suc n) (x ∷ xs) e zero h = ap (λ (y : ℕ). f y x) (omega arith) ∙ (both (f i x) (along d f (suc i) n xs) e).0
along-in d f i (suc n) (x ∷ xs) e (suc k) h =
    ap (λ (y : ℕ). f y (get_or xs k d)) (omega arith)
    ∙ along-in d f (suc i) n xs (both (f i x) (along d f (suc i) n xs) e).1 k (omega arith)

pub along-is : {A : Type 0} (d : A) (f : ℕ → A → Bool) (i n : ℕ) (xs : List A) → ((k : ℕ) → k < n → f (k + i) (get_or xs k d) ≡ true)
    → along d f i n xs ≡ true
along-is d f i zero xs h = refl
along-is d f i (suc n) [] h =
    and (ap (λ (x : ℕ). f x d) (omega arith) ∙ h 0 (omega arith))
    (along-is d f (suc i) n [] (λ k l. ap (λ (x : ℕ). f x d) (omega arith) ∙ h (suc k) (omega arith)))
along-is d f i (suc n) (x ∷ xs) h =
    and (ap (λ (y : ℕ). f y x) (omega arith) ∙ h 0 (omega arith))
    (along-is d f (suc i) n xs (λ k l. ap (λ (y : ℕ). f y (get_or xs k d)) (omega arith) ∙ h (suc k) (omega arith)))

-- from low to high
pub up_to-true : (l h n : ℕ) → up_to l h n ≡ true → (l ≤ n) × (n ≤ h)
up_to-true l h n e = let b = both (leb l n) (leb n h) e in (leb-true l n b.0, leb-true n h b.1)

pub up_to-is : (l h n : ℕ) → l ≤ n → n ≤ h → up_to l h n ≡ true
up_to-is l h n a b = and (le-leb l n a) (le-leb n h b)

-- two lists
pub alike-true : (xs ys : List ℕ) → alike xs ys ≡ true → xs ≡ ys
alike-true [] [] e = refl
alike-true [] (y ∷ ys) e = false-true e
alike-true (x ∷ xs) [] e = false-true e
alike-true (x ∷ xs) (y ∷ ys) e =
    let b = both (eqb x y) (alike xs ys) e in
    ap₂ ◌∷◌ (eqb-true x y b.0) (alike-true xs ys b.1)

pub alike_refl : (xs : List ℕ) → alike xs xs ≡ true
alike_refl [] = refl
alike_refl (x ∷ xs) = and (eq-eqb x x refl) (alike_refl xs)

pub alike_is : (xs ys : List ℕ) → xs ≡ ys → alike xs ys ≡ true
alike_is xs ys e = rw e (alike_refl ys)
