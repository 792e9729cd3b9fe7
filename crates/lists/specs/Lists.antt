-- Lists, as the definitions of the other crates use them: how often a number stands in
-- one, those that pass a test, the first that does. Nothing of the outline stands here.
-- Assumes nothing.
use Rattle.std.specs.Prelude.{ℕ, zero, suc, ◌+◌, ◌≤◌, Bool, true, false, cond, ◌&&◌, ◌||◌, List, [], ◌∷◌, ◌++◌, leb, eqb}

abbrev pub hit : Bool → ℕ
hit true = 1
hit false = 0

-- 1 where the two are the same, and 0 where not
unfoldable pub same : ℕ → ℕ → ℕ
same i j = hit (eqb i j)

-- how often p stands in a list
abbrev pub count : ℕ → List ℕ → ℕ
count p [] = 0
count p (q ∷ qs) = same p q + count p qs

-- numbers added up
abbrev pub sum : List ℕ → ℕ
sum [] = 0
sum (n ∷ ns) = n + sum ns

-- those that pass a test; the first of them, or 0
abbrev pub keep : (ℕ → Bool) → List ℕ → List ℕ
keep f [] = []
keep f (q ∷ qs) = cond (f q) (q ∷ keep f qs) (keep f qs)

abbrev pub first : (ℕ → Bool) → List ℕ → ℕ
first f [] = 0
first f (q ∷ qs) = cond (f q) q (first f qs)

-- all pass a test; one does
abbrev pub every : (ℕ → Bool) → List ℕ → Bool
every f [] = true
every f (q ∷ qs) = f q && every f qs

abbrev pub any : (ℕ → Bool) → List ℕ → Bool
any f [] = false
any f (q ∷ qs) = f q || any f qs

-- a test of n places and what stands at each, from place i on; d is what stands past the end
abbrev pub along : {A : Type 0} → A → (ℕ → A → Bool) → ℕ → ℕ → List A → Bool
along d f i zero xs = true
along d f i (suc n) [] = f i d && along d f (suc i) n []
along d f i (suc n) (x ∷ xs) = f i x && along d f (suc i) n xs

-- n numbers from p up
abbrev pub from : ℕ → ℕ → List ℕ
from p zero = []
from p (suc n) = p ∷ from (suc p) n

-- low ≤ n ≤ high
abbrev pub up_to : ℕ → ℕ → ℕ → Bool
up_to low high n = leb low n && leb n high

-- two lists of numbers are one
abbrev pub alike : List ℕ → List ℕ → Bool
alike [] [] = true
alike [] (y ∷ ys) = false
alike (x ∷ xs) [] = false
alike (x ∷ xs) (y ∷ ys) = eqb x y && alike xs ys

-- lists one after the other
abbrev pub join : {A : Type 0} → List (List A) → List A
join [] = []
join (x ∷ xs) = x ++ join xs

-- p goes behind all those that a test puts before it; and behind those of a lower number and its equals
abbrev pub insert_by : (ℕ → ℕ → Bool) → ℕ → List ℕ → List ℕ
insert_by t p [] = p ∷ []
insert_by t p (q ∷ qs) = cond (t q p) (q ∷ insert_by t p qs) (p ∷ q ∷ qs)

abbrev pub insert : (ℕ → ℕ) → ℕ → List ℕ → List ℕ
insert pr p c = insert_by (λ q r. leb (pr q) (pr r)) p c

abbrev pub remove : ℕ → List ℕ → List ℕ
remove p [] = []
remove p (q ∷ qs) = cond (eqb q p) qs (q ∷ remove p qs)

-- each comes before all that stand behind it
abbrev pub Ascending : (ℕ → ℕ → Type 0) → List ℕ → Type 0
Ascending R [] = Unit {0}
Ascending R (q ∷ qs) = ((r : ℕ) → 1 ≤ count r qs → R q r) × Ascending R qs
