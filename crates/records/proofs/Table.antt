-- Laws of the table of numbers: what stands at a place of it, what its changes make, and that they are fit again.
-- Assumes nothing.
use Prim.Native.Nat.{ℕ, zero, suc, ◌+◌, ◌-◌, ◌≤◌, ◌<◌}
use native.Mathlib.Omega.{arith}
use native.Mathlib.Decide.{ℕ_discrete}
use native.Mathlib.Nat.{min-le_left}
use mathlib.Core.Path.{◌≡◌, refl, sym, ap, ap₂, ◌∙◌}
use mathlib.Core.Bool.{Bool, true, false, cond, ◌||◌}
use Rattle.std.proofs.lemmas.List.{map-append}
use mathlib.Core.List.{List, [], ◌∷◌, ◌++◌, map, append-nil, append_cancel_left}
use lib.Dec.{eqb}
use lib.ListN.{length, get_or, set, take, drop, replicate, length-append, length-take, length-set, length-map, length-replicate}
use lib.ListN.{take-append-drop, drop_of_length-le, replicate-append-replicate, get_or-eq_default}
use lib.Seq.{take_at, take_all, get_or-take, take-set-lt, drop-set-lt}
use borrow.Author.Tests.{eq-eqb, ne_eqb}
use Rattle.records.specs.declared.Resource.{Resource}
use Rattle.records.specs.declared.Numbers.{Numbers}
use Rattle.records.specs.Numbers.{free, resources, table_of, number_at, with_number, concerns, without}
use Rattle.records.specs.Inner.{Fit}

-- the blanks behind n numbers
abbrev pub behind : ℕ → List Resource
behind n = replicate (16 - n) free

-- number r stands at k; past the numbers are free ones
pub number-at : (t : Numbers) (r k : ℕ) → k ≡ r - 1 → k < t.count → get_or t.resources k free ≡ number_at (resources t) r
number-at t r k e h = sym (get_or-take t.count t.resources k free h) ∙ ap (λ (i : ℕ). get_or (resources t) i free) e

pub number_past : (t : Numbers) (r k : ℕ) → k ≡ r - 1 → t.count ≤ k → free ≡ number_at (resources t) r
number_past t r k e h =
    sym (get_or-eq_default (resources t) free {n = r - 1}
    (omega (arith, length-take t.count t.resources, min-le_left t.count (length t.resources))))

pub concerns-free : (p : ℕ) → 1 ≤ p → concerns p free ≡ false
concerns-free p h = ap (λ (b : Bool). b || b) (ne_eqb 0 p (λ e. omega arith))

-- p owns number r; nobody does where p is 0
abbrev pub owns : ℕ → Numbers → ℕ → Bool
owns p t r = eqb (number_at (resources t) r).owner p

module _ (t : Numbers) (p r : ℕ) (x : Resource) (e : x ≡ number_at (resources t) r) where
  pub owned : x.owner ≡ p → owns p t r ≡ true
  owned h = eq-eqb (number_at (resources t) r).owner p (ap (λ (z : Resource). z.owner) (sym e) ∙ h)

  pub unowned : (x.owner ≡ p → ⊥) → owns p t r ≡ false
  unowned h = ne_eqb (number_at (resources t) r).owner p (λ k. h (ap (λ (z : Resource). z.owner) e ∙ k))

-- a fit table is its numbers with blanks behind
pub fit-list : (t : Numbers) → Fit t → t.resources ≡ resources t ++ behind t.count
fit-list t F = ap (λ (u : Numbers). u.resources) F.formed

pub fit-behind : (t : Numbers) → Fit t → drop t.count t.resources ≡ behind t.count
fit-behind t F =
    append_cancel_left (resources t) (drop t.count t.resources) (behind t.count)
    (take-append-drop t.count t.resources ∙ fit-list t F)

-- as many numbers in their place make a fit table, whose numbers they are
take_exact : {A : Type 0} (n : ℕ) (xs zs : List A) → length xs ≤ n → (length xs < n → zs ≡ []) → take n (xs ++ zs) ≡ xs
take_exact n xs zs h k = go (ℕ_discrete (length xs) n)
  where
    go : Dec (length xs ≡ n) → take n (xs ++ zs) ≡ xs
    go (yes e) = take_at xs zs n e
    go (no w) = ap (λ ys. take n (xs ++ ys)) (k (omega arith)) ∙ ap (take n) (append-nil xs) ∙ take_all n xs h

behind-none : (n : ℕ) → 16 - n ≡ 0 → behind n ≡ []
behind-none n e = ap (λ (m : ℕ). replicate m free) e

module _ (t : Numbers) (xs : List Resource) (F : Fit t) (e : length xs ≡ length (resources t)) where
  pub resources-of : resources (table_of t.count xs) ≡ xs
  resources-of =
      let l = length-take t.count t.resources in
      let w = ap length (fit-list t F) ∙ length-append (resources t) (behind t.count) in
      let b = length-replicate (16 - t.count) free in
      take_exact t.count xs (behind t.count) (omega (arith, min-le_left t.count (length t.resources)))
      (λ h. behind-none t.count (omega arith))

  pub fit_of : Fit (table_of t.count xs)
  fit_of = record { most = F.most; formed = ap (table_of t.count) (sym resources-of) }

-- the same of a table made anew, and of a fresh one
pub resources-made : (n : ℕ) (xs : List Resource) → length xs ≡ n → resources (table_of n xs) ≡ xs
resources-made n xs e = take_at xs (behind n) n e

pub fresh-list : (n : ℕ) → n ≤ 16 → replicate 16 free ≡ replicate n free ++ behind n
fresh-list n h =
    let e : n + (16 - n) ≡ 16 = omega arith in
    ap (λ (m : ℕ). replicate m free) (sym e) ∙ sym (replicate-append-replicate n (16 - n) free)

-- another number in r's place
pub set-list : (t : Numbers) (i : ℕ) (x : Resource) → Fit t → i < t.count
    → set t.resources i x ≡ set (resources t) i x ++ behind t.count
set-list t i x F h =
    sym (take-append-drop t.count (set t.resources i x))
    ∙ ap (λ (ys : List Resource). ys ++ drop t.count (set t.resources i x)) (take-set-lt t.count t.resources i x h)
    ∙ ap (λ (ys : List Resource). set (resources t) i x ++ ys) (drop-set-lt t.count t.resources i x h ∙ fit-behind t F)

module _ (t : Numbers) (r o l : ℕ) (F : Fit t) where
  with-length : length (with_number r o l (resources t)) ≡ length (resources t)
  with-length = length-set (resources t) (r - 1) (record { owner = o; lock = l })

  pub resources-with : resources (table_of t.count (with_number r o l (resources t))) ≡ with_number r o l (resources t)
  resources-with = resources-of t (with_number r o l (resources t)) F with-length

  pub fit-with : Fit (table_of t.count (with_number r o l (resources t)))
  fit-with = fit_of t (with_number r o l (resources t)) F with-length

-- the first i changed
abbrev pub changed : (Resource → Resource) → ℕ → List Resource → List Resource
changed f i xs = map f (take i xs) ++ drop i xs

changed-suc : (f : Resource → Resource) (i : ℕ) (xs : List Resource)
    → set (changed f i xs) i (f (get_or (changed f i xs) i free)) ≡ changed f (suc i) xs
changed-suc f zero [] = refl
changed-suc f (suc i) [] = refl
changed-suc f zero (x ∷ xs) = refl
changed-suc f (suc i) (x ∷ xs) = ap (λ (ys : List Resource). f x ∷ ys) (changed-suc f i xs)

pub changed-next : (f : Resource → Resource) (i : ℕ) (xs ys : List Resource) (y : Resource) → ys ≡ changed f i xs → y ≡ f (get_or ys i free)
    → set ys i y ≡ changed f (i + 1) xs
changed-next f i xs ys y e g =
    ap (set ys i) g
    ∙ ap (λ (zs : List Resource). set zs i (f (get_or zs i free))) e
    ∙ changed-suc f i xs
    ∙ ap (λ (j : ℕ). changed f j xs) (let s : suc i ≡ i + 1 = omega arith in s)

-- those of the numbers changed
pub changed-all : (t : Numbers) (f : Resource → Resource) (i : ℕ) → Fit t → i ≡ t.count
    → changed f i t.resources ≡ map f (resources t) ++ behind t.count
changed-all t f i F e =
    ap (λ (j : ℕ). changed f j t.resources) e ∙ ap (λ (ys : List Resource). map f (resources t) ++ ys) (fit-behind t F)

-- all changed, the blanks too, which stay blanks
without-free : (p : ℕ) → without p free ≡ free
without-free p = go (eqb 0 p)
  where
    go : (b : Bool) → cond b free (cond b free free) ≡ free
    go true = refl
    go false = refl

without-behind : (p n : ℕ) → map (without p) (replicate n free) ≡ replicate n free
without-behind p zero = refl
without-behind p (suc n) = ap₂ (λ (x : Resource) (xs : List Resource). x ∷ xs) (without-free p) (without-behind p n)

pub changed-whole : (t : Numbers) (p i : ℕ) → Fit t → length t.resources ≤ i
    → changed (without p) i t.resources ≡ map (without p) (resources t) ++ behind t.count
changed-whole t p i F e =
    ap (λ (ys : List Resource). map (without p) (take i t.resources) ++ ys) (drop_of_length-le t.resources {i = i} e)
    ∙ append-nil (map (without p) (take i t.resources))
    ∙ ap (map (without p)) (take_all i t.resources e ∙ fit-list t F)
    ∙ map-append (without p) (resources t) (behind t.count)
    ∙ ap (λ (ys : List Resource). map (without p) (resources t) ++ ys) (without-behind p (16 - t.count))

module _ (t : Numbers) (p : ℕ) (F : Fit t) where
  pub resources-without : resources (table_of t.count (map (without p) (resources t))) ≡ map (without p) (resources t)
  resources-without = resources-of t (map (without p) (resources t)) F (length-map (resources t) (without p))

  pub fit-without : Fit (table_of t.count (map (without p) (resources t)))
  fit-without = fit_of t (map (without p) (resources t)) F (length-map (resources t) (without p))
