-- What links say of the chains that they lay out. They say just those chains, and links that say the same are the same; a chain has at most
-- 32 programs, since each stands in it at most once, so that the walk finds its end.
-- Assumes nothing.
use Prim.Native.Nat.{ℕ, zero, suc, ◌+◌, ◌-◌, ◌≤◌, ◌<◌}
use native.Mathlib.Omega.{arith}
use native.Mathlib.Decide.{ℕ_discrete, dec_lt}
use mathlib.Core.Path.{◌≡◌, refl, sym, ap, ◌∙◌}
use mathlib.Core.Logic.{◌≢◌}
use mathlib.Core.List.{List, [], ◌∷◌}
use lib.ListN.{length, get_or}
use lib.Seq.{ext_get_or}
use borrow.Author.Tests.{eq-eqb, ne_eqb}
use Rattle.lists.specs.Lists.{same, count}
use Rattle.lists.proofs.Laws.{same_refl}
use Rattle.chains.specs.Links.{walk, rows, read, Leads, total}
use Rattle.chains.specs.Inner.{Laid}
use Rattle.chains.proofs.Slots.{inner-count, chain-at}
use Rattle.chains.proofs.Totals.{total-in, total-some}

-- a chain's length: a list of numbers from 1 to n, each at most once, has at most n
below : ℕ → List ℕ → ℕ
below zero c = 0
below (suc n) c = count n c + below n c

below-mono : (n q : ℕ) (c : List ℕ) → below n c ≤ below n (q ∷ c)
unfolding below
below-mono zero q c = omega arith
below-mono (suc n) q c = omega (arith, below-mono n q c)

below_more : (n q : ℕ) (c : List ℕ) → q < n → below n c + 1 ≤ below n (q ∷ c)
unfolding below
below_more zero q c h = omega arith
below_more (suc n) q c h = go (ℕ_discrete n q) (below_more n q c)
  where
    go : Dec (n ≡ q) → (q < n → below n c + 1 ≤ below n (q ∷ c)) → below (suc n) c + 1 ≤ below (suc n) (q ∷ c)
    go (yes e) ih = let one : same n q ≡ 1 = rw e (same_refl q) in omega (arith, below-mono n q c)
    go (no z) ih = omega (arith, ih (omega arith))

below-few : (n : ℕ) (c : List ℕ) → ((p : ℕ) → count p c ≤ 1) → count 0 c ≡ 0 → below (suc n) c ≤ n
unfolding below
below-few zero c h z = omega arith
below-few (suc n) c h z = omega (arith, below-few n c h z, h (suc n))

length-below : (n : ℕ) (c : List ℕ) → ((p : ℕ) → 1 ≤ count p c → p < n) → length c ≤ below n c
length-below n [] h = omega arith
length-below n (q ∷ qs) h =
    omega (arith, below_more n q qs (h q (omega (arith, same_refl q))), length-below n qs (λ p b. h p (omega arith)))

-- no chain has a program 0, or more than 32 programs
pub no_zero : {l : List ℕ} {m : List (List ℕ)} → Laid l m → (k : ℕ) → count 0 (get_or m k []) ≡ 0
no_zero {l} {m} L k = go (count 0 (get_or m k [])) refl
  where
    go : (n : ℕ) → count 0 (get_or m k []) ≡ n → count 0 (get_or m k []) ≡ 0
    go zero e = e
    go (suc n) e = absurd (omega (arith, (L.within 0 (omega (arith, total-in 0 m k))).0))

pub short : {l : List ℕ} {m : List (List ℕ)} → Laid l m → (k : ℕ) → length (get_or m k []) ≤ 32
short {l} {m} L k =
    let few : below 33 (get_or m k []) ≤ 32 = below-few 32 (get_or m k []) (λ p. omega (arith, total-in p m k, L.once p)) (no_zero L k) in
    omega (arith, length-below 33 (get_or m k []) (λ p b. omega (arith, (L.within p (omega (arith, total-in p m k))).1)))

-- the walk finds the chain that the links lay out
pub chain-walk : (l : List ℕ) (f s : ℕ) (c : List ℕ) → Leads l s c → length c ≤ f → count 0 c ≡ 0 → walk l s f ≡ c
unfolding walk
chain-walk l zero s [] h n z = refl
chain-walk l zero s (q ∷ qs) h n z = absurd (omega arith)
chain-walk l (suc f) s [] h n z = rw (eq-eqb (get_or l s 0) 0 h)
chain-walk l (suc f) s (q ∷ qs) h n z =
    rw (h.0, ne_eqb q 0 (λ e. omega (arith, rw e at z, same_refl 0)), chain-walk l f (7 + q) qs h.1 (omega arith) (omega arith))

-- a walk, step by step
pub walk_end : (l : List ℕ) (s f : ℕ) → get_or l s 0 ≡ 0 → walk l s f ≡ []
unfolding walk
walk_end l s zero e = refl
walk_end l s (suc f) e = rw (eq-eqb (get_or l s 0) 0 e)

pub walk_more : (l : List ℕ) (s f n : ℕ) → n ≡ get_or l s 0 → n ≢ 0 → walk l s (suc f) ≡ n ∷ walk l (7 + n) f
unfolding walk
walk_more l s f n e h = rw (← e, ne_eqb n 0 h)

get_d_rows : (l : List ℕ) (s n i : ℕ) → i < n → get_or (rows l s n) i [] ≡ walk l (s + i) 32
unfolding walk
get_d_rows l s zero i h = absurd (omega arith)
get_d_rows l s (suc n) zero h = ap (λ (x : ℕ). walk l x 32) (omega arith)
get_d_rows l s (suc n) (suc i) h = get_d_rows l (suc s) n i (omega arith) ∙ ap (λ (x : ℕ). walk l x 32) (omega arith)

length-rows : (l : List ℕ) (s n : ℕ) → length (rows l s n) ≡ n
unfolding walk
length-rows l s zero = refl
length-rows l s (suc n) = ap suc (length-rows l (suc s) n)

-- the chains read are the walks, seven of them
pub get_d_read : (l : List ℕ) (k : ℕ) → k < 7 → get_or (read l) k [] ≡ walk l k 32
unfolding read walk
get_d_read l k h = get_d_rows l 0 7 k h ∙ ap (λ (x : ℕ). walk l x 32) (omega arith)

pub length-read : (l : List ℕ) → length (read l) ≡ 7
unfolding read walk
length-read l = length-rows l 0 7

-- the links say which chains they lay out
pub laid-read : {l : List ℕ} {m : List (List ℕ)} → Laid l m → read l ≡ m
laid-read {l} {m} L = ext_get_or [] (read l) m (length-read l ∙ sym L.seven) (λ k h.
    get_d_read l k (omega (arith, length-read l))
    ∙ chain-walk l 32 k (get_or m k []) (L.chain k (omega (arith, length-read l))) (short L k) (no_zero L k))

pub laid-self : {l : List ℕ} {m : List (List ℕ)} → Laid l m → Laid l (read l)
laid-self L = rw (laid-read L) L

-- and two that lay out the same chains are the same
pub laid-unique : {l l' : List ℕ} {m : List (List ℕ)} → Laid l m → Laid l' m → l ≡ l'
laid-unique {l} {l'} {m} L M = ext_get_or 0 l l' (L.long ∙ sym M.long) (λ i h. at i (dec_lt i 7))
  where
    prog : (p n : ℕ) → total p m ≡ n → get_or l (7 + p) 0 ≡ get_or l' (7 + p) 0
    prog p zero e = L.free p e ∙ sym (M.free p e)
    prog p (suc n) e =
        let w = total-some p m (omega arith) in
        let b : w.0 < 7 = omega (arith, w.1, L.seven) in
        chain-at l l' (7 + p) w.0 (get_or m w.0 []) (L.chain w.0 b) (M.chain w.0 b)
        (omega (arith, inner-count p (get_or m w.0 []), w.2))

    at : (i : ℕ) → Dec (i < 7) → get_or l i 0 ≡ get_or l' i 0
    at i (yes b) = chain-at l l' i i (get_or m i []) (L.chain i b) (M.chain i b) (omega (arith, same_refl i))
    at i (no n) = let e : i ≡ 7 + (i - 7) = omega arith in rw e (prog (i - 7) (total (i - 7) m) refl)

-- a head is the first of its chain, and 0 where the chain is empty
pub head_first : {l : List ℕ} {m : List (List ℕ)} → Laid l m → (s : ℕ) → s < 7 → get_or l s 0 ≢ 0
    → (ps : List ℕ) × (get_or m s [] ≡ get_or l s 0 ∷ ps)
head_first {l} {m} L s h n = go (get_or m s []) (L.chain s h)
  where
    go : (c : List ℕ) → Leads l s c → (ps : List ℕ) × (c ≡ get_or l s 0 ∷ ps)
    go [] w = absurd (n w)
    go (q ∷ qs) w = (qs, ap (λ (x : ℕ). x ∷ qs) (sym w.0))
