-- The links after a program has entered or left a chain lay out the chains so changed. One law, `relaid`, serves both: links that differ
-- only at the program's slot and on one chain, which they lay out anew.
-- Assumes nothing.
use Prim.Native.Nat.{ℕ, ◌+◌, ◌≤◌, ◌<◌}
use native.Mathlib.Omega.{arith}
use native.Mathlib.Decide.{ℕ_discrete}
use mathlib.Core.Path.{◌≡◌, ◌∙◌}
use mathlib.Core.Logic.{◌≢◌}
use mathlib.Core.List.{List, []}
use lib.ListN.{length, get_or, set, length-set}
use lib.Seq.{get_or-set_same, get_or-set_other}
use Rattle.lists.specs.Lists.{count, insert, remove}
use Rattle.lists.proofs.Laws.{same_refl, same-ne, same-le, count-insert, count-remove}
use Rattle.chains.specs.Links.{read, Leads, total}
use Rattle.chains.specs.Inner.{Laid, entered, left, place, before, CanEnter, CanLeave}
use Rattle.chains.proofs.Slots.{on, inner-count, frame, on-once, on-apart, on-range, place-on}
use Rattle.chains.proofs.Slots.{before_on, before-ne, lay-in, take_out}
use Rattle.chains.proofs.Totals.{total-set, total-in, total-two}

-- links that differ from l only at p's slot and on the chain of state k, which they lay out anew with p more or
-- less in it, lay out the chains so changed
relaid : (l l' : List ℕ) (m : List (List ℕ)) (k p : ℕ) (c : List ℕ) → Laid l m → k < 7 → 1 ≤ p → p ≤ 32 → length l' ≡ 40
    → total p m ≤ count p (get_or m k []) → ((i : ℕ) → i ≢ 7 + p → on i k (get_or m k []) ≡ 0 → get_or l' i 0 ≡ get_or l i 0)
    → ((q : ℕ) → q ≢ p → count q c ≡ count q (get_or m k [])) → count p c ≤ 1 → (count p c ≡ 0 → get_or l' (7 + p) 0 ≡ 0)
    → Leads l' k c → Laid l' (set m k c)
relaid l l' m k p c L hk lo hi len alone keep others most gone lies = record {
  long = len;
  seven = length-set m k c ∙ L.seven;
  chain = λ t h. chain-of t h (ℕ_discrete t k);
  once = λ q. once-of q (ℕ_discrete q p);
  within = λ q h. within_of q h (ℕ_discrete q p);
  free = λ q z. free_of q z (ℕ_discrete q p);
}
  where
    tot : (q : ℕ) → total q (set m k c) + count q (get_or m k []) ≡ total q m + count q c
    tot q = total-set q m k c (omega (arith, L.seven))

    chain-of : (t : ℕ) → t < 7 → Dec (t ≡ k) → Leads l' t (get_or (set m k c) t [])
    chain-of t h (yes e) = rw (e, get_or-set_same m k c [] (omega (arith, L.seven))) lies
    chain-of t h (no n) = rw (get_or-set_other m k t c [] n) (frame l l' t (get_or m t []) (λ i b.
        keep i
        (λ e. omega (arith, rw e at b, same-ne (7 + p) t (λ z. omega arith), inner-count p (get_or m t []), total-two p m t k n))
        (on-apart (get_or m t []) (get_or m k []) (λ q. omega (arith, total-two q m t k n, L.once q)) t k h hk n i b)) (L.chain t h))

    once-of : (q : ℕ) → Dec (q ≡ p) → total q (set m k c) ≤ 1
    once-of q (yes e) = rw e (omega (arith, tot p))
    once-of q (no n) = omega (arith, tot q, others q n, L.once q)

    within_of : (q : ℕ) → 1 ≤ total q (set m k c) → Dec (q ≡ p) → (1 ≤ q) × (q ≤ 32)
    within_of q h (yes e) = omega arith
    within_of q h (no n) = L.within q (omega (arith, tot q, others q n))

    free_of : (q : ℕ) → total q (set m k c) ≡ 0 → Dec (q ≡ p) → get_or l' (7 + q) 0 ≡ 0
    free_of q z (yes e) = rw e (gone (omega (arith, tot p, total-in p m k, rw e at z)))
    free_of q z (no n) =
        let none : total q m ≡ 0 = omega (arith, tot q, others q n) in
        keep (7 + q) (λ e. n (omega arith))
        (omega (arith, same-ne (7 + q) k (λ e. omega arith), inner-count q (get_or m k []), total-in q m k))
        ∙ L.free q none

-- the slots of a chain that is laid out are in the array, and none stands twice
slot-in : (l : List ℕ) (m : List (List ℕ)) (k i : ℕ) → Laid l m → k < 7 → 1 ≤ on i k (get_or m k []) → i < 40
slot-in l m k i L h b = on-range (get_or m k []) (λ p c. (L.within p (omega (arith, total-in p m k))).1) k h i b

each : (l : List ℕ) (m : List (List ℕ)) (k : ℕ) → Laid l m → k < 7 → (i : ℕ) → on i k (get_or m k []) ≤ 1
each l m k L h i = on-once (get_or m k []) (λ p. omega (arith, total-in p m k, L.once p)) k h i

-- p is entered behind the slot `at`
pub laid-enter : (pr : ℕ → ℕ) (l : List ℕ) (m : List (List ℕ)) (k p at : ℕ) → Laid l m → k < 7 → 1 ≤ p → p ≤ 32 → total p m ≡ 0
    → at ≡ place pr p k (get_or m k []) → Laid (set (set l (7 + p) (get_or l at 0)) at p) (entered pr k p m)
laid-enter pr l m k p at L hk lo hi z e =
    relaid l l' m k p (insert pr p c) L hk lo hi (length-set l₁ at p ∙ length-set l (7 + p) v ∙ L.long) (omega arith)
    (λ i n o. C i (λ w. omega (arith, rw w at o, on-at)) n)
    (λ q n. omega (arith, count-insert pr q p c, same-ne q p n))
    (omega (arith, count-insert pr p p c, same-le p p, total-in p m k))
    (λ w. absurd (omega (arith, count-insert pr p p c, same_refl p)))
    (lay-in pr l l' at p A B C k c e (each l m k L hk) none (L.chain k hk))
  where
    c : List ℕ
    c = get_or m k []

    v : ℕ
    v = get_or l at 0

    l₁ : List ℕ
    l₁ = set l (7 + p) v

    l' : List ℕ
    l' = set l₁ at p

    none : on (7 + p) k c ≡ 0
    none = omega (arith, same-ne (7 + p) k (λ w. omega arith), inner-count p c, total-in p m k)

    on-at : 1 ≤ on at k c
    on-at = rw e (place-on pr p k c)

    apart : 7 + p ≢ at
    apart w = omega (arith, none, rw (← w) at on-at)

    A : get_or l' at 0 ≡ p
    A = get_or-set_same l₁ at p 0 (omega (arith, length-set l (7 + p) v, L.long, slot-in l m k at L hk on-at))

    B : get_or l' (7 + p) 0 ≡ v
    B = get_or-set_other l₁ at (7 + p) p 0 apart ∙ get_or-set_same l (7 + p) v 0 (omega (arith, L.long))

    C : (i : ℕ) → i ≢ at → i ≢ 7 + p → get_or l' i 0 ≡ get_or l i 0
    C i n n' = get_or-set_other l₁ at i p 0 n ∙ get_or-set_other l (7 + p) i v 0 n'

-- p is taken out from behind the slot `at`
pub laid-leave : (l : List ℕ) (m : List (List ℕ)) (k p at : ℕ) → Laid l m → k < 7 → 1 ≤ count p (get_or m k [])
    → at ≡ before p k (get_or m k []) → Laid (set (set l at (get_or l (7 + p) 0)) (7 + p) 0) (left k p m)
laid-leave l m k p at L hk z e =
    relaid l l' m k p (remove p c) L hk rng.0 rng.1 (length-set l₁ (7 + p) 0 ∙ length-set l at v ∙ L.long) (omega (arith, L.once p))
    (λ i n o. C i (λ w. omega (arith, rw w at o, on-at)) n)
    (λ q n. omega (arith, count-remove q p c z, same-ne q p n))
    (omega (arith, count-remove p p c z, same_refl p, total-in p m k, L.once p))
    (λ w. B)
    (take_out l l' at p A C k c e (each l m k L hk) (omega (arith, inner-count p c)) (L.chain k hk))
  where
    c : List ℕ
    c = get_or m k []

    v : ℕ
    v = get_or l (7 + p) 0

    l₁ : List ℕ
    l₁ = set l at v

    l' : List ℕ
    l' = set l₁ (7 + p) 0

    rng : (1 ≤ p) × (p ≤ 32)
    rng = L.within p (omega (arith, total-in p m k))

    on-at : 1 ≤ on at k c
    on-at = rw e (before_on p k c)

    B : get_or l' (7 + p) 0 ≡ 0
    B = get_or-set_same l₁ (7 + p) 0 0 (omega (arith, length-set l at v, L.long, rng))

    apart : at ≢ 7 + p
    apart = rw e (before-ne p k c (each l m k L hk) (omega (arith, inner-count p c)))

    A : get_or l' at 0 ≡ v
    A = get_or-set_other l₁ (7 + p) at 0 0 apart ∙ get_or-set_same l at v 0 (omega (arith, L.long, slot-in l m k at L hk on-at))

    C : (i : ℕ) → i ≢ at → i ≢ 7 + p → get_or l' i 0 ≡ get_or l i 0
    C i n n' = get_or-set_other l₁ (7 + p) i 0 0 n' ∙ get_or-set_other l at i v 0 n

-- what a caller of `enter` and `leave` knows of the slots
pub enter-at : (pr : ℕ → ℕ) {l : List ℕ} {s p : ℕ} → CanEnter l s p → place pr p s (get_or (read l) s []) < 40
enter-at pr {l} {s} {p} C =
    slot-in l (read l) s (place pr p s (get_or (read l) s [])) C.laid C.state (place-on pr p s (get_or (read l) s []))

pub leave-at : {l : List ℕ} {s p : ℕ} → CanLeave l s p → before p s (get_or (read l) s []) < 40
leave-at {l} {s} {p} C = slot-in l (read l) s (before p s (get_or (read l) s [])) C.laid C.state (before_on p s (get_or (read l) s []))

pub leave-who : {l : List ℕ} {s p : ℕ} → CanLeave l s p → (1 ≤ p) × (p ≤ 32)
leave-who {l} {s} {p} C = C.laid.within p (omega (arith, C.there, total-in p (read l) s))
