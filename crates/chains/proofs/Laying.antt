-- The links of given chains lay them out, and say them when read; links that lay chains out are the links of these; and what
-- soundness asks of links is that they lay out the chains that they say. The idea: chain after chain is laid where there was
-- none, so that each laid before stays.
-- Assumes nothing.
use Prim.Native.Nat.{ℕ, zero, suc, ◌+◌, ◌≤◌, ◌<◌}
use native.Mathlib.Omega.{arith}
use native.Mathlib.Decide.{ℕ_discrete, dec_le}
use mathlib.Core.Path.{◌≡◌, refl, ap, ◌∙◌}
use mathlib.Core.List.{List, [], ◌∷◌, ◌++◌}
use lib.ListN.{length, get_or, set, replicate, length-set, length-append, get_or-eq_default}
use lib.Seq.{get_or-set_same, get_or-set_other, set-append_seam, get_or-append_seam, append_snoc}
use Rattle.lists.specs.Lists.{count}
use Rattle.lists.proofs.Laws.{same_refl, same-ne}
use Rattle.chains.specs.Links.{read, Leads, total, Links, lay_chain, lay_all, links_of}
use Rattle.chains.specs.Inner.{Laid}
use Rattle.chains.proofs.Slots.{on, inner-count, frame, on-once, on-apart, on-range}
use Rattle.chains.proofs.Totals.{total-set, total-in, total-append, total-empty}
use Rattle.chains.proofs.Reading.{walk_end, get_d_read, length-read, laid-read, laid-unique}

-- one chain
length-lay : (l : List ℕ) (s : ℕ) (c : List ℕ) → length (lay_chain l s c) ≡ length l
length-lay l s [] = length-set l s 0
length-lay l s (q ∷ qs) = length-lay (set l s q) (7 + q) qs ∙ length-set l s q

lay-other : (l : List ℕ) (i s : ℕ) (c : List ℕ) → on i s c ≡ 0 → get_or (lay_chain l s c) i 0 ≡ get_or l i 0
lay-other l i s [] z = get_or-set_other l s i 0 0 (λ e. omega (arith, rw e at z, same_refl s))
lay-other l i s (q ∷ qs) z =
    lay-other (set l s q) i (7 + q) qs (omega arith) ∙ get_or-set_other l s i q 0 (λ e. omega (arith, rw e at z, same_refl s))

lay-leads : (l : List ℕ) (s : ℕ) (c : List ℕ) → ((i : ℕ) → on i s c ≤ 1) → ((i : ℕ) → 1 ≤ on i s c → i < length l)
    → Leads (lay_chain l s c) s c
lay-leads l s [] o b = get_or-set_same l s 0 0 (b s (omega (arith, same_refl s)))
lay-leads l s (q ∷ qs) o b = (
  lay-other (set l s q) s (7 + q) qs (omega (arith, o s, same_refl s)) ∙ get_or-set_same l s q 0 (b s (omega (arith, same_refl s))),
  lay-leads (set l s q) (7 + q) qs (λ i. omega (arith, o i)) (λ i h. rw (length-set l s q) (b i (omega arith))),
)

-- one chain more, where there was none
laid-lay : (l : List ℕ) (m : List (List ℕ)) (k : ℕ) (c : List ℕ) → Laid l m → k < 7 → get_or m k [] ≡ []
    → ((p : ℕ) → total p m + count p c ≤ 1)
    → ((p : ℕ) → 1 ≤ count p c → (1 ≤ p) × (p ≤ 32)) → Laid (lay_chain l k c) (set m k c)
laid-lay l m k c L hk none most rng = record {
  long = length-lay l k c ∙ L.long;
  seven = length-set m k c ∙ L.seven;
  chain = λ t h. chain-of t h (ℕ_discrete t k);
  once = λ p. omega (arith, tot p, most p);
  within = λ p h. within_of p h (count p c) refl;
  free = λ p z. lay-other l (7 + p) k c (omega (arith, same-ne (7 + p) k (λ e. omega arith), inner-count p c, tot p))
      ∙ L.free p (omega (arith, tot p));
}
  where
    tot : (p : ℕ) → total p (set m k c) ≡ total p m + count p c
    tot p = omega (arith, total-set p m k c (omega (arith, L.seven)), ap (count p) none)

    anew : Leads (lay_chain l k c) k c
    anew = lay-leads l k c (on-once c (λ p. omega (arith, most p)) k hk)
        (λ i b. omega (arith, L.long, on-range c (λ p h. (rng p h).1) k hk i b))

    chain-of : (t : ℕ) → t < 7 → Dec (t ≡ k) → Leads (lay_chain l k c) t (get_or (set m k c) t [])
    chain-of t h (yes e) = rw (e, get_or-set_same m k c [] (omega (arith, L.seven))) anew
    chain-of t h (no n) = rw (get_or-set_other m k t c [] n)
        (frame l (lay_chain l k c) t (get_or m t [])
        (λ i b. lay-other l i k c (on-apart (get_or m t []) c (λ p. omega (arith, total-in p m t, most p)) t k h hk n i b)) (L.chain t h))

    within_of : (p : ℕ) → 1 ≤ total p (set m k c) → (n : ℕ) → count p c ≡ n → (1 ≤ p) × (p ≤ 32)
    within_of p h zero e = L.within p (omega (arith, tot p))
    within_of p h (suc n) e = rng p (omega arith)

-- nothing laid out
zeros : (n i : ℕ) → get_or (replicate {A = ℕ} n 0) i 0 ≡ 0
zeros zero i = refl
zeros (suc n) zero = refl
zeros (suc n) (suc i) = zeros n i

empty : (n s : ℕ) → get_or (replicate {A = List ℕ} n []) s [] ≡ []
empty zero s = refl
empty (suc n) zero = refl
empty (suc n) (suc s) = empty n s

laid_none : Laid (replicate 40 0) (replicate 7 [])
laid_none = record {
  long = refl;
  seven = refl;
  chain = λ s h. rw (empty 7 s) (zeros 40 s);
  once = λ p. omega arith;
  within = λ p h. absurd (omega arith);
  free = λ p z. zeros 40 (7 + p);
}

-- all of them
laid-all : (m pre : List (List ℕ)) (l : List ℕ) → Laid l (pre ++ replicate (length m) []) → length pre + length m ≤ 7
    → ((p : ℕ) → total p pre + total p m ≤ 1)
    → ((p : ℕ) → 1 ≤ total p m → (1 ≤ p) × (p ≤ 32)) → Laid (lay_all l (length pre) m) (pre ++ m)
laid-all [] pre l L h most rng = L
laid-all (c ∷ m) pre l L h most rng =
    let more : Laid (lay_chain l (length pre) c) (pre ++ c ∷ replicate (length m) []) =
    rw set-append_seam at
    (laid-lay l (pre ++ [] ∷ replicate (length m) []) (length pre) c L (omega arith) (get_or-append_seam pre [] (replicate (length m) []) [])
    (λ p. omega (arith, total-append p pre ([] ∷ replicate (length m) []), total-empty p (length m), most p))
    (λ p b. rng p (omega arith))) in
    let len : length (pre ++ c ∷ []) ≡ suc (length pre) = length-append pre (c ∷ []) ∙ omega arith in
    let r : Laid (lay_all (lay_chain l (length pre) c) (length (pre ++ c ∷ [])) m) ((pre ++ c ∷ []) ++ m) =
    laid-all m (pre ++ c ∷ []) (lay_chain l (length pre) c) (rw append_snoc more) (omega arith)
    (λ p. omega (arith, total-append p pre (c ∷ []), most p)) (λ p b. rng p (omega arith)) in
    rw (append_snoc, len) at r

-- chains that can be laid out: seven, no program twice, and none but 1 to 32
module _ (m : List (List ℕ)) (seven : length m ≡ 7) (once : (p : ℕ) → total p m ≤ 1)
    (within : (p : ℕ) → 1 ≤ total p m → (1 ≤ p) × (p ≤ 32)) where
  pub laid-links_of : Laid (links_of m) m
  unfolding links_of
  laid-links_of = laid-all m [] (replicate 40 0) (rw seven laid_none) (omega (arith, seven)) (λ p. omega (arith, once p)) within

  pub read-links_of : read (links_of m) ≡ m
  read-links_of = laid-read laid-links_of

-- the links are those that the chains give
pub laid-is : {l : List ℕ} {m : List (List ℕ)} → Laid l m → l ≡ links_of m
laid-is {l} {m} L = laid-unique L (laid-links_of m L.seven L.once L.within)

-- the clause of soundness, where no program stands twice, says that links lay out what they say; and it holds of links that
-- lay out chains, that of state 0 empty
pub links-laid : (l : List ℕ) → length l ≡ 40 → Links l → ((p : ℕ) → total p (read l) ≤ 1)
    → ((p : ℕ) → 1 ≤ total p (read l) → (1 ≤ p) × (p ≤ 32))
    → Laid l (read l)
links-laid l long L once within = record {
  long = long;
  seven = length-read l;
  chain = λ s h. chain-of s h (dec_le 1 s);
  once = once;
  within = within;
  free = λ p z. free_of p z (dec_le p 32);
}
  where
    chain-of : (s : ℕ) → s < 7 → Dec (1 ≤ s) → Leads l s (get_or (read l) s [])
    chain-of s h (yes b) = L.along s b h
    chain-of s h (no n) =
        let e : s ≡ 0 = omega arith in
        rw (e, get_d_read l 0 (omega arith), walk_end l 0 32 L.none) L.none

    free_of : (p : ℕ) → total p (read l) ≡ 0 → Dec (p ≤ 32) → get_or l (7 + p) 0 ≡ 0
    free_of p z (yes h) = L.others p h z
    free_of p z (no n) = get_or-eq_default l 0 (omega arith)

pub laid-links : {l : List ℕ} {m : List (List ℕ)} → Laid l m → get_or m 0 [] ≡ [] → Links l
laid-links {l} {m} L e = record {
  along = λ s b h. rw (laid-read L) (L.chain s h);
  none = rw e at (L.chain 0 (omega arith));
  others = λ p h z. L.free p (rw (laid-read L) at z);
}
