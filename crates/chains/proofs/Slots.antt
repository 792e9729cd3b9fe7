-- One chain in the links: which slots it takes, that links which agree there lead along it alike, and what one
-- more or one less program in it takes.
-- The idea: how often a slot is among a chain's is a number, `on`, so that what stands apart is told by arithmetic; and the slot where a
-- program goes in or comes out is found by recursion along the chain, as `insert` and `remove` go.
-- Assumes nothing.
use Prim.Native.Nat.{ℕ, ◌+◌, ◌-◌, ◌≤◌, ◌<◌}
use native.Mathlib.Omega.{arith}
use native.Mathlib.Decide.{ℕ_discrete, dec_lt}
use mathlib.Core.Path.{◌≡◌, refl, sym, ◌∙◌, subst}
use mathlib.Core.Logic.{◌≢◌}
use mathlib.Core.Bool.{Bool, true, false, cond}
use mathlib.Core.List.{List, [], ◌∷◌}
use lib.ListN.{get_or}
use lib.Dec.{leb, eqb}
use borrow.Author.Tests.{eq-eqb, ne_eqb, eqb-true, eqb-false, le-leb, lt-leb}
use Rattle.lists.specs.Lists.{same, count, insert, remove}
use Rattle.lists.proofs.Laws.{same_refl, same-ne, same-le, same-eq}
use Rattle.chains.specs.Links.{Leads}
use Rattle.chains.specs.Inner.{place, before}

-- the slots of the programs of a chain: how often slot i is among them; and among those and the slot that leads to them
abbrev pub inner : ℕ → List ℕ → ℕ
inner i [] = 0
inner i (q ∷ qs) = same i (7 + q) + inner i qs

abbrev pub on : ℕ → ℕ → List ℕ → ℕ
on i s c = same i s + inner i c

same-seven : (p q : ℕ) → same (7 + p) (7 + q) ≡ same p q
same-seven p q = go (ℕ_discrete p q)
  where
    go : Dec (p ≡ q) → same (7 + p) (7 + q) ≡ same p q
    go (yes e) = rw e (same_refl (7 + q) ∙ sym (same_refl q))
    go (no n) = same-ne (7 + p) (7 + q) (λ e. n (omega arith)) ∙ sym (same-ne p q n)

pub inner-count : (p : ℕ) (c : List ℕ) → inner (7 + p) c ≡ count p c
inner-count p [] = refl
inner-count p (q ∷ qs) = rw (same-seven p q, inner-count p qs)

inner-low : (i : ℕ) (c : List ℕ) → i < 7 → inner i c ≡ 0
inner-low i [] h = refl
inner-low i (q ∷ qs) h = omega (arith, same-ne i (7 + q) (λ e. omega arith), inner-low i qs h)

-- links that agree on a chain's slots lay it out alike
pub frame : (l l' : List ℕ) (s : ℕ) (c : List ℕ) → ((i : ℕ) → 1 ≤ on i s c → get_or l' i 0 ≡ get_or l i 0) → Leads l s c → Leads l' s c
frame l l' s [] f h = f s (omega (arith, same_refl s)) ∙ h
frame l l' s (q ∷ qs) f h = (f s (omega (arith, same_refl s)) ∙ h.0, frame l l' (7 + q) qs (λ i b. f i (omega arith)) h.1)

-- links that lead along one chain hold the same at each of its slots
pub chain-at : (l l' : List ℕ) (i s : ℕ) (c : List ℕ) → Leads l s c → Leads l' s c → 1 ≤ on i s c → get_or l i 0 ≡ get_or l' i 0
chain-at l l' i s [] h h' b = rw (same-eq i s (omega arith)) (h ∙ sym h')
chain-at l l' i s (q ∷ qs) h h' b = go (ℕ_discrete i s) (chain-at l l' i (7 + q) qs h.1 h'.1)
  where
    go : Dec (i ≡ s) → (1 ≤ on i (7 + q) qs → get_or l i 0 ≡ get_or l' i 0) → get_or l i 0 ≡ get_or l' i 0
    go (yes e) ih = rw e (h.0 ∙ sym h'.0)
    go (no n) ih = ih (omega (arith, same-ne i s n))

-- a slot is a head or a program's
on-head : (i k : ℕ) (c : List ℕ) → i < 7 → on i k c ≡ same i k
on-head i k c h = omega (arith, inner-low i c h)

on-link : (i k : ℕ) (c : List ℕ) → k < 7 → (i < 7 → ⊥) → on i k c ≡ count (i - 7) c
on-link i k c h n =
    let e : i ≡ 7 + (i - 7) = omega arith in
    omega (arith, same-ne i k (λ z. omega arith), rw (← e) at (inner-count (i - 7) c))

-- where no program stands twice, no slot does
pub on-once : (c : List ℕ) → ((p : ℕ) → count p c ≤ 1) → (k : ℕ) → k < 7 → (i : ℕ) → on i k c ≤ 1
on-once c once k h i = go (dec_lt i 7)
  where
    go : Dec (i < 7) → on i k c ≤ 1
    go (yes b) = omega (arith, on-head i k c b, same-le i k)
    go (no n) = omega (arith, on-link i k c h n, once (i - 7))

-- nor in two chains
pub on-apart : (c d : List ℕ) → ((p : ℕ) → count p c + count p d ≤ 1) → (t k : ℕ) → t < 7 → k < 7 → t ≢ k → (i : ℕ) → 1 ≤ on i t c
    → on i k d ≡ 0
on-apart c d once t k ht hk n i b = go (dec_lt i 7)
  where
    go : Dec (i < 7) → on i k d ≡ 0
    go (yes h) = on-head i k d h ∙ same-ne i k (λ e. n (sym (same-eq i t (omega (arith, on-head i t c h))) ∙ e))
    go (no h) = omega (arith, on-link i t c ht h, on-link i k d hk h, once (i - 7))

-- and where no program is above 32, no slot is past the end
pub on-range : (c : List ℕ) → ((p : ℕ) → 1 ≤ count p c → p ≤ 32) → (k : ℕ) → k < 7 → (i : ℕ) → 1 ≤ on i k c → i < 40
on-range c high k h i b = go (dec_lt i 7)
  where
    go : Dec (i < 7) → i < 40
    go (yes w) = omega arith
    go (no n) = omega (arith, high (i - 7) (omega (arith, on-link i k c h n)))

-- the slot behind which p goes, and the slot that leads to p, are the chain's; the second is not p's own
on-cond : (b : Bool) (x y s : ℕ) (c : List ℕ) → 1 ≤ on x s c → 1 ≤ on y s c → 1 ≤ on (cond b x y) s c
on-cond true x y s c h k = h
on-cond false x y s c h k = k

pub place-on : (pr : ℕ → ℕ) (p s : ℕ) (c : List ℕ) → 1 ≤ on (place pr p s c) s c
place-on pr p s [] = omega (arith, same_refl s)
place-on pr p s (q ∷ qs) =
    on-cond (leb (pr q) (pr p)) (place pr p (7 + q) qs) s s (q ∷ qs) (omega (arith, place-on pr p (7 + q) qs)) (omega (arith, same_refl s))

pub before_on : (p s : ℕ) (c : List ℕ) → 1 ≤ on (before p s c) s c
before_on p s [] = omega (arith, same_refl s)
before_on p s (q ∷ qs) =
    on-cond (eqb q p) s (before p (7 + q) qs) s (q ∷ qs) (omega (arith, same_refl s)) (omega (arith, before_on p (7 + q) qs))

before-ne-step : (b : Bool) (p s q : ℕ) (qs : List ℕ) → eqb q p ≡ b → on (7 + p) s (q ∷ qs) ≤ 1 → 1 ≤ inner (7 + p) (q ∷ qs)
    → (1 ≤ inner (7 + p) qs → before p (7 + q) qs ≢ 7 + p) → cond b s (before p (7 + q) qs) ≢ 7 + p
before-ne-step true p s q qs t o z ih e = omega (arith, rw e at o, same_refl (7 + p))
before-ne-step false p s q qs t o z ih e = ih (omega (arith, same-ne (7 + p) (7 + q) (λ k. eqb-false q p t (omega arith)))) e

pub before-ne : (p s : ℕ) (c : List ℕ) → ((i : ℕ) → on i s c ≤ 1) → 1 ≤ inner (7 + p) c → before p s c ≢ 7 + p
before-ne p s [] o z = omega arith
before-ne p s (q ∷ qs) o z =
    before-ne-step (eqb q p) p s q qs refl (o (7 + p)) z (λ h. before-ne p (7 + q) qs (λ i. omega (arith, o i)) h)

-- one step of each
pub place-past : (pr : ℕ → ℕ) (p s q : ℕ) (qs : List ℕ) → pr q ≤ pr p → place pr p s (q ∷ qs) ≡ place pr p (7 + q) qs
place-past pr p s q qs h = rw (le-leb (pr q) (pr p) h)

pub place-stop : (pr : ℕ → ℕ) (p s q : ℕ) (qs : List ℕ) → pr p < pr q → place pr p s (q ∷ qs) ≡ s
place-stop pr p s q qs h = rw (lt-leb (pr q) (pr p) h)

pub before-past : (p s q : ℕ) (qs : List ℕ) → q ≢ p → before p s (q ∷ qs) ≡ before p (7 + q) qs
before-past p s q qs h = rw (ne_eqb q p h)

pub before-stop : (p s q : ℕ) (qs : List ℕ) → q ≡ p → before p s (q ∷ qs) ≡ s
before-stop p s q qs h = rw (eq-eqb q p h)

-- p is laid in behind the slot `at`
module _ (pr : ℕ → ℕ) (l l' : List ℕ) (at p : ℕ) (A : get_or l' at 0 ≡ p) (B : get_or l' (7 + p) 0 ≡ get_or l at 0)
    (C : (i : ℕ) → i ≢ at → i ≢ 7 + p → get_or l' i 0 ≡ get_or l i 0) where
  put : (c : List ℕ) → ((i : ℕ) → on i at c ≤ 1) → on (7 + p) at c ≡ 0 → Leads l at c → Leads l' at (p ∷ c)
  put [] o z h = (A, B ∙ h)
  put (q ∷ qs) o z h = (
    A,
    (
      B ∙ h.0,
      frame l l' (7 + q) qs
          (λ i b. C i (λ e. omega (arith, rw e at b, o at, same_refl at)) (λ e. omega (arith, rw e at b))) h.1,
    ),
  )

  lay_step : (b : Bool) (s q : ℕ) (qs : List ℕ) → at ≡ cond b (place pr p (7 + q) qs) s → ((i : ℕ) → on i s (q ∷ qs) ≤ 1)
      → on (7 + p) s (q ∷ qs) ≡ 0 → Leads l s (q ∷ qs) → (at ≡ place pr p (7 + q) qs → Leads l' (7 + q) (insert pr p qs))
      → Leads l' s (cond b (q ∷ insert pr p qs) (p ∷ q ∷ qs))
  lay_step true s q qs e o z h ih = (
    C s (λ k. omega (arith, o s, same_refl s, rw (← e, ← k) at (place-on pr p (7 + q) qs)))
        (λ k. omega (arith, rw (← k) at z, same_refl s)) ∙ h.0,
    ih e,
  )
  lay_step false s q qs e o z h ih = subst (λ (x : ℕ). Leads l' x (p ∷ q ∷ qs)) e (put (q ∷ qs) (rw e o) (rw e z) (rw e h))

  pub lay-in : (s : ℕ) (c : List ℕ) → at ≡ place pr p s c → ((i : ℕ) → on i s c ≤ 1) → on (7 + p) s c ≡ 0 → Leads l s c
      → Leads l' s (insert pr p c)
  lay-in s [] e o z h = subst (λ (x : ℕ). Leads l' x (p ∷ [])) e (put [] (rw e o) (rw e z) (rw e h))
  lay-in s (q ∷ qs) e o z h =
      lay_step (leb (pr q) (pr p)) s q qs e o z h (λ k. lay-in (7 + q) qs k (λ i. omega (arith, o i)) (omega arith) h.1)

-- p is taken out from behind the slot `at`
module _ (l l' : List ℕ) (at p : ℕ) (A : get_or l' at 0 ≡ get_or l (7 + p) 0)
    (C : (i : ℕ) → i ≢ at → i ≢ 7 + p → get_or l' i 0 ≡ get_or l i 0) where
  cut : (c : List ℕ) → ((i : ℕ) → on i at (p ∷ c) ≤ 1) → Leads l at (p ∷ c) → Leads l' at c
  cut [] o h = A ∙ h.1
  cut (r ∷ rs) o h = (
    A ∙ h.1.0,
    frame l l' (7 + r) rs
        (λ i b. C i (λ e. omega (arith, rw e at b, o at, same_refl at)) (λ e. omega (arith, rw e at b, o (7 + p), same_refl (7 + p))))
        h.1.1,
  )

  take_step : (b : Bool) (s q : ℕ) (qs : List ℕ) → eqb q p ≡ b → at ≡ cond b s (before p (7 + q) qs) → ((i : ℕ) → on i s (q ∷ qs) ≤ 1)
      → 1 ≤ inner (7 + p) (q ∷ qs) → Leads l s (q ∷ qs) → (at ≡ before p (7 + q) qs → 1 ≤ inner (7 + p) qs → Leads l' (7 + q) (remove p qs))
      → Leads l' s (cond b qs (q ∷ remove p qs))
  take_step true s q qs t e o z h ih =
      let k : q ≡ p = eqb-true q p t in
      subst (λ (x : ℕ). Leads l' x qs) e (cut qs (rw (e, ← k) o) (rw (e, ← k) h))
  take_step false s q qs t e o z h ih = (
    C s (λ k. omega (arith, o s, same_refl s, rw (← e, ← k) at (before_on p (7 + q) qs)))
        (λ k. omega (arith, subst (λ (x : ℕ). 1 ≤ inner x (q ∷ qs)) (sym k) z, o s, same_refl s)) ∙ h.0,
    ih e (omega (arith, same-ne (7 + p) (7 + q) (λ k. eqb-false q p t (omega arith)))),
  )

  pub take_out : (s : ℕ) (c : List ℕ) → at ≡ before p s c → ((i : ℕ) → on i s c ≤ 1) → 1 ≤ inner (7 + p) c → Leads l s c
      → Leads l' s (remove p c)
  take_out s [] e o z h = omega arith
  take_out s (q ∷ qs) e o z h =
      take_step (eqb q p) s q qs refl e o z h (λ k z'. take_out (7 + q) qs k (λ i. omega (arith, o i)) z' h.1)
