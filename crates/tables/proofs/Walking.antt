-- The walk along one chain. The loop has passed the programs `done`, which the links lead along from slot s to slot `at`, and reads n
-- there; it has marked them all, and each mark takes one of at most 32 unmarked places, so that it ends. Where it refuses, the next program
-- is one that no chain in order has there.
-- Assumes nothing.
use Prim.Native.Nat.{ℕ, zero, suc, ◌+◌, ◌-◌, ◌≤◌, ◌<◌}
use native.Mathlib.Omega.{arith}
use native.Mathlib.Decide.{ℕ_discrete}
use mathlib.Core.Path.{◌≡◌, refl, sym, ap, ◌∙◌, subst}
use mathlib.Core.Logic.{◌≢◌}
use mathlib.Core.Bool.{true, false}
use mathlib.Core.List.{List, [], ◌∷◌, ◌++◌}
use lib.ListN.{length, get_or, set, length-append, length-set}
use lib.Seq.{get_or-set_same, get_or-set_other}
use Rattle.lists.specs.Lists.{same, count, Ascending}
use Rattle.lists.proofs.Laws.{same_refl, same-ne, same-le, count-append, among}
use Rattle.lists.proofs.Tests.{false-true}
use Rattle.records.specs.Records.{Known}
use Rattle.chains.specs.Links.{walk, Leads}
use Rattle.chains.proofs.Reading.{chain-walk}
use Rattle.tables.specs.Walks.{Ordered, Unmet, Walk}

-- the links lead from slot s along a list to slot `at`
abbrev Trail : List ℕ → ℕ → List ℕ → ℕ → Type 0
Trail l s [] at = s ≡ at
Trail l s (q ∷ qs) at = (get_or l s 0 ≡ q) × Trail l (7 + q) qs at

trail_more : (l : List ℕ) (s : ℕ) (c : List ℕ) (at n : ℕ) → Trail l s c at → n ≡ get_or l at 0 → Trail l s (c ++ n ∷ []) (7 + n)
trail_more l s [] at n t e = (ap (λ (x : ℕ). get_or l x 0) t ∙ sym e, refl)
trail_more l s (q ∷ qs) at n t e = (t.0, trail_more l (7 + q) qs at n t.1 e)

trail-end : (l : List ℕ) (s : ℕ) (c : List ℕ) (at : ℕ) → Trail l s c at → get_or l at 0 ≡ 0 → Leads l s c
trail-end l s [] at t e = ap (λ (x : ℕ). get_or l x 0) t ∙ e
trail-end l s (q ∷ qs) at t e = (t.0, trail-end l (7 + q) qs at t.1 e)

-- a chain that begins along the trail goes on with what stands at its end
trail-on : (l : List ℕ) (s : ℕ) (c : List ℕ) (at n : ℕ) (d : List ℕ) → Trail l s c at → n ≡ get_or l at 0 → n ≢ 0 → count 0 c ≡ 0
    → Leads l s d
    → (rest : List ℕ) × (d ≡ c ++ n ∷ rest)
trail-on l s [] at n [] t e h z w = absurd (h (e ∙ ap (λ (x : ℕ). get_or l x 0) (sym t) ∙ w))
trail-on l s [] at n (r ∷ d) t e h z w = (d, ap (λ (x : ℕ). x ∷ d) (sym w.0 ∙ ap (λ (x : ℕ). get_or l x 0) t ∙ sym e))
trail-on l s (q ∷ qs) at n [] t e h z w = absurd (omega (arith, ap (same 0) (sym t.0 ∙ w), same_refl 0))
trail-on l s (q ∷ qs) at n (r ∷ d) t e h z w =
    let k : r ≡ q = sym w.0 ∙ t.0 in
    let i = trail-on l (7 + q) qs at n d t.1 e h (omega arith) (subst (λ (x : ℕ). Leads l (7 + x) d) k w.1) in
    (i.0, ap (λ (x : ℕ). x ∷ d) k ∙ ap (λ (x : List ℕ). q ∷ x) i.1)

-- a mark more is an unmarked place less
unmarked-less : (marks : List ℕ) (i : ℕ) → i < length marks → get_or marks i 0 ≡ 0 → count 0 (set marks i 1) + 1 ≡ count 0 marks
unmarked-less [] i h e = absurd (omega arith)
unmarked-less (m ∷ ms) zero h e = omega (arith, same-ne 0 1 (λ w. omega arith), ap (same 0) e, same_refl 0)
unmarked-less (m ∷ ms) (suc i) h e = omega (arith, unmarked-less ms i (omega arith) e)

unmarked_most : (marks : List ℕ) → count 0 marks ≤ length marks
unmarked_most [] = omega arith
unmarked_most (m ∷ ms) = omega (arith, same-le 0 m, unmarked_most ms)

-- one more behind all others; and what stands behind others comes after them
module _ (R : ℕ → ℕ → Type 0) where
  ascending-more : (c : List ℕ) (n : ℕ) → Ascending R c → ((p : ℕ) → 1 ≤ count p c → R p n) → Ascending R (c ++ n ∷ [])
  ascending-more [] n A f = ((λ r h. absurd (omega arith)), tt)
  ascending-more (q ∷ qs) n A f = (
    (λ r h. go r h (ℕ_discrete r n)),
    ascending-more qs n A.1 (λ p h. f p (omega arith)),
  )
    where
      go : (r : ℕ) → 1 ≤ count r (qs ++ n ∷ []) → Dec (r ≡ n) → R q r
      go r h (yes e) = rw e (f q (omega (arith, same_refl q)))
      go r h (no w) = A.0 r (omega (arith, count-append r qs (n ∷ []), same-ne r n w))

  ascending-after : (c : List ℕ) (n : ℕ) (d : List ℕ) → Ascending R (c ++ n ∷ d) → (p : ℕ) → 1 ≤ count p c → R p n
  ascending-after [] n d A p h = absurd (omega arith)
  ascending-after (q ∷ qs) n d A p h =
      among (λ x. R x n) q p qs (A.0 n (omega (arith, count-append n qs (n ∷ d), same_refl n))) (ascending-after qs n d A.1 p) h

-- the loop's invariant: met are the marks before it, and least is the priority of the last that was passed
pub record Going (st pr : ℕ → ℕ) (l : List ℕ) (s : ℕ) (met marks : List ℕ) (least n : ℕ) : Type 0 where
  pub done : List ℕ
  pub at : ℕ
  pub trail : Trail l s done at
  pub next : n ≡ get_or l at 0
  pub within : (p : ℕ) → 1 ≤ count p done → Known p
  pub state : (p : ℕ) → 1 ≤ count p done → st p ≡ s
  pub once : (p : ℕ) → count p done ≤ 1
  pub rising : Ascending (λ p q. pr p ≤ pr q) done
  pub marked : (p : ℕ) → Known p → get_or marks (p - 1) 0 ≡ get_or met (p - 1) 0 + count p done
  pub below : (p : ℕ) → 1 ≤ count p done → pr p ≤ least
  pub tight : (x : ℕ) → ((p : ℕ) → 1 ≤ count p done → pr p ≤ x) → least ≤ x
  pub long : length marks ≡ 32
  pub room : length done + count 0 marks ≤ 32

pub going_start : (st pr : ℕ → ℕ) (l : List ℕ) (s : ℕ) (met : List ℕ) (n : ℕ) → length met ≡ 32 → n ≡ get_or l s 0
    → Going st pr l s met met 0 n
going_start st pr l s met n long e = record {
  done = [];
  at = s;
  trail = refl;
  next = e;
  within = λ p h. absurd (omega arith);
  state = λ p h. absurd (omega arith);
  once = λ p. omega arith;
  rising = tt;
  marked = λ p P. omega arith;
  below = λ p h. absurd (omega arith);
  tight = λ x h. omega arith;
  long = long;
  room = omega (arith, unmarked_most met);
}

-- of a chain in order the next is a program, in that state, not met, and no lower than the last
pub record Next (st pr : ℕ → ℕ) (s : ℕ) (marks : List ℕ) (least n : ℕ) : Type 0 where
  pub known : Known n
  pub state : st n ≡ s
  pub unmet : get_or marks (n - 1) 0 ≡ 0
  pub after : least ≤ pr n

module _ {st pr : ℕ → ℕ} {l : List ℕ} {s : ℕ} {met marks : List ℕ} {least n : ℕ} (G : Going st pr l s met marks least n) where
  no_zero : count 0 G.done ≡ 0
  no_zero = go (count 0 G.done) refl
    where
      go : (k : ℕ) → count 0 G.done ≡ k → count 0 G.done ≡ 0
      go zero e = e
      go (suc k) e = absurd (omega (arith, (G.within 0 (omega arith)).0))

  -- at the end the chain is what was passed
  pub going-walk : n ≡ 0 → walk l s 32 ≡ G.done
  going-walk h =
      chain-walk l 32 s G.done (trail-end l s G.done G.at G.trail (sym G.next ∙ h)) (omega (arith, G.room)) no_zero

  pub going_end : n ≡ 0 → Walk st pr l s met true marks
  going_end h = record {
    ordered = λ e. subst (λ (c : List ℕ). Ordered st pr l s c) (sym (going-walk h)) ordered;
    marked = λ e p P. G.marked p P ∙ ap (λ (c : List ℕ). get_or met (p - 1) 0 + count p c) (sym (going-walk h));
    refused = λ e. false-true (sym e);
  }
    where
      ordered : Ordered st pr l s G.done
      ordered = record {
        lies = trail-end l s G.done G.at G.trail (sym G.next ∙ h);
        within = G.within;
        state = G.state;
        once = G.once;
        rising = G.rising;
      }

  going_next : n ≢ 0 → (c : List ℕ) → Ordered st pr l s c → Unmet met c → Next st pr s marks least n
  going_next h c O U =
      let t = trail-on l s G.done G.at n c G.trail G.next h no_zero O.lies in
      let counts : count n c ≡ count n G.done + (same n n + count n t.0) =
      ap (count n) t.1 ∙ count-append n G.done (n ∷ t.0) in
      let here : 1 ≤ count n c = omega (arith, same_refl n) in
      let known : Known n = O.within n here in
      record {
        known = known;
        state = O.state n here;
        unmet = omega (arith, G.marked n known, U n here, O.once n, same_refl n);
        after = G.tight (pr n)
            (ascending-after (λ p q. pr p ≤ pr q) G.done n t.0
            (subst (Ascending (λ p q. pr p ≤ pr q)) t.1 O.rising));
      }

  pub going-refused : n ≢ 0 → (Next st pr s marks least n → ⊥) → Walk st pr l s met false marks
  going-refused h f = record {
    ordered = λ e. false-true e;
    marked = λ e. false-true e;
    refused = λ e O U. f (going_next h (walk l s 32) O U);
  }

  -- and with such a one the loop goes on
  module _ (N : Next st pr s marks least n) where
    place : n - 1 < length marks
    place = omega (arith, G.long, N.known.0, N.known.1)

    counted : (p : ℕ) → count p (G.done ++ n ∷ []) ≡ count p G.done + same p n
    counted p = omega (arith, count-append p G.done (n ∷ []))

    new : count n G.done ≡ 0
    new = omega (arith, G.marked n N.known, N.unmet)

    -- what holds of those passed and of n
    passed : (P : ℕ → Type 0) → ((p : ℕ) → 1 ≤ count p G.done → P p) → P n → (p : ℕ) → 1 ≤ count p (G.done ++ n ∷ []) → P p
    passed P f x p h = among P n p G.done x (f p) (omega (arith, counted p))

    more-marked : (p : ℕ) → Known p → get_or (set marks (n - 1) 1) (p - 1) 0 ≡ get_or met (p - 1) 0 + count p (G.done ++ n ∷ [])
    more-marked p P = go (ℕ_discrete p n)
      where
        go : Dec (p ≡ n) → get_or (set marks (n - 1) 1) (p - 1) 0 ≡ get_or met (p - 1) 0 + count p (G.done ++ n ∷ [])
        go (yes e) = rw e (get_or-set_same marks (n - 1) 1 0 place ∙ omega (arith, counted n, same_refl n, G.marked n N.known, N.unmet))
        go (no w) = get_or-set_other marks (n - 1) (p - 1) 1 0 (λ e. w (omega (arith, N.known.0)))
            ∙ omega (arith, counted p, same-ne p n w, G.marked p P)

    more-once : (p : ℕ) → count p (G.done ++ n ∷ []) ≤ 1
    more-once p = go (ℕ_discrete p n)
      where
        go : Dec (p ≡ n) → count p (G.done ++ n ∷ []) ≤ 1
        go (yes e) = rw e (omega (arith, counted n, same_refl n, new))
        go (no w) = omega (arith, counted p, same-ne p n w, G.once p)

    pub going_on : (n' : ℕ) → n' ≡ get_or l (7 + n) 0 → Going st pr l s met (set marks (n - 1) 1) (pr n) n'
    going_on n' e = record {
      done = G.done ++ n ∷ [];
      at = 7 + n;
      trail = trail_more l s G.done G.at n G.trail G.next;
      next = e;
      within = passed Known G.within N.known;
      state = passed (λ p. st p ≡ s) G.state N.state;
      once = more-once;
      rising = ascending-more (λ p q. pr p ≤ pr q) G.done n G.rising (λ p h. omega (arith, G.below p h, N.after));
      marked = more-marked;
      below = passed (λ p. pr p ≤ pr n) (λ p h. omega (arith, G.below p h, N.after)) (omega arith);
      tight = λ x f. f n (omega (arith, counted n, same_refl n));
      long = length-set marks (n - 1) 1 ∙ G.long;
      room = omega (arith, G.room, length-append G.done (n ∷ []), unmarked-less marks (n - 1) place N.unmet);
    }

    pub going_less : count 0 (set marks (n - 1) 1) < count 0 marks
    going_less = omega (arith, unmarked-less marks (n - 1) place N.unmet)
