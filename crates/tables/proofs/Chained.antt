-- Chains and links are as soundness asks exactly when each of the six walks is in order and the rest is settled. The idea: a program's mark
-- is how often it stands in the chains walked so far, so that who has none stands in no chain.
-- Assumes nothing.
use Prim.Native.Nat.{ℕ, zero, suc, ◌+◌, ◌-◌, ◌≤◌, ◌<◌}
use native.Mathlib.Omega.{arith}
use native.Mathlib.Decide.{ℕ_discrete, dec_le}
use mathlib.Core.Path.{◌≡◌, refl, sym, ap, ◌∙◌, subst}
use mathlib.Core.Bool.{Bool, true, false, not, ◌&&◌, ◌||◌}
use mathlib.Core.List.{List, []}
use lib.ListN.{get_or, replicate}
use lib.Dec.{ltb, eqb}
use borrow.Author.Tests.{eq-eqb, ne_eqb, eqb-true, eqb-false, lt-ltb, ltb-true, not-true, not-false}
use Rattle.lists.specs.Lists.{same, count, Ascending}
use Rattle.lists.proofs.Laws.{same_refl, same-ne, same-le, same-eq, ascending-map}
use Rattle.lists.proofs.Tests.{both, and, unless, implies, otherwise, or, false-true, clash}
use Rattle.records.specs.declared.Program.{Program}
use Rattle.records.specs.Records.{Known, record_at}
use Rattle.rules.specs.Sound.{Chains}
use Rattle.rules.specs.Test.{test_chains}
use Rattle.rules.proofs.tests.AgreeTables.{chains-clause, chains-test}
use Rattle.chains.specs.Links.{walk, read, Leads, total, Links, test_links}
use Rattle.chains.specs.Inner.{prio_in}
use Rattle.chains.proofs.Reading.{walk_end, get_d_read, length-read}
use Rattle.chains.proofs.Agree.{links-clause, links-test}
use Rattle.ledger.specs.Inner.{Columns}
use Rattle.tables.specs.Walks.{book_with, test_chained, Chained, of_program, Ordered, Unmet, Walk, AllOrdered}
use Rattle.tables.specs.Walks.{standing, Marked, Walks, settled, Rest, Rests}
use Rattle.tables.proofs.Members.{chained-within}

-- who stands in the chains of states 1 to n
standing-in : (l : List ℕ) (n p k : ℕ) → 1 ≤ k → k ≤ n → count p (walk l k 32) ≤ standing l n p
standing-in l zero p k a b = absurd (omega arith)
standing-in l (suc n) p k a b = go (ℕ_discrete k (suc n)) (standing-in l n p k a)
  where
    go : Dec (k ≡ suc n) → (k ≤ n → count p (walk l k 32) ≤ standing l n p) → count p (walk l k 32) ≤ standing l (suc n) p
    go (yes e) ih = omega (arith, ap (λ (x : ℕ). count p (walk l x 32)) e)
    go (no w) ih = omega (arith, ih (omega arith))

standing-some : (l : List ℕ) (n p : ℕ) → 1 ≤ standing l n p → (k : ℕ) × (1 ≤ k) × (k ≤ n) × (1 ≤ count p (walk l k 32))
standing-some l zero p h = absurd (omega arith)
standing-some l (suc n) p h = go (count p (walk l (suc n) 32)) refl (standing-some l n p)
  where
    go : (c : ℕ) → count p (walk l (suc n) 32) ≡ c → (1 ≤ standing l n p → (k : ℕ) × (1 ≤ k) × (k ≤ n) × (1 ≤ count p (walk l k 32)))
        → (k : ℕ) × (1 ≤ k) × (k ≤ suc n) × (1 ≤ count p (walk l k 32))
    go zero e ih = let r = ih (omega arith) in (r.0, r.1, omega arith, r.3)
    go (suc c) e ih = (suc n, omega arith, omega arith, omega arith)

standing-more : (l : List ℕ) (s p : ℕ) → 1 ≤ s → count p (walk l s 32) + standing l (s - 1) p ≡ standing l (s + 1 - 1) p
standing-more l zero p a = absurd (omega arith)
standing-more l (suc n) p a =
    let e : suc n - 1 ≡ n = omega arith in
    let f : suc n ≡ suc n + 1 - 1 = omega arith in
    ap (λ (x : ℕ). count p (walk l (suc n) 32) + standing l x p) e ∙ ap (λ (x : ℕ). standing l x p) f

-- all seven chains are these and that of state 0
total-standing : (l : List ℕ) (p : ℕ) → total p (read l) ≡ count p (walk l 0 32) + standing l 6 p
unfolding read
total-standing l p = omega arith

-- the loop over the states: those below have been walked
pub record Sofar (st pr : ℕ → ℕ) (l : List ℕ) (state : ℕ) (met : List ℕ) : Type 0 where
  pub low : 1 ≤ state
  pub high : state ≤ 7
  pub ordered : AllOrdered st pr l (state - 1)
  pub marked : Marked l (state - 1) met

unmarked : (n i : ℕ) → get_or (replicate {A = ℕ} n 0) i 0 ≡ 0
unmarked zero i = refl
unmarked (suc n) zero = refl
unmarked (suc n) (suc i) = unmarked n i

pub sofar-start : (st pr : ℕ → ℕ) (l : List ℕ) → Sofar st pr l 1 (replicate 32 0)
sofar-start st pr l = record {
  low = omega arith;
  high = omega arith;
  ordered = λ s a b. absurd (omega arith);
  marked = λ p P. unmarked 32 (p - 1);
}

module _ {st pr : ℕ → ℕ} {l : List ℕ} {state : ℕ} {met : List ℕ} (S : Sofar st pr l state met) where
  module _ (h : state ≤ 6) {ok : Bool} {marks : List ℕ} (W : Walk st pr l state met ok marks) where
    pub sofar-more : not ok ≡ false → Sofar st pr l (state + 1) marks
    sofar-more t = record {
      low = omega arith;
      high = omega arith;
      ordered = λ s a b. go s a b (ℕ_discrete s state);
      marked = λ p P. omega (arith, W.marked (not-false ok t) p P, S.marked p P, standing-more l state p S.low);
    }
      where
        go : (s : ℕ) → 1 ≤ s → s ≤ state + 1 - 1 → Dec (s ≡ state) → Ordered st pr l s (walk l s 32)
        go s a b (yes e) = subst (λ (x : ℕ). Ordered st pr l x (walk l x 32)) (sym e) (W.ordered (not-false ok t))
        go s a b (no w) = S.ordered s a (omega arith)

    pub sofar-refused : not ok ≡ true → AllOrdered st pr l 6 → ⊥
    sofar-refused t A = W.refused (not-true ok t) (A state S.low h) (unmet A)
      where
        -- who is in the chain of this state is in none below
        below : (p : ℕ) → st p ≡ state → (n : ℕ) → standing l (state - 1) p ≡ n → standing l (state - 1) p ≡ 0
        below p e zero z = z
        below p e (suc n) z =
            let r = standing-some l (state - 1) p (omega arith) in
            absurd (omega (arith, (S.ordered r.0 r.1 r.2).state p r.3, S.low, r.2))

        unmet : AllOrdered st pr l 6 → Unmet met (walk l state 32)
        unmet A p k =
            let O = A state S.low h in
            S.marked p (O.within p k) ∙ below p (O.state p k) (standing l (state - 1) p) refl

  pub sofar-end : 6 < state → Walks st pr l met
  sofar-end h = record {
    ordered = λ s a b. S.ordered s a (omega (arith, S.high));
    marked = λ p P. S.marked p P ∙ ap (λ (x : ℕ). standing l x p) six;
  }
    where
      six : state - 1 ≡ 6
      six = omega (arith, S.high)

-- who is settled
settled-true : (mark link state : ℕ) → settled mark link state ≡ true → mark ≡ 0 → (link ≡ 0) × (1 ≤ state → 6 < state)
unfolding settled
settled-true mark link state e z =
    let b = both (eqb link 0) (eqb state 0 || ltb 6 state)
    (unless (eqb mark 0) (eqb link 0 && (eqb state 0 || ltb 6 state)) e (eq-eqb mark 0 z)) in
    (eqb-true link 0 b.0, λ h. ltb-true 6 state (otherwise (eqb state 0) (ltb 6 state) b.1 (ne_eqb state 0 (λ w. omega arith))))

settled_is : (mark link state : ℕ) → (mark ≡ 0 → (link ≡ 0) × (1 ≤ state → 6 < state)) → settled mark link state ≡ true
unfolding settled
settled_is mark link state f =
    implies (eqb mark 0) (eqb link 0 && (eqb state 0 || ltb 6 state)) (λ z.
    let k = f (eqb-true mark 0 z) in
    and (eq-eqb link 0 k.0) (or (eqb state 0) (ltb 6 state) (λ w. lt-ltb 6 state (k.1 (positive state (eqb-false state 0 w))))))
  where
    positive : (n : ℕ) → (n ≡ 0 → ⊥) → 1 ≤ n
    positive zero h = absurd (h refl)
    positive (suc n) h = omega arith

-- the loop over the programs: those below p are settled
pub record Seen (st : ℕ → ℕ) (l : List ℕ) (marks : List ℕ) (p : ℕ) : Type 0 where
  pub low : 1 ≤ p
  pub high : p ≤ 33
  pub dormant : get_or l 0 0 ≡ 0
  pub nobody : get_or l 7 0 ≡ 0
  pub others : (k : ℕ) → 1 ≤ k → k < p → settled (get_or marks (k - 1) 0) (get_or l (7 + k) 0) (st k) ≡ true

-- a test that fails refutes the rest
pub rest-fails : {st : ℕ → ℕ} {l : List ℕ} {marks : List ℕ} → (Rest st l marks → ⊥) → Rests st l marks false
rest-fails f = record { fine = λ e. false-true e; refused = λ e. f }

module _ {st : ℕ → ℕ} {l : List ℕ} {marks : List ℕ} {p : ℕ} (S : Seen st l marks p) where
  module _ (h : p ≤ 32) (b : Bool) (e : b ≡ settled (get_or marks (p - 1) 0) (get_or l (7 + p) 0) (st p)) where
    pub seen-refused : not b ≡ true → Rests st l marks false
    seen-refused t = rest-fails (λ R. clash (R.others p (S.low, h)) (sym e ∙ not-true b t))

    pub seen_more : not b ≡ false → Seen st l marks (p + 1)
    seen_more t = record {
      low = omega arith;
      high = omega arith;
      dormant = S.dormant;
      nobody = S.nobody;
      others = λ k a c. go k a c (ℕ_discrete k p);
    }
      where
        go : (k : ℕ) → 1 ≤ k → k < p + 1 → Dec (k ≡ p) → settled (get_or marks (k - 1) 0) (get_or l (7 + k) 0) (st k) ≡ true
        go k a c (yes i) =
            subst (λ (x : ℕ). settled (get_or marks (x - 1) 0) (get_or l (7 + x) 0) (st x) ≡ true) (sym i) (sym e ∙ not-false b t)
        go k a c (no w) = S.others k a (omega arith)

  pub seen_end : 32 < p → Rests st l marks true
  seen_end h = record {
    fine = λ e. record { dormant = S.dormant; nobody = S.nobody; others = λ k K. S.others k K.0 (omega (arith, K.1)) };
    refused = λ e. false-true (sym e);
  }

-- the clauses say the same where states and priorities do
record Alike (st pr st' pr' : ℕ → ℕ) : Type 0 where
  state : (p : ℕ) → Known p → st p ≡ st' p
  priority : (p : ℕ) → Known p → pr p ≡ pr' p

alike-back : {st pr st' pr' : ℕ → ℕ} → Alike st pr st' pr' → Alike st' pr' st pr
alike-back A = record { state = λ p P. sym (A.state p P); priority = λ p P. sym (A.priority p P) }

module _ {st pr st' pr' : ℕ → ℕ} (A : Alike st pr st' pr') {l : List ℕ} where
  ordered-alike : (s : ℕ) (c : List ℕ) → Ordered st pr l s c → Ordered st' pr' l s c
  ordered-alike s c O = record {
    lies = O.lies;
    within = O.within;
    state = λ p h. sym (A.state p (O.within p h)) ∙ O.state p h;
    once = O.once;
    rising = ascending-map (λ p q. pr p ≤ pr q) (λ p q. pr' p ≤ pr' q) c
        (λ p q a b h. omega (arith, A.priority p (O.within p a), A.priority q (O.within q b))) O.rising;
  }

  rest-alike : (marks : List ℕ) → Rest st l marks → Rest st' l marks
  rest-alike marks R = record {
    dormant = R.dormant;
    nobody = R.nobody;
    others = λ p P. ap (settled (get_or marks (p - 1) 0) (get_or l (7 + p) 0)) (sym (A.state p P)) ∙ R.others p P;
  }

all-alike : {st pr st' pr' : ℕ → ℕ} → Alike st pr st' pr' → {l : List ℕ} → AllOrdered st pr l 6 → AllOrdered st' pr' l 6
all-alike A {l} O s a b = ordered-alike A s (walk l s 32) (O s a b)

module _ {st pr st' pr' : ℕ → ℕ} (A : Alike st pr st' pr') {l : List ℕ} {ok : Bool} {marks : List ℕ} where
  rests-alike : Rests st l marks ok → Rests st' l marks ok
  rests-alike R = record { fine = λ e. rest-alike A marks (R.fine e); refused = λ e F. R.refused e (rest-alike (alike-back A) marks F) }

-- so it is with columns and the records that they are of
abbrev state_in : List Program → ℕ → ℕ
state_in ps p = (record_at ps p).state

columns-alike : {ps : List Program} {ss qs : List ℕ} → Columns ps ss qs → Alike (of_program ss) (of_program qs) (state_in ps) (prio_in ps)
columns-alike C = record {
  state = λ p P. C.states.each (p - 1) (omega (arith, P.0, P.1));
  priority = λ p P. C.priorities.each (p - 1) (omega (arith, P.0, P.1));
}

-- the walks and the rest say that chains and links are sound
module _ (ps : List Program) (l : List ℕ) (met : List ℕ) (M : Marked l 6 met) where
  module _ (A : AllOrdered (state_in ps) (prio_in ps) l 6) (R : Rest (state_in ps) l met) where
    rest_of : (p : ℕ) → Known p → standing l 6 p ≡ 0 → (get_or l (7 + p) 0 ≡ 0) × (1 ≤ (record_at ps p).state → 6 < (record_at ps p).state)
    rest_of p P z = settled-true (get_or met (p - 1) 0) (get_or l (7 + p) 0) (record_at ps p).state (R.others p P) (M p P ∙ z)

    member_of : (s p : ℕ) → 1 ≤ s → s < 7 → Known p → count p (walk l s 32) ≡ same (record_at ps p).state s
    member_of s p a h P = go (ℕ_discrete (record_at ps p).state s) (standing l 6 p) refl (count p (walk l s 32)) refl
      where
        O : Ordered (state_in ps) (prio_in ps) l s (walk l s 32)
        O = A s a (omega arith)

        go : Dec ((record_at ps p).state ≡ s) → (n : ℕ) → standing l 6 p ≡ n → (k : ℕ) → count p (walk l s 32) ≡ k
            → count p (walk l s 32) ≡ same (record_at ps p).state s
        go (yes e) zero z k c = absurd (omega (arith, (rest_of p P z).1 (omega arith)))
        go (yes e) (suc n) z k c =
            let r = standing-some l 6 p (omega arith) in
            let i : s ≡ r.0 = sym e ∙ (A r.0 r.1 r.2).state p r.3 in
            omega (arith, O.once p, ap (λ (x : ℕ). count p (walk l x 32)) i, r.3, ap (λ (x : ℕ). same x s) e, same_refl s)
        go (no w) n z zero c = c ∙ sym (same-ne (record_at ps p).state s w)
        go (no w) n z (suc k) c = absurd (w (O.state p (omega arith)))

    ordered-chains : Chains (book_with ps) (read l)
    ordered-chains = record {
      member = λ s p a h P. ap (count p) (get_d_read l s h) ∙ member_of s p a h P;
      within = λ s p a h k. (A s a (omega arith)).within p (omega (arith, ap (count p) (get_d_read l s h)));
      rising = λ s a h. subst (Ascending (λ p q. prio_in ps p ≤ prio_in ps q)) (sym (get_d_read l s h)) (A s a (omega arith)).rising;
    }

    ordered-links : Links l
    ordered-links = record {
      along = λ s a h. subst (Leads l s) (sym (get_d_read l s h)) (A s a (omega arith)).lies;
      none = R.dormant;
      others = λ p h z. other p h z;
    }
      where
        other : (p : ℕ) → p ≤ 32 → total p (read l) ≡ 0 → get_or l (7 + p) 0 ≡ 0
        other zero h z = R.nobody
        other (suc p) h z = (rest_of (suc p) (omega arith, h) (omega (arith, total-standing l (suc p)))).0

  module _ (C : Chains (book_with ps) (read l)) (L : Links l) where
    empty : get_or (read l) 0 [] ≡ []
    empty = get_d_read l 0 (omega arith) ∙ walk_end l 0 32 L.none

    -- who stands in no chain of states 1 to 6 stands in none at all
    none_at_all : (p : ℕ) → standing l 6 p ≡ 0 → total p (read l) ≡ 0
    none_at_all p z = omega (arith, total-standing l p, ap (count p) (walk_end l 0 32 L.none))

    chains-rest : Rest (state_in ps) l met
    chains-rest = record {
      dormant = L.none;
      nobody = L.others 0 (omega arith) (zero-out (total 0 (read l)) refl);
      others = λ p P. settled_is (get_or met (p - 1) 0) (get_or l (7 + p) 0) (record_at ps p).state (λ z. apart p P (sym (M p P) ∙ z));
    }
      where
        zero-out : (n : ℕ) → total 0 (read l) ≡ n → total 0 (read l) ≡ 0
        zero-out zero e = e
        zero-out (suc n) e = absurd (omega (arith, (chained-within (book_with ps) (read l) (length-read l) empty C 0 (omega arith)).0))

        apart : (p : ℕ) → Known p → standing l 6 p ≡ 0 → (get_or l (7 + p) 0 ≡ 0) × (1 ≤ (record_at ps p).state → 6 < (record_at ps p).state)
        apart p P z = (L.others p P.1 (none_at_all p z), λ h. high h (dec_le (record_at ps p).state 6))
          where
            high : 1 ≤ (record_at ps p).state → Dec ((record_at ps p).state ≤ 6) → 6 < (record_at ps p).state
            high h (no w) = omega arith
            high h (yes k) =
                let s = (record_at ps p).state in
                absurd (omega (
                  arith,
                  C.member s p h (omega arith) P,
                  same_refl s,
                  ap (count p) (get_d_read l s (omega arith)),
                  standing-in l 6 p s h k,
                ))

module _ (ps : List Program) (l : List ℕ) where
  chains-ordered : Chains (book_with ps) (read l) → Links l → AllOrdered (state_in ps) (prio_in ps) l 6
  chains-ordered C L s a b = subst (Ordered (state_in ps) (prio_in ps) l s) (get_d_read l s (omega arith)) (record {
    lies = L.along s a (omega arith);
    within = λ p. C.within s p a (omega arith);
    state = λ p k. same-eq (record_at ps p).state s (omega (arith, C.member s p a (omega arith) (C.within s p a (omega arith) k)));
    once = λ p. once p (count p (get_or (read l) s [])) refl;
    rising = C.rising s a (omega arith);
  })
    where
      once : (p n : ℕ) → count p (get_or (read l) s []) ≡ n → count p (get_or (read l) s []) ≤ 1
      once p zero e = omega arith
      once p (suc n) e =
          omega (arith, C.member s p a (omega arith) (C.within s p a (omega arith) (omega arith)), same-le (record_at ps p).state s)

  no_test : (Chains (book_with ps) (read l) → Links l → ⊥) → false ≡ test_chained ps l
  unfolding test_chained
  no_test f = go (test_chains (book_with ps) (read l)) (test_links l) refl refl
    where
      go : (x y : Bool) → test_chains (book_with ps) (read l) ≡ x → test_links l ≡ y → false ≡ (x && y)
      go false y e k = refl
      go true false e k = refl
      go true true e k = absurd (f (chains-clause (book_with ps) (read l) e) (links-clause l k))

  yes-test : Chains (book_with ps) (read l) → Links l → true ≡ test_chained ps l
  unfolding test_chained
  yes-test C L = sym (and (chains-test (book_with ps) (read l) C) (links-test l L))

-- the test passes where the walks are in order and the rest is settled, and else fails
pub walks-refused : (ss qs l : List ℕ) → (AllOrdered (of_program ss) (of_program qs) l 6 → ⊥) → Chained ss qs l false
walks-refused ss qs l f ps K = no_test ps l (λ C L. f (all-alike (alike-back (columns-alike K)) (chains-ordered ps l C L)))

module _ (ss qs l : List ℕ) {marks : List ℕ} (W : Walks (of_program ss) (of_program qs) l marks) where
  pub walks-rest : (fine : Bool) → Rests (of_program ss) l marks fine → Chained ss qs l fine
  walks-rest fine R ps K = go fine (rests-alike (columns-alike K) R)
    where
      O : AllOrdered (state_in ps) (prio_in ps) l 6
      O = all-alike (columns-alike K) W.ordered

      go : (b : Bool) → Rests (state_in ps) l marks b → b ≡ test_chained ps l
      go true F = yes-test ps l (ordered-chains ps l marks W.marked O (F.fine refl)) (ordered-links ps l marks W.marked O (F.fine refl))
      go false F = no_test ps l (λ C L. F.refused refl (chains-rest ps l marks W.marked C L))
