-- The test of links says what its clause says, both ways.
-- Assumes nothing.
use Prim.Native.Nat.{ℕ, ◌+◌}
use native.Mathlib.Omega.{arith}
use mathlib.Core.Path.{◌≡◌}
use mathlib.Core.Bool.{Bool, true, not, ◌&&◌, ◌||◌}
use mathlib.Core.List.{List, [], ◌∷◌}
use lib.ListN.{get_or}
use lib.Dec.{eqb}
use borrow.Author.Tests.{eq-eqb, eqb-true}
use Rattle.lists.specs.Lists.{every, from}
use Rattle.lists.proofs.Laws.{count-from, from_in}
use Rattle.lists.proofs.Tests.{both, and, unless, implies, every_in, every-is}
use Rattle.chains.specs.Links.{read, Leads, leads, total, Links, test_links}

leads-true : (l : List ℕ) (s : ℕ) (c : List ℕ) → leads l s c ≡ true → Leads l s c
leads-true l s [] e = eqb-true (get_or l s 0) 0 e
leads-true l s (q ∷ qs) e =
    let b = both (eqb (get_or l s 0) q) (leads l (7 + q) qs) e in
    (eqb-true (get_or l s 0) q b.0, leads-true l (7 + q) qs b.1)

leads-is : (l : List ℕ) (s : ℕ) (c : List ℕ) → Leads l s c → leads l s c ≡ true
leads-is l s [] e = eq-eqb (get_or l s 0) 0 e
leads-is l s (q ∷ qs) e = and (eq-eqb (get_or l s 0) q e.0) (leads-is l (7 + q) qs e.1)

along : List ℕ → ℕ → Bool
along l s = leads l s (get_or (read l) s [])

other : List ℕ → ℕ → Bool
other l p = not (eqb (total p (read l)) 0) || eqb (get_or l (7 + p) 0) 0

pub links-clause : (l : List ℕ) → test_links l ≡ true → Links l
unfolding test_links along other
links-clause l e =
    let b = both (every (along l) (from 1 6) && eqb (get_or l 0 0) 0) (every (other l) (from 0 33)) e in
    let a = both (every (along l) (from 1 6)) (eqb (get_or l 0 0) 0) b.0 in
    record {
      along = λ s k h.
          leads-true l s (get_or (read l) s []) (every_in (along l) (from 1 6) a.0 s (omega (arith, count-from s 1 6 k (omega arith))));
      none = eqb-true (get_or l 0 0) 0 a.1;
      others = λ p h z. eqb-true (get_or l (7 + p) 0) 0
          (unless (eqb (total p (read l)) 0) (eqb (get_or l (7 + p) 0) 0)
          (every_in (other l) (from 0 33) b.1 p (omega (arith, count-from p 0 33 (omega arith) (omega arith))))
          (eq-eqb (total p (read l)) 0 z));
    }

pub links-test : (l : List ℕ) → Links l → test_links l ≡ true
unfolding test_links along other
links-test l L =
    and
    (and
    (every-is (along l) (from 1 6)
    (λ s k. leads-is l s (get_or (read l) s []) (L.along s (from_in s 1 6 k).0 (omega (arith, (from_in s 1 6 k).1)))))
    (eq-eqb (get_or l 0 0) 0 L.none))
    (every-is (other l) (from 0 33) (λ p k.
    implies (eqb (total p (read l)) 0) (eqb (get_or l (7 + p) 0) 0) (λ z.
    eq-eqb (get_or l (7 + p) 0) 0 (L.others p (omega (arith, (from_in p 0 33 k).1)) (eqb-true (total p (read l)) 0 z)))))
