-- The test of blank entries says what its clause says, both ways.
-- Assumes nothing.
use Prim.Native.Nat.{ℕ, zero, suc, ◌+◌, ◌-◌, ◌≤◌}
use native.Mathlib.Omega.{arith}
use mathlib.Core.Path.{◌≡◌, refl, sym, ap, ◌∙◌}
use mathlib.Core.Bool.{true, ◌&&◌}
use mathlib.Core.List.{List, [], ◌∷◌}
use lib.ListN.{get_or, drop}
use lib.Seq.{get_or-drop}
use lib.Dec.{eqb}
use borrow.Author.Tests.{eq-eqb, eqb-true}
use Rattle.lists.proofs.Tests.{both, and}
use Rattle.records.specs.declared.Resource.{Resource}
use Rattle.records.specs.Numbers.{free}
use Rattle.tracks.specs.Tracks.{nobody, places}
use Rattle.ledger.specs.declared.Ledger.{Ledger}
use Rattle.ledger.specs.Ledger.{Blank, no_holders, no_numbers, test_blank}

-- lists of blanks
holders-true : (xs : List ℕ) → no_holders xs ≡ true → (i : ℕ) → get_or xs i nobody ≡ nobody
holders-true [] e i = refl
holders-true (x ∷ xs) e zero = eqb-true x nobody (both (eqb x nobody) (no_holders xs) e).0
holders-true (x ∷ xs) e (suc i) = holders-true xs (both (eqb x nobody) (no_holders xs) e).1 i

holders-is : (xs : List ℕ) → ((i : ℕ) → get_or xs i nobody ≡ nobody) → no_holders xs ≡ true
holders-is [] h = refl
holders-is (x ∷ xs) h = and (eq-eqb x nobody (h 0)) (holders-is xs (λ i. h (suc i)))

free-true : (x : Resource) → (eqb x.owner 0 && eqb x.lock 0) ≡ true → x ≡ free
free-true x e =
    let b = both (eqb x.owner 0) (eqb x.lock 0) e in
    let o = eqb-true x.owner 0 b.0 in
    let k = eqb-true x.lock 0 b.1 in
    λ i. record { owner = o i; lock = k i }

free-is : (x : Resource) → x ≡ free → (eqb x.owner 0 && eqb x.lock 0) ≡ true
free-is x e = rw e

numbers-true : (xs : List Resource) → no_numbers xs ≡ true → (i : ℕ) → get_or xs i free ≡ free
numbers-true [] e i = refl
numbers-true (x ∷ xs) e zero = free-true x (both (eqb x.owner 0 && eqb x.lock 0) (no_numbers xs) e).0
numbers-true (x ∷ xs) e (suc i) = numbers-true xs (both (eqb x.owner 0 && eqb x.lock 0) (no_numbers xs) e).1 i

numbers-is : (xs : List Resource) → ((i : ℕ) → get_or xs i free ≡ free) → no_numbers xs ≡ true
numbers-is [] h = refl
numbers-is (x ∷ xs) h = and (free-is x (h 0)) (numbers-is xs (λ i. h (suc i)))

-- what stands at i stands at i - n behind the first n
behind : {A : Type 0} (n i : ℕ) (xs : List A) (d : A) → n ≤ i → get_or (drop n xs) (i - n) d ≡ get_or xs i d
behind n i xs d h = get_or-drop n xs (i - n) d ∙ ap (λ (k : ℕ). get_or xs k d) (omega arith)

pub blank-clause : (l : Ledger) → test_blank l ≡ true → Blank l
unfolding test_blank
blank-clause l e =
    let b = both (no_holders (drop l.tracks.count (places l.tracks)))
    (no_numbers (drop l.numbers.count l.numbers.resources)) e in
    record {
      tracks = λ i h. sym (behind l.tracks.count i (places l.tracks) nobody h)
          ∙ holders-true (drop l.tracks.count (places l.tracks)) b.0 (i - l.tracks.count);
      numbers = λ r h. sym (behind l.numbers.count (r - 1) l.numbers.resources free (omega arith))
          ∙ numbers-true (drop l.numbers.count l.numbers.resources) b.1 (r - 1 - l.numbers.count);
    }

pub blank-test : (l : Ledger) → Blank l → test_blank l ≡ true
unfolding test_blank
blank-test l B =
    and
    (holders-is (drop l.tracks.count (places l.tracks)) (λ i.
    get_or-drop l.tracks.count (places l.tracks) i nobody ∙ B.tracks (l.tracks.count + i) (omega arith)))
    (numbers-is (drop l.numbers.count l.numbers.resources) (λ i.
    get_or-drop l.numbers.count l.numbers.resources i free
    ∙ ap (λ (k : ℕ). get_or l.numbers.resources k free) (omega arith)
    ∙ B.numbers (l.numbers.count + i + 1) (omega arith)))
