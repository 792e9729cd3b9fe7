-- The first entries account for the chains of sound tables: programs that enter in turn have numbers that grow along the list, and a chain
-- is a piece of it. No program stands twice in all the chains, so no number is given twice.
-- Assumes nothing.
use Prim.Native.Nat.{ℕ, zero, suc, ◌+◌, ◌≤◌, ◌<◌}
use native.Mathlib.Omega.{arith}
use native.Mathlib.Decide.{ℕ_discrete}
use mathlib.Core.Path.{◌≡◌, refl, sym, ap, ◌∙◌}
use mathlib.Core.Logic.{◌≢◌}
use mathlib.Core.Bool.{Bool, true, false, cond}
use mathlib.Core.List.{List, [], ◌∷◌, ◌++◌}
use lib.ListN.{length, get_or}
use lib.Dec.{eqb}
use borrow.Author.Tests.{eq-eqb, ne_eqb}
use Rattle.lists.specs.Lists.{same, count, join, Ascending}
use Rattle.lists.proofs.Laws.{same_refl, same-ne, same-eq, ascending-map, count-append}
use Rattle.records.specs.Records.{Known}
use Rattle.rules.specs.Book.{Book, state_of, prio_of}
use Rattle.rules.specs.Keeper.{lists, entries, Entries, State}
use Rattle.rules.specs.Sound.{Chains}
use Rattle.rules.specs.Replay.{Before, Accounts}
use Rattle.chains.specs.Links.{total}
use Rattle.chains.proofs.Totals.{total-in}
use Rattle.tables.proofs.Members.{chained-once}
use Rattle.history.specs.Demand.{in_turn, first_entries}

-- ASCENDING LISTS: two orders at once, the pieces of a list, and numbers that grow are apart
ascending-both : (R S : ℕ → ℕ → Type 0) (c : List ℕ) → Ascending R c → Ascending S c → Ascending (λ x y. R x y × S x y) c
ascending-both R S [] A B = tt
ascending-both R S (q ∷ qs) A B = (λ r h. (A.0 r h, B.0 r h), ascending-both R S qs A.1 B.1)

module _ (R : ℕ → ℕ → Type 0) where
  ascending-front : (c d : List ℕ) → Ascending R (c ++ d) → Ascending R c
  ascending-front [] d A = tt
  ascending-front (q ∷ qs) d A = (λ r h. A.0 r (omega (arith, count-append r qs d)), ascending-front qs d A.1)

  ascending-behind : (c d : List ℕ) → Ascending R (c ++ d) → Ascending R d
  ascending-behind [] d A = A
  ascending-behind (q ∷ qs) d A = ascending-behind qs d A.1

  ascending-piece : (m : List (List ℕ)) (s : ℕ) → Ascending R (join m) → Ascending R (get_or m s [])
  ascending-piece [] s A = tt
  ascending-piece (c ∷ m) zero A = ascending-front c (join m) A
  ascending-piece (c ∷ m) (suc s) A = ascending-piece m s (ascending-behind c (join m) A)

growing-apart : (f : ℕ → ℕ) (c : List ℕ) → Ascending (λ x y. f x < f y) c → (y z : ℕ) → 1 ≤ count y c → 1 ≤ count z c → f y ≡ f z → y ≡ z
growing-apart f [] A y z h k e = absurd (omega arith)
growing-apart f (q ∷ qs) A y z h k e = go (ℕ_discrete y q) (ℕ_discrete z q) (growing-apart f qs A.1 y z)
  where
    go : Dec (y ≡ q) → Dec (z ≡ q) → (1 ≤ count y qs → 1 ≤ count z qs → f y ≡ f z → y ≡ z) → y ≡ z
    go (yes a) (yes b) ih = a ∙ sym b
    go (yes a) (no b) ih = absurd (omega (arith, A.0 z (omega (arith, same-ne z q b)), ap f a, e))
    go (no a) (yes b) ih = absurd (omega (arith, A.0 y (omega (arith, same-ne y q a)), ap f b, e))
    go (no a) (no b) ih = ih (omega (arith, same-ne y q a)) (omega (arith, same-ne z q b)) e

count-join : (x : ℕ) (m : List (List ℕ)) → count x (join m) ≡ total x m
count-join x [] = refl
count-join x (c ∷ m) = count-append x c (join m) ∙ ap (λ (n : ℕ). count x c + n) (count-join x m)

-- PROGRAMS THAT ENTER IN TURN
module _ (b : Book) where
  enters : ℕ → Entries → Entries
  enters p e = entries.entered b p (state_of b p) e

  -- the number of p, which enters; another's is what it was
  enters-own : (p : ℕ) (e : Entries) → (enters p e).entry p ≡ e.next
  unfolding enters
  enters-own p e = rw (eq-eqb p p refl)

  enters-other : (p z : ℕ) (e : Entries) → z ≢ p → (enters p e).entry z ≡ e.entry z
  unfolding enters
  enters-other p z e n = rw (ne_eqb z p n)

  -- each number is below the next one
  enters-early : (p : ℕ) (e : Entries) → ((z : ℕ) → e.entry z < e.next) → (z : ℕ) → (enters p e).entry z < (enters p e).next
  unfolding enters
  enters-early p e h z = go (eqb z p)
    where
      go : (t : Bool) → cond t e.next (e.entry z) < suc e.next
      go true = omega arith
      go false = omega (arith, h z)

  turn-early : (ps : List ℕ) (e : Entries) → ((z : ℕ) → e.entry z < e.next) → (z : ℕ) → (in_turn b ps e).entry z < (in_turn b ps e).next
  unfolding in_turn enters
  turn-early [] e h z = h z
  turn-early (p ∷ ps) e h z = turn-early ps (enters p e) (enters-early p e h) z

  -- who is not in the list keeps the number it had; who is has one from the next on
  turn-out : (ps : List ℕ) (e : Entries) (z : ℕ) → count z ps ≡ 0 → (in_turn b ps e).entry z ≡ e.entry z
  unfolding in_turn enters
  turn-out [] e z h = refl
  turn-out (p ∷ ps) e z h =
      turn-out ps (enters p e) z (omega arith) ∙ enters-other p z e (λ i. omega (arith, same_refl z, ap (same z) i))

  turn_in : (ps : List ℕ) (e : Entries) (z : ℕ) → 1 ≤ count z ps → e.next ≤ (in_turn b ps e).entry z
  unfolding in_turn enters
  turn_in [] e z h = absurd (omega arith)
  turn_in (p ∷ ps) e z h = go (count z ps) refl (turn_in ps (enters p e) z)
    where
      go : (n : ℕ) → count z ps ≡ n → (1 ≤ count z ps → suc e.next ≤ (in_turn b ps (enters p e)).entry z)
          → e.next ≤ (in_turn b ps (enters p e)).entry z
      go zero i ih =
          let w : z ≡ p = same-eq z p (omega arith) in
          omega (arith, turn-out ps (enters p e) z i, ap (enters p e).entry w, enters-own p e)
      go (suc n) i ih = omega (arith, ih (omega arith))

  -- the numbers grow along a list in which nobody stands twice
  turn-grows : (ps : List ℕ) (e : Entries) → ((x : ℕ) → count x ps ≤ 1)
      → Ascending (λ x y. (in_turn b ps e).entry x < (in_turn b ps e).entry y) ps
  unfolding in_turn enters
  turn-grows [] e o = tt
  turn-grows (p ∷ ps) e o = (
    λ r h.
        omega (arith, turn-out ps (enters p e) p (omega (arith, o p, same_refl p)), enters-own p e, turn_in ps (enters p e) r h),
    turn-grows ps (enters p e) (λ x. omega (arith, o x)),
  )

-- THE FIRST ENTRIES
module _ (a : State lists) (seven : length a.kept ≡ 7) (none : get_or a.kept 0 [] ≡ []) (C : Chains a.book a.kept) where
  grows : Ascending (λ x y. (first_entries a).kept.entry x < (first_entries a).kept.entry y) (join a.kept)
  grows = turn-grows a.book (join a.kept) entries.none
      (λ x. omega (arith, count-join x a.kept, chained-once a.book a.kept seven none C x))

  -- a program that is not dormant stands in its chain
  chained : ((z : ℕ) → Known z → state_of a.book z < 7) → (z : ℕ) → Known z → state_of a.book z ≢ 0 → 1 ≤ count z (join a.kept)
  chained below z Z n =
      let s : ℕ = state_of a.book z in
      omega (
        arith,
        count-join z a.kept,
        total-in z a.kept s,
        C.member s z (omega (arith, n)) (below z Z) Z,
        same_refl s,
      )

  pub first-accounts : ((z : ℕ) → Known z → state_of a.book z < 7) → Accounts a (first_entries a).kept
  first-accounts below = record {
    early = turn-early a.book (join a.kept) entries.none (λ z. omega arith);
    apart = λ y z Y Z h k.
        growing-apart (first_entries a).kept.entry (join a.kept) grows y z (chained below y Y h) (chained below z Z k);
    fits = λ s l h. record {
      member = λ z. C.member s z l h;
      within = λ z. C.within s z l h;
      ascends = ascending-map
          (λ x y. (prio_of a.book x ≤ prio_of a.book y) × ((first_entries a).kept.entry x < (first_entries a).kept.entry y))
          (Before (prio_of a.book) (first_entries a).kept.entry) (get_or a.kept s []) (λ x y i j r. (r.0, λ q. r.1))
          (ascending-both (λ x y. prio_of a.book x ≤ prio_of a.book y)
          (λ x y. (first_entries a).kept.entry x < (first_entries a).kept.entry y) (get_or a.kept s []) (C.rising s l h)
          (ascending-piece (λ x y. (first_entries a).kept.entry x < (first_entries a).kept.entry y) a.kept s grows));
    };
  }
