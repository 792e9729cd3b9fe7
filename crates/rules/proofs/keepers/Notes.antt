-- Chains that are in order have notes of entries that account for them: so what is shown of a run holds from any
-- sound tables on, whatever led to them.
-- The notes: a program's place in its chain, times a stride, and its own number. They differ, since the numbers are below
-- the stride, and in one chain they grow.
-- Assumes nothing.
use Prim.Native.Nat.{ℕ, zero, suc, ◌+◌, ◌*◌, ◌≤◌, ◌<◌}
use native.Mathlib.Omega.{arith}
use mathlib.Core.Path.{◌≡◌, refl, sym, ap, ◌∙◌}
use mathlib.Core.Logic.{◌≢◌}
use mathlib.Core.Bool.{Bool, true, false, cond}
use mathlib.Core.List.{List, [], ◌∷◌}
use lib.ListN.{length, get_or}
use lib.Dec.{eqb}
use borrow.Author.Tests.{eq-eqb, ne_eqb}
use Rattle.lists.specs.Lists.{same, count, Ascending}
use Rattle.lists.proofs.Laws.{same_refl, same-le, same-eq, ascending-map}
use Rattle.records.specs.Records.{Known, known}
use Rattle.rules.specs.Book.{Book, state_of, prio_of}
use Rattle.rules.specs.Keeper.{lists, entries, Entries, State}
use Rattle.rules.specs.Sound.{Chains}
use Rattle.rules.specs.Replay.{Before, Accounts}
use Rattle.rules.proofs.shared.Places.{known-true, known_is}
use Rattle.rules.proofs.keepers.Alike.{Alike}

-- chains that are accounted for are in order
pub alike-chained : (a : State lists) (t : State entries) → Alike a t → Chains a.book a.kept
alike-chained a t A = record {
  member = λ s p l h P. (A.fits s l h).member p P;
  within = λ s p l h k. (A.fits s l h).within p k;
  rising = λ s l h.
      ascending-map (Before (prio_of a.book) t.kept.entry) (λ p q. prio_of a.book p ≤ prio_of a.book q) (get_or a.kept s [])
      (λ x y i j r. r.0) (A.fits s l h).ascends;
}

-- states that are alike, and entries that account for the chains, are the same thing said twice
pub alike-accounts : (a : State lists) (t : State entries) → Alike a t → Accounts a t.kept
alike-accounts a t A = record { early = A.noted.early; apart = A.noted.apart; fits = A.fits }

pub accounts-alike : (a : State lists) (e : Entries) → length a.book.programs ≡ 32 → length a.kept ≡ 7 → Accounts a e
    → Alike a (record { book = a.book; kept = e })
accounts-alike a e L K A = record {
  book = refl;
  noted = record { long = L; early = A.early; apart = A.apart };
  seven = K;
  fits = A.fits;
}

-- where z stands in a chain
index : ℕ → List ℕ → ℕ
index z [] = 0
index z (q ∷ qs) = cond (eqb z q) 0 (suc (index z qs))

index-here : (q : ℕ) (qs : List ℕ) → index q (q ∷ qs) ≡ 0
unfolding index
index-here q qs = rw (eq-eqb q q refl)

index-there : (z q : ℕ) (qs : List ℕ) → z ≢ q → index z (q ∷ qs) ≡ suc (index z qs)
unfolding index
index-there z q qs n = rw (ne_eqb z q n)

index-le : (z : ℕ) (c : List ℕ) → index z c ≤ length c
unfolding index
index-le z [] = omega arith
index-le z (q ∷ qs) = go (eqb z q) (index-le z qs)
  where
    go : (b : Bool) → index z qs ≤ length qs → cond b 0 (suc (index z qs)) ≤ suc (length qs)
    go true h = omega arith
    go false h = omega arith

module _ (R : ℕ → ℕ → Type 0) where
  index-ascending : (c : List ℕ) → ((x : ℕ) → count x c ≤ 1) → Ascending R c → Ascending (λ x y. R x y × (index x c < index y c)) c
  index-ascending [] o A = tt
  index-ascending (q ∷ qs) o A = (
    (λ r h. (A.0 r h, omega (arith, index-here q qs, index-there r q qs (ne r h)))),
    ascending-map (λ x y. R x y × (index x qs < index y qs)) (λ x y. R x y × (index x (q ∷ qs) < index y (q ∷ qs))) qs
        (λ x y i j r. (r.0, omega (arith, r.1, index-there x q qs (ne x i), index-there y q qs (ne y j))))
        (index-ascending qs (λ x. omega (arith, o x)) A.1),
  )
    where
      ne : (x : ℕ) → 1 ≤ count x qs → x ≢ q
      ne x h e = omega (arith, o x, ap (same x) e, same_refl x)

-- all programs in chains
size : List (List ℕ) → ℕ
size [] = 0
size (c ∷ m) = length c + size m

size-le : (m : List (List ℕ)) (s : ℕ) → length (get_or m s []) ≤ size m
unfolding size
size-le [] s = omega arith
size-le (c ∷ m) zero = omega arith
size-le (c ∷ m) (suc s) = omega (arith, size-le m s)

-- above every program's number
abbrev stride : ℕ
stride = 33

module _ (b : Book) (m : List (List ℕ)) where
  chain : ℕ → List ℕ
  chain s = get_or m s []

  mark : ℕ → ℕ
  mark z = index z (chain (state_of b z)) * stride + z

  pub notes : Entries
  notes = record { entry = λ z. cond (known z) (mark z) 0; next = suc (size m * stride + stride) }

  entry-is : (z : ℕ) → Known z → notes.entry z ≡ mark z
  unfolding notes
  entry-is z Z = rw (known_is z Z)

  early : (z : ℕ) → notes.entry z < notes.next
  unfolding notes mark chain
  early z = go (known z) refl
    where
      go : (x : Bool) → known z ≡ x → cond x (mark z) 0 < suc (size m * stride + stride)
      go true h = omega (arith, (known-true z h).1, index-le z (chain (state_of b z)), size-le m (state_of b z))
      go false h = omega arith

  apart : (y z : ℕ) → Known y → Known z → notes.entry y ≡ notes.entry z → y ≡ z
  unfolding mark
  apart y z Y Z e =
      let i : ℕ = index y (chain (state_of b y)) in
      let j : ℕ = index z (chain (state_of b z)) in
      let marks : i * stride + y ≡ j * stride + z = sym (entry-is y Y) ∙ e ∙ entry-is z Z in
      omega arith

  module _ (C : Chains b m) where
    once : (s : ℕ) → 1 ≤ s → s < 7 → (x : ℕ) → count x (get_or m s []) ≤ 1
    once s l h x = go (count x (get_or m s [])) refl
      where
        go : (n : ℕ) → count x (get_or m s []) ≡ n → count x (get_or m s []) ≤ 1
        go zero e = omega arith
        go (suc n) e = omega (arith, C.member s x l h (C.within s x l h (omega arith)), same-le (state_of b x) s)

    marked : (s x : ℕ) → 1 ≤ s → s < 7 → 1 ≤ count x (get_or m s []) → notes.entry x ≡ index x (get_or m s []) * stride + x
    unfolding mark chain
    marked s x l h k =
        let X = C.within s x l h k in
        let e : state_of b x ≡ s = same-eq (state_of b x) s (omega (arith, C.member s x l h X)) in
        entry-is x X ∙ ap (λ (y : ℕ). index x (get_or m y []) * stride + x) e

-- chains in order are accounted for
pub chained-accounts : (a : State lists) → Chains a.book a.kept → Accounts a (notes a.book a.kept)
chained-accounts a C = record {
  early = early a.book a.kept;
  apart = λ y z Y Z h k. apart a.book a.kept y z Y Z;
  fits = λ s l h. record {
    member = λ z. C.member s z l h;
    within = λ z. C.within s z l h;
    ascends = ascending-map
        (λ x y. (prio_of a.book x ≤ prio_of a.book y) × (index x (get_or a.kept s []) < index y (get_or a.kept s [])))
        (Before (prio_of a.book) (notes a.book a.kept).entry) (get_or a.kept s [])
        (λ x y i j r. (
          r.0,
          λ q.
              omega (
                arith,
                r.1,
                marked a.book a.kept C s x l h i,
                marked a.book a.kept C s y l h j,
                (C.within s x l h i).1,
                (C.within s y l h j).0,
              ),
        ))
        (index-ascending (λ x y. prio_of a.book x ≤ prio_of a.book y) (get_or a.kept s []) (once a.book a.kept C s l h)
        (C.rising s l h));
  };
}

-- so every state with its chains in order has one that it is alike to
pub chained-alike : (a : State lists) → length a.book.programs ≡ 32 → length a.kept ≡ 7 → Chains a.book a.kept
    → Alike a (record { book = a.book; kept = notes a.book a.kept })
chained-alike a L K C = accounts-alike a (notes a.book a.kept) L K (chained-accounts a C)
