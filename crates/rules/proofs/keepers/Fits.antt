-- What a chain is (Fits): there is one list of that kind at most, an entering and a leaving program keep it, and `sorted` is it.
-- The replay keeps no chain, so this is where its notes give one: programs in chains have entries that differ, hence
-- the order is strict and the list unique.
-- Assumes nothing.
use Prim.Native.Nat.{ℕ, ◌+◌, ◌≤◌, ◌<◌}
use native.Mathlib.Omega.{arith}
use native.Mathlib.Decide.{ℕ_discrete}
use mathlib.Core.Path.{◌≡◌, refl, sym, ap, ◌∙◌}
use mathlib.Core.Logic.{◌≢◌}
use mathlib.Core.Bool.{Bool, true, false, cond}
use mathlib.Core.List.{List}
use lib.ListN.{length}
use lib.Dec.{eqb}
use borrow.Author.Tests.{eqb-true}
use Rattle.lists.specs.Lists.{hit, same, count, keep, insert, remove}
use Rattle.lists.proofs.Laws.{same_refl, same-ne, same-le, same-eq, count-insert, count-remove, count-remove-le, count-keep, keep-in}
use Rattle.lists.proofs.Laws.{keep-le, ascending-map, ascending-unique, remove-ascending}
use Rattle.records.specs.Records.{Known, all}
use Rattle.rules.specs.Book.{Book, state_of, prio_of}
use Rattle.rules.specs.Keeper.{Entries, earlier, sort, sorted}
use Rattle.rules.specs.Replay.{Before, Fits}
use Rattle.rules.proofs.shared.Places.{known-or, none_other, all_one, all_once, all_in}
use Rattle.rules.proofs.keepers.Sorting.{before-asym, insert-ascending, count-sort, sort-ascending}

-- 32 records, and entries that tell programs in chains apart
pub record Noted (b : Book) (e : Entries) : Type 0 where
  pub long : length b.programs ≡ 32
  pub early : (z : ℕ) → e.entry z < e.next
  pub apart : (y z : ℕ) → Known y → Known z → state_of b y ≢ 0 → state_of b z ≢ 0 → e.entry y ≡ e.entry z → y ≡ z

-- one chain
pub fits-state : (b : Book) (en : ℕ → ℕ) (s : ℕ) (c : List ℕ) → Fits b en s c → (z : ℕ) → 1 ≤ count z c → state_of b z ≡ s
fits-state b en s c F z h = same-eq (state_of b z) s (omega (arith, F.member z (F.within z h)))

pub fits-unique : (b : Book) (en : ℕ → ℕ) (s : ℕ) (c d : List ℕ) → Fits b en s c → Fits b en s d → c ≡ d
fits-unique b en s c d F G =
    ascending-unique (Before (prio_of b) en) (before-asym (prio_of b) en) c d F.ascends G.ascends (λ z. go z (known-or z))
  where
    go : (z : ℕ) → Dec (Known z) → count z c ≡ count z d
    go z (yes h) = F.member z h ∙ sym (G.member z h)
    go z (no h) = none_other c z (F.within z) h ∙ sym (none_other d z (G.within z) h)

module _ (b b' : Book) (en en' : ℕ → ℕ) (s : ℕ) (c : List ℕ) (F : Fits b en s c) where
  -- a change that does not concern the chain
  pub fits-edit : ((z : ℕ) → Known z → same (state_of b' z) s ≡ same (state_of b z) s)
      → ((z : ℕ) → Known z → state_of b z ≡ s → prio_of b' z ≡ prio_of b z)
      → ((z : ℕ) → Known z → state_of b z ≡ s → en' z ≡ en z) → Fits b' en' s c
  fits-edit f g h = record {
    member = λ z k. F.member z k ∙ sym (f z k);
    within = F.within;
    ascends = ascending-map (Before (prio_of b) en) (Before (prio_of b') en') c
        (λ x y i j r.
        let px : prio_of b' x ≡ prio_of b x = g x (F.within x i) (fits-state b en s c F x i) in
        let py : prio_of b' y ≡ prio_of b y = g y (F.within y j) (fits-state b en s c F y j) in (
          omega arith,
          λ l. omega (
            arith,
            r.1 (omega arith),
            h x (F.within x i) (fits-state b en s c F x i),
            h y (F.within y j) (fits-state b en s c F y j),
          ),
        ))
        F.ascends;
  }

module _ (b b' : Book) (p : ℕ) (P : Known p) (O : (z : ℕ) → Known z → z ≢ p → state_of b' z ≡ state_of b z)
    (Q : (z : ℕ) → Known z → state_of b z ≢ 0 → prio_of b' z ≡ prio_of b z) where
  -- who stands in a chain keeps its priority
  priced-same : (en : ℕ → ℕ) (s : ℕ) (c : List ℕ) → 1 ≤ s → Fits b en s c → (x : ℕ) → 1 ≤ count x c → prio_of b' x ≡ prio_of b x
  priced-same en s c l F x i = Q x (F.within x i) (λ z. omega (arith, z, fits-state b en s c F x i))

  pub fits-remove : (en : ℕ → ℕ) (s : ℕ) (c : List ℕ) → 1 ≤ s → Fits b en s c → state_of b p ≡ s → state_of b' p ≢ s
      → Fits b' en s (remove p c)
  fits-remove en s c o F h k = record {
    member = λ z Z. at z Z (ℕ_discrete z p);
    within = λ z l. F.within z (omega (arith, count-remove-le z p c));
    ascends = remove-ascending (Before (prio_of b') en) p c (ascending-map (Before (prio_of b) en) (Before (prio_of b') en) c
        (λ x y i j r. (omega (arith, same-price x i, same-price y j), λ l. r.1 (omega (arith, same-price x i, same-price y j))))
        F.ascends);
  }
    where
      same-price : (x : ℕ) → 1 ≤ count x c → prio_of b' x ≡ prio_of b x
      same-price = priced-same en s c o F

      there : 1 ≤ count p c
      there = omega (arith, F.member p P, ap (λ (x : ℕ). same x s) h, same_refl s)

      at : (z : ℕ) → Known z → Dec (z ≡ p) → count z (remove p c) ≡ same (state_of b' z) s
      at z Z (yes e) =
          rw e (omega (arith, count-remove p p c there, same_refl p, F.member p P, same-le (state_of b p) s, same-ne (state_of b' p) s k))
      at z Z (no n) = omega (arith, count-remove z p c there, same-ne z p n, F.member z Z, ap (λ (x : ℕ). same x s) (O z Z n))

  pub fits-insert : (en en' : ℕ → ℕ) (s : ℕ) (c : List ℕ) → 1 ≤ s → Fits b en s c → state_of b p ≢ s → state_of b' p ≡ s
      → ((z : ℕ) → z ≢ p → en' z ≡ en z) → ((z : ℕ) → en z < en' p) → Fits b' en' s (insert (prio_of b') p c)
  fits-insert en en' s c o F h k f g = record {
    member = λ z Z. omega (arith, count-insert (prio_of b') z p c, at z Z (ℕ_discrete z p));
    within = λ z l. inn z (ℕ_discrete z p) (omega (arith, count-insert (prio_of b') z p c));
    ascends = insert-ascending (prio_of b') en' p c (λ r i. omega (arith, f r (ne r i), g r))
        (ascending-map (Before (prio_of b) en) (Before (prio_of b') en') c
        (λ x y i j r. (
          omega (arith, same-price x i, same-price y j),
          λ l. omega (arith, f x (ne x i), f y (ne y j), r.1 (omega (arith, same-price x i, same-price y j))),
        )) F.ascends);
  }
    where
      same-price : (x : ℕ) → 1 ≤ count x c → prio_of b' x ≡ prio_of b x
      same-price = priced-same en s c o F

      ne : (x : ℕ) → 1 ≤ count x c → x ≢ p
      ne x i e = omega (arith, rw e at i, F.member p P, same-ne (state_of b p) s h)

      at : (z : ℕ) → Known z → Dec (z ≡ p) → same z p + count z c ≡ same (state_of b' z) s
      at z Z (yes e) = rw e (omega (arith, same_refl p, F.member p P, same-ne (state_of b p) s h, ap (λ (x : ℕ). same x s) k, same_refl s))
      at z Z (no n) = omega (arith, same-ne z p n, F.member z Z, ap (λ (x : ℕ). same x s) (O z Z n))

      inn : (z : ℕ) → Dec (z ≡ p) → 1 ≤ same z p + count z c → Known z
      inn z (yes e) l = rw e P
      inn z (no n) l = F.within z (omega (arith, same-ne z p n))

-- the sorted programs of a state are its chain
module _ (b : Book) (e : Entries) (N : Noted b e) (s : ℕ) (l : 1 ≤ s) where
  here : List ℕ
  here = keep (λ p. eqb (state_of b p) s) all

  here_in : (x : ℕ) → 1 ≤ count x here → (state_of b x ≡ s) × Known x
  unfolding here
  here_in x h = let k = keep-in (λ p. eqb (state_of b p) s) x all h in (eqb-true (state_of b x) s k.0, all_in x k.1)

  here-once : (x : ℕ) → count x here ≤ 1
  unfolding here
  here-once x = omega (arith, keep-le (λ p. eqb (state_of b p) s) x all, all_once x)

  here-count : (x : ℕ) → Known x → count x here ≡ same (state_of b x) s
  unfolding here same
  here-count x X = count-keep (λ p. eqb (state_of b p) s) x all ∙ ap (λ (n : ℕ). cond (eqb (state_of b x) s) n 0) (all_one x X)
      ∙ bit (eqb (state_of b x) s)
    where
      bit : (x : Bool) → cond {A = ℕ} x 1 0 ≡ hit x
      bit true = refl
      bit false = refl

  sorted-here : sorted b e s ≡ sort (earlier (prio_of b) e.entry) here
  unfolding sorted here
  sorted-here = refl

  pub sorted-fits : Fits b e.entry s (sorted b e s)
  sorted-fits = rw sorted-here (record {
    member = λ z Z. count-sort (earlier (prio_of b) e.entry) z here ∙ here-count z Z;
    within = λ z h. (here_in z (omega (arith, count-sort (earlier (prio_of b) e.entry) z here))).1;
    ascends = sort-ascending (prio_of b) e.entry here here-once
        (λ x y h k q. N.apart x y (here_in x h).1 (here_in y k).1 (λ w. omega (arith, (here_in x h).0, w))
        (λ w. omega (arith, (here_in y k).0, w)) q);
  })
