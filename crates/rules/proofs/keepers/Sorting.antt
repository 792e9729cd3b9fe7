-- Laws of the order that the replay gives: a program before another, a chain with one that enters last, and what sorting
-- makes of programs that stand once each.
-- All go by counts: what is inserted stands once more than before, and the order is checked against it and the rest.
-- Assumes nothing.
use Prim.Native.Nat.{ℕ, ◌+◌, ◌≤◌, ◌<◌}
use native.Mathlib.Omega.{arith}
use mathlib.Core.Path.{◌≡◌, refl, ap, ◌∙◌}
use mathlib.Core.Logic.{◌≢◌}
use mathlib.Core.Bool.{Bool, true, false, cond}
use mathlib.Core.List.{List, [], ◌∷◌}
use lib.Dec.{leb, eqb}
use borrow.Author.Tests.{eqb-true, eqb-false, leb-true, leb-false}
use Rattle.lists.specs.Lists.{same, count, insert_by, insert, Ascending}
use Rattle.lists.proofs.Laws.{same_refl, count-cond, count-insert, among}
use Rattle.rules.specs.Keeper.{earlier, sort}
use Rattle.rules.specs.Replay.{Before}

pub before-asym : (pr en : ℕ → ℕ) (x y : ℕ) → Before pr en x y → Before pr en y x → ⊥
before-asym pr en x y h k = omega (arith, h.1 k.0, k.1 h.0)

pub before-trans : (pr en : ℕ → ℕ) (x y z : ℕ) → Before pr en x y → Before pr en y z → Before pr en x z
before-trans pr en x y z h k = (omega arith, λ l. omega (arith, h.1 (omega arith), k.1 (omega arith)))

-- one that enters last, behind its equals, keeps a chain ascending
module _ (pr en : ℕ → ℕ) (p : ℕ) where
  enter_step : (b : Bool) (q : ℕ) (qs : List ℕ) → leb (pr q) (pr p) ≡ b → en q < en p → Ascending (Before pr en) (q ∷ qs)
      → Ascending (Before pr en) (insert pr p qs) → Ascending (Before pr en) (cond b (q ∷ insert pr p qs) (p ∷ q ∷ qs))
  enter_step true q qs t l S ih =
      (λ r h. among (Before pr en q) p r qs (leb-true (pr q) (pr p) t, λ k. l) (S.0 r) (omega (arith, count-insert pr r p qs)), ih)
  enter_step false q qs t l S ih =
      let lt : pr p < pr q = leb-false (pr q) (pr p) t in
      let f : Before pr en p q = (omega arith, λ k. absurd (omega arith)) in
      (λ r. among (Before pr en p) q r qs f (λ h. before-trans pr en p q r f (S.0 r h)), S)

  pub insert-ascending : (c : List ℕ) → ((r : ℕ) → 1 ≤ count r c → en r < en p) → Ascending (Before pr en) c
      → Ascending (Before pr en) (insert pr p c)
  insert-ascending [] last S = (λ r h. absurd (omega arith), tt)
  insert-ascending (q ∷ qs) last S =
      enter_step (leb (pr q) (pr p)) q qs refl (last q (omega (arith, same_refl q))) S
      (insert-ascending qs (λ r h. last r (omega arith)) S.1)

-- sorting
pub count-insert_by : (t : ℕ → ℕ → Bool) (x p : ℕ) (c : List ℕ) → count x (insert_by t p c) ≡ same x p + count x c
count-insert_by t x p [] = refl
count-insert_by t x p (q ∷ qs) =
    count-cond (t q p) x (same x p + count x (q ∷ qs)) (q ∷ insert_by t p qs) (p ∷ q ∷ qs) (omega (arith, count-insert_by t x p qs)) refl

pub count-sort : (t : ℕ → ℕ → Bool) (z : ℕ) (c : List ℕ) → count z (sort t c) ≡ count z c
count-sort t z [] = refl
count-sort t z (q ∷ qs) = count-insert_by t z q (sort t qs) ∙ ap (λ (n : ℕ). same z q + n) (count-sort t z qs)

module _ (pr en : ℕ → ℕ) where
  earlier-true : (q p : ℕ) → en q ≢ en p → earlier pr en q p ≡ true → Before pr en q p
  earlier-true q p n = go (eqb (pr q) (pr p)) refl
    where
      go : (b : Bool) → eqb (pr q) (pr p) ≡ b → cond b (leb (en q) (en p)) (leb (pr q) (pr p)) ≡ true → Before pr en q p
      go true e t = let w : pr q ≡ pr p = eqb-true _ _ e in (omega arith, λ k. omega (arith, leb-true (en q) (en p) t, n))
      go false e t = (leb-true (pr q) (pr p) t, λ k. absurd (eqb-false (pr q) (pr p) e (omega (arith, leb-true (pr q) (pr p) t))))

  earlier-false : (q p : ℕ) → earlier pr en q p ≡ false → Before pr en p q
  earlier-false q p = go (eqb (pr q) (pr p)) refl
    where
      go : (b : Bool) → eqb (pr q) (pr p) ≡ b → cond b (leb (en q) (en p)) (leb (pr q) (pr p)) ≡ false → Before pr en p q
      go true e t = let w : pr q ≡ pr p = eqb-true _ _ e in (omega arith, λ k. leb-false (en q) (en p) t)
      go false e t = let l : pr p < pr q = leb-false (pr q) (pr p) t in (omega arith, λ k. absurd (omega arith))

  sort-step : (b : Bool) (p q : ℕ) (qs : List ℕ) → earlier pr en q p ≡ b → en q ≢ en p → Ascending (Before pr en) (q ∷ qs)
      → Ascending (Before pr en) (insert_by (earlier pr en) p qs)
      → Ascending (Before pr en) (cond b (q ∷ insert_by (earlier pr en) p qs) (p ∷ q ∷ qs))
  sort-step true p q qs t n S ih =
      (λ r h. among (Before pr en q) p r qs (earlier-true q p n t) (S.0 r) (omega (arith, count-insert_by (earlier pr en) r p qs)), ih)
  sort-step false p q qs t n S ih =
      let f : Before pr en p q = earlier-false q p t in
      (λ r. among (Before pr en p) q r qs f (λ h. before-trans pr en p q r f (S.0 r h)), S)

  insert_by-ascending : (p : ℕ) (c : List ℕ) → ((r : ℕ) → 1 ≤ count r c → en r ≢ en p) → Ascending (Before pr en) c
      → Ascending (Before pr en) (insert_by (earlier pr en) p c)
  insert_by-ascending p [] n S = (λ r h. absurd (omega arith), tt)
  insert_by-ascending p (q ∷ qs) n S =
      sort-step (earlier pr en q p) p q qs refl (n q (omega (arith, same_refl q))) S
      (insert_by-ascending p qs (λ r h. n r (omega arith)) S.1)

  -- programs that stand once each, with entries that differ, are sorted
  pub sort-ascending : (c : List ℕ) → ((x : ℕ) → count x c ≤ 1) → ((x y : ℕ) → 1 ≤ count x c → 1 ≤ count y c → en x ≡ en y → x ≡ y)
      → Ascending (Before pr en) (sort (earlier pr en) c)
  sort-ascending [] o n = tt
  sort-ascending (q ∷ qs) o n =
      insert_by-ascending q (sort (earlier pr en) qs)
      (λ r h e. omega (
        arith,
        count-sort (earlier pr en) r qs,
        o r,
        same_refl r,
        ap (same r) (n r q (omega (arith, count-sort (earlier pr en) r qs)) (omega (arith, same_refl q)) e),
      ))
      (sort-ascending qs (λ x. omega (arith, o x)) (λ x y h k. n x y (omega arith) (omega arith)))
