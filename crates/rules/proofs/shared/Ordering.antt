-- Who wakes, and in what order: where a track was freed all of chain 5, and then those of chain 3 whose reason is gone;
-- where none was, those of chain 3 alone.
-- The program that ended is in neither. Assumes nothing.
use Prim.Native.Nat.{ℕ, ◌≤◌}
use native.Mathlib.Omega.{arith}
use native.Mathlib.Decide.{dec_le}
use mathlib.Core.Path.{◌≡◌, refl}
use mathlib.Core.Bool.{Bool, true, false, cond, ◌&&◌}
use mathlib.Core.List.{List, [], ◌∷◌, ◌++◌}
use lib.Dec.{ltb, eqb}
use borrow.Author.Tests.{lt-ltb, le-ltb, ltb-true, ne_eqb}
use Rattle.limits.specs.Limits.{general, disc}
use Rattle.lists.specs.Lists.{count, keep, remove}
use Rattle.lists.proofs.Laws.{keep-in, count-append}
use Rattle.records.specs.declared.Why.{Why}
use Rattle.records.specs.declared.Why.TheVariants.{Nothing, Tracks, Son, Lock, Number}
use Rattle.rules.specs.Book.{why_of}
use Rattle.rules.specs.Plans.{View, Release, nothing, awaits, from_general, woken}

pub disc-first : (v : View) (R : Release) → 1 ≤ R.tracks → woken v R ≡ remove R.ended (v.chain disc) ++ from_general v R
unfolding woken
disc-first v R h = rw (lt-ltb 0 R.tracks h)

pub general-alone : (v : View) (R : Release) → R.tracks ≤ 0 → woken v R ≡ from_general v R
unfolding woken
general-alone v R h = rw (le-ltb 0 R.tracks h)

-- what sets nothing free wakes nobody
awaits-nothing : (w : Why) → awaits nothing w ≡ false
awaits-nothing Nothing = refl
awaits-nothing (Tracks n) = refl
awaits-nothing (Son k) = go (ltb 0 k) refl
  where
    go : (b : Bool) → ltb 0 k ≡ b → (b && eqb k 0) ≡ false
    go true e = ne_eqb k 0 (λ i. omega (arith, i, ltb-true 0 k e))
    go false e = refl
awaits-nothing (Lock r) = go (ltb 0 r)
  where
    go : (b : Bool) → (b && false) ≡ false
    go true = refl
    go false = refl
awaits-nothing Number = refl

pub woken-none : (v : View) → woken v nothing ≡ []
unfolding woken
woken-none v = go (remove 0 (v.chain general))
  where
    go : (c : List ℕ) → keep (λ q. awaits nothing (why_of v.book q)) c ≡ []
    go [] = refl
    go (q ∷ qs) = rw (awaits-nothing (why_of v.book q)) (go qs)

pub woken-from : (v : View) (R : Release) (x : ℕ) (A : Type 0) → 1 ≤ count x (woken v R)
    → (1 ≤ R.tracks → 1 ≤ count x (remove R.ended (v.chain disc)) → A)
    → (awaits R (why_of v.book x) ≡ true → 1 ≤ count x (remove R.ended (v.chain general)) → A) → A
unfolding woken
woken-from v R x A h f g = go (ltb 0 R.tracks) refl (dec_le 1 (count x (from_general v R))) h
  where
    go : (b : Bool) → ltb 0 R.tracks ≡ b → Dec (1 ≤ count x (from_general v R))
        → 1 ≤ count x (cond b (remove R.ended (v.chain disc)) [] ++ from_general v R) → A
    go b e (yes l) k = let r = keep-in (λ q. awaits R (why_of v.book q)) x (remove R.ended (v.chain general)) l in g r.0 r.1
    go true e (no l) k =
        f (ltb-true 0 R.tracks e) (omega (arith, l, count-append x (remove R.ended (v.chain disc)) (from_general v R)))
    go false e (no l) k = absurd (l k)
