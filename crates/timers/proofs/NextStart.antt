-- The next moment at which somebody starts: nobody does before it, it lies beyond the clock, and somebody starts at it unless it is the end.
-- Assumes nothing.
use Prim.Native.Nat.{ℕ, zero, suc, ◌+◌, ◌≤◌, ◌<◌}
use native.Mathlib.Omega.{arith}
use native.Mathlib.Decide.{dec_lt}
use native.Mathlib.Numerals.{add-one}
use mathlib.Core.Path.{◌≡◌, refl, sym, ap, ◌∙◌}
use mathlib.Core.Logic.{◌≢◌}
use mathlib.Core.Bool.{Bool, true, false, cond, ◌&&◌}
use mathlib.Core.List.{List, [], ◌∷◌}
use lib.ListN.{length, get_or, drop, drop_of_length-le}
use lib.Seq.{drop-cons}
use lib.Dec.{ltb, eqb}
use borrow.Author.Tests.{ltb-true, ltb-false, lt-ltb, le-ltb, eqb-true, eqb-false, eq-eqb, ne_eqb}
use Rattle.lists.proofs.Tests.{and, clash}
use Rattle.records.specs.declared.Program.{Program}
use Rattle.records.specs.Records.{missing}
use Rattle.timers.specs.Inner.{falls_due, starts, sooner, next_start, NoStart}
use Rattle.timers.proofs.Striking.{falls-is, falls-not, starts_by, starts-not}

-- it is not later, and a dormant program does not fall due before it
record Sooner (r : Program) (end n : ℕ) : Type 0 where
  low : n ≤ end
  none : 1 ≤ r.due → r.state ≡ 0 → n ≤ r.due

is-sooner : (r : Program) (end : ℕ) → Sooner r end (sooner r end)
is-sooner r end = go (ltb 0 r.due) refl (ltb r.due end) refl (eqb r.state 0) refl
  where
    go : (x : Bool) → ltb 0 r.due ≡ x → (y : Bool) → ltb r.due end ≡ y → (z : Bool) → eqb r.state 0 ≡ z
        → Sooner r end (cond (x && y && z) r.due end)
    go true e true f true g = record { low = omega (arith, ltb-true r.due end f); none = λ h k. omega arith }
    go true e true f false g = record { low = omega arith; none = λ h k. absurd (eqb-false r.state 0 g k) }
    go true e false f z g = record { low = omega arith; none = λ h k. omega (arith, ltb-false r.due end f) }
    go false e y f z g = record { low = omega arith; none = λ h k. absurd (omega (arith, h, ltb-false 0 r.due e)) }

-- it is one of the two
sooner-above : (now : ℕ) (r : Program) (end : ℕ) → now < end → (r.due ≢ 0 → now < r.due) → now < sooner r end
sooner-above now r end h f = go (ltb 0 r.due) refl (ltb r.due end) (eqb r.state 0)
  where
    go : (x : Bool) → ltb 0 r.due ≡ x → (y z : Bool) → now < cond (x && y && z) r.due end
    go true e true true = f (λ i. omega (arith, ltb-true 0 r.due e))
    go true e true false = h
    go true e false z = h
    go false e y z = h

-- OF ALL THE PROGRAMS
pub next_low : (end : ℕ) (ps : List Program) → next_start end ps ≤ end
next_low end [] = omega arith
next_low end (r ∷ rs) = omega (arith, next_low (sooner r end) rs, (is-sooner r end).low)

pub next-above : (now end : ℕ) (ps : List Program) → now < end → ((i : ℕ) → i < length ps → (get_or ps i missing).due ≢ 0 → now < (get_or ps i missing).due)
    → now < next_start end ps
next-above now end [] h f = h
next-above now end (r ∷ rs) h f =
    next-above now (sooner r end) rs (sooner-above now r end h (f 0 (omega arith))) (λ i k. f (suc i) (omega arith))

next-none : (end : ℕ) (ps : List Program) (i : ℕ) → 1 ≤ (get_or ps i missing).due → (get_or ps i missing).state ≡ 0
    → next_start end ps ≤ (get_or ps i missing).due
next-none end [] i h k = absurd (omega arith)
next-none end (r ∷ rs) zero h k = omega (arith, next_low (sooner r end) rs, (is-sooner r end).none h k)
next-none end (r ∷ rs) (suc i) h k = next-none (sooner r end) rs i h k

-- nobody starts before it
pub next-idle : (end k : ℕ) (ps : List Program) → k < next_start end ps → NoStart k ps
next-idle end k ps h i = go (eqb r.state 0) refl
  where
    r : Program
    r = get_or ps i missing

    go : (b : Bool) → eqb r.state 0 ≡ b → starts k r ≡ false
    go true e =
        starts-not k r (falls-not k r (λ d. omega (arith, h, next-none end ps i d (eqb-true r.state 0 e))))
    go false e = falls (falls_due k r) refl
      where
        falls : (x : Bool) → falls_due k r ≡ x → starts k r ≡ false
        falls true f = starts_by k r f e
        falls false f = starts_by k r f e

-- and somebody does at it, unless it is the end
pub record Somebody (now : ℕ) (ps : List Program) : Type 0 where
  pub place : ℕ
  pub within : place < length ps
  pub does : starts now (get_or ps place missing) ≡ true

pub next-some : (end : ℕ) (ps : List Program) → next_start end ps < end → Somebody (next_start end ps) ps
next-some end [] h = absurd (omega arith)
next-some end (r ∷ rs) h = go (dec_lt (next_start (sooner r end) rs) (sooner r end)) (next-some (sooner r end) rs)
  where
    here : (x : Bool) → ltb 0 r.due ≡ x → (y : Bool) → ltb r.due end ≡ y → (z : Bool) → eqb r.state 0 ≡ z
        → cond (x && y && z) r.due end < end → starts (cond (x && y && z) r.due end) r ≡ true
    here true e true f true g k = starts_by r.due r (falls-is r.due r (ltb-true 0 r.due e) (omega arith)) g
    here true e true f false g k = absurd (omega arith)
    here true e false f z g k = absurd (omega arith)
    here false e y f z g k = absurd (omega arith)

    go : Dec (next_start (sooner r end) rs < sooner r end)
        → (next_start (sooner r end) rs < sooner r end → Somebody (next_start (sooner r end) rs) rs)
        → Somebody (next_start (sooner r end) rs) (r ∷ rs)
    go (yes k) ih = let s = ih k in record { place = suc s.place; within = omega (arith, s.within); does = s.does }
    go (no k) ih =
        let e : next_start (sooner r end) rs ≡ sooner r end = omega (arith, k, next_low (sooner r end) rs) in
        record {
          place = 0;
          within = omega arith;
          does = ap (λ (n : ℕ). starts n r) e
              ∙ here (ltb 0 r.due) refl (ltb r.due end) refl (eqb r.state 0) refl (omega (arith, h, e));
        }

-- AN IDLE NIGHT IS ONE MOVE: where nobody starts before the end, the next start is the end
pub idle-one : (end : ℕ) (ps : List Program) → ((k : ℕ) → k < end → NoStart k ps) → next_start end ps ≡ end
idle-one end ps N = go (dec_lt (next_start end ps) end)
  where
    go : Dec (next_start end ps < end) → next_start end ps ≡ end
    go (yes h) = let s = next-some end ps h in clash s.does (N (next_start end ps) h s.place)
    go (no h) = omega (arith, h, next_low end ps)

-- THE SEARCH: what is left of the programs, from place i on, is searched in the same way
pub record Looking (end : ℕ) (ps : List Program) (least i : ℕ) : Type 0 where
  pub same : next_start end ps ≡ next_start least (drop i ps)
  pub within : i ≤ length ps

pub looking-start : (end : ℕ) (ps : List Program) → Looking end ps end 0
looking-start end ps = record { same = refl; within = omega arith }

pub looking-next : {end : ℕ} {ps : List Program} {least i : ℕ} (n : ℕ) → Looking end ps least i → i < length ps
    → n ≡ sooner (get_or ps i missing) least → Looking end ps n (i + 1)
looking-next {end} {ps} {least} {i} n L h e = record {
  same = L.same ∙ ap (next_start least) (drop-cons ps i missing h ∙ ap (λ (k : ℕ). get_or ps i missing ∷ drop k ps) (sym (add-one i)))
      ∙ ap (λ (k : ℕ). next_start k (drop (i + 1) ps)) (sym e);
  within = omega arith;
}

pub looking-end : {end : ℕ} {ps : List Program} {least i : ℕ} → Looking end ps least i → length ps ≤ i → least ≡ next_start end ps
looking-end {end} {ps} {least} {i} L h = sym (L.same ∙ ap (next_start least) (drop_of_length-le ps {i = i} h))

-- THE SOONER OF TWO: without a timer; not before the end; of a busy program; of one that starts
abbrev by : Bool → Bool → Bool → Program → ℕ → ℕ
by x y z r end = cond (x && y && z) r.due end

by-third : (x y : Bool) (r : Program) (end : ℕ) → end ≡ by x y false r end
by-third true true r end = refl
by-third true false r end = refl
by-third false y r end = refl

by-second : (x z : Bool) (r : Program) (end : ℕ) → end ≡ by x false z r end
by-second true z r end = refl
by-second false z r end = refl

module _ (r : Program) (end : ℕ) where
  pub sooner-timeless : r.due ≡ 0 → end ≡ sooner r end
  sooner-timeless e = sym (ap (λ (x : Bool). by x (ltb r.due end) (eqb r.state 0) r end) (le-ltb 0 r.due (omega arith)))

  pub sooner-late : end ≤ r.due → end ≡ sooner r end
  sooner-late h =
      by-second (ltb 0 r.due) (eqb r.state 0) r end
      ∙ sym (ap (λ (y : Bool). by (ltb 0 r.due) y (eqb r.state 0) r end) (le-ltb r.due end h))

  pub sooner-busy : r.state ≢ 0 → end ≡ sooner r end
  sooner-busy n =
      by-third (ltb 0 r.due) (ltb r.due end) r end
      ∙ sym (ap (λ (z : Bool). by (ltb 0 r.due) (ltb r.due end) z r end) (ne_eqb r.state 0 n))

  pub sooner-starts : 1 ≤ r.due → r.due < end → r.state ≡ 0 → r.due ≡ sooner r end
  sooner-starts h k e =
      sym (ap (λ (x : Bool). cond x r.due end) (and (and (lt-ltb 0 r.due h) (lt-ltb r.due end k)) (eq-eqb r.state 0 e)))
