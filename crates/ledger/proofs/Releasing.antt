-- Releases: what a release of the code says of whoever waits, and the marks of the numbers that are set free.
-- The idea: a release is shown as one of the rules, by its marks; any other that it says the same as wakes the same.
-- Assumes nothing.
use Prim.Native.Nat.{ℕ, ◌-◌, ◌≤◌, ◌<◌, ◌+◌}
use native.Mathlib.Omega.{arith}
use native.Mathlib.Decide.{ℕ_discrete, dec_le}
use mathlib.Core.Path.{◌≡◌, refl, sym, ap, ◌∙◌}
use mathlib.Core.Bool.{Bool, true, false, not, ◌&&◌}
use mathlib.Core.List.{List}
use lib.Dec.{eqb, ltb}
use lib.ListN.{length, get_or, set, replicate, length-replicate, length-set, get_or-eq_default}
use lib.Seq.{get_or-set_same, get_or-set_other}
use borrow.Author.Tests.{eq-eqb, ne_eqb, ltb-true, lt-ltb}
use Rattle.records.specs.declared.Numbers.{Numbers}
use Rattle.records.specs.Numbers.{free, resources, number_at, concerns}
use Rattle.records.proofs.Table.{number-at, number_past, concerns-free}
use Rattle.rules.specs.Plans.{awaits}
use Rattle.rules.specs.Plans as rules
use Rattle.ledger.specs.declared.Release.{Release}
use Rattle.ledger.specs.Inner.{Releases}
use Rattle.ledger.proofs.Rows.{unset}
use mathlib.Core.Logic.{◌≢◌}
use borrow.Author.Count.{below_more}
use Rattle.records.specs.declared.Why.{Why}
use Rattle.records.specs.declared.Why.TheVariants.{Nothing, Tracks, Son, Lock, Number}

-- a release as the rules have it, and those that say the same
abbrev pub shown : Release → rules.Release
shown x = record { ended = x.ended; tracks = x.tracks; cleared = λ r. get_or x.cleared (r - 1) false; dealt = x.dealt }

pub shown-is : (x : Release) → Releases x (shown x)
shown-is x = record { ended = refl; tracks = refl; cleared = λ r h. refl; dealt = refl }

-- one mark
pub marked : (n r s : ℕ) → 1 ≤ r → r ≤ n → 1 ≤ s → get_or (set (replicate n false) (r - 1) true) (s - 1) false ≡ eqb r s
marked n r s a b d = go (ℕ_discrete (s - 1) (r - 1))
  where
    go : Dec (s - 1 ≡ r - 1) → get_or (set (replicate n false) (r - 1) true) (s - 1) false ≡ eqb r s
    go (yes e) =
        ap (λ (i : ℕ). get_or (set (replicate n false) (r - 1) true) i false) e
        ∙ get_or-set_same (replicate n false) (r - 1) true false (omega (arith, length-replicate n false))
        ∙ sym (eq-eqb r s (omega arith))
    go (no w) =
        get_or-set_other (replicate n false) (r - 1) (s - 1) true false w
        ∙ unset false n (s - 1)
        ∙ sym (ne_eqb r s (λ e. w (ap (λ (x : ℕ). x - 1) (sym e))))

-- the first i numbers are marked where p owns or locks them, and the others are not yet
pub record Marks (t : Numbers) (p : ℕ) (marks : List Bool) (i : ℕ) : Type 0 where
  pub most : i ≤ t.count
  pub full : length marks ≡ 16
  pub so_far : (k : ℕ) → k < i → get_or marks k false ≡ concerns p (get_or t.resources k free)
  pub rest : (k : ℕ) → i ≤ k → get_or marks k false ≡ false

pub marks-end : {t : Numbers} {p : ℕ} {marks : List Bool} {i : ℕ} → Marks t p marks i → i ≡ t.count → 1 ≤ p
    → (r : ℕ) → 1 ≤ r → get_or marks (r - 1) false ≡ concerns p (number_at (resources t) r)
marks-end {t} {p} {marks} {i} M e h r l = go (dec_le i (r - 1))
  where
    go : Dec (i ≤ r - 1) → get_or marks (r - 1) false ≡ concerns p (number_at (resources t) r)
    go (yes y) = M.rest (r - 1) y ∙ sym (concerns-free p h) ∙ ap (concerns p) (number_past t r (r - 1) refl (omega arith))
    go (no n) =
        let b : r - 1 < i = omega (arith, n) in
        M.so_far (r - 1) b ∙ ap (concerns p) (number-at t r (r - 1) refl (omega arith))

-- Laws of who is woken, why by why, for whoever proves about it: two releases that say the same wake the same.
pub awaits-same : (x : Release) (y : rules.Release) (w : Why) → Releases x y → awaits (shown x) w ≡ awaits y w
awaits-same x y Nothing R = refl
awaits-same x y (Tracks n) R = refl
awaits-same x y (Son k) R = ap (λ (e : ℕ). ltb 0 k && eqb k e) R.ended
awaits-same x y (Lock r) R = go (ltb 0 r) refl
  where
    go : (b : Bool) → ltb 0 r ≡ b → (b && get_or x.cleared (r - 1) false) ≡ (b && y.cleared r)
    go true e = R.cleared r (ltb-true 0 r e)
    go false e = refl
awaits-same x y Number R = R.dealt

-- b is the answer for a why, with each release that x says

abbrev pub Answer : Release → Why → Bool → Type 0
Answer x w b = (y : rules.Release) → Releases x y → b ≡ awaits y w

told : (x : Release) (w v : Why) (b : Bool) → w ≡ v → awaits (shown x) v ≡ b → Answer x w b
told x w v b e h y R = sym h ∙ awaits-same x y v R ∙ ap (awaits y) (sym e)

module _ (x : Release) (w : Why) where
  pub nothing-told : w ≡ Nothing → Answer x w false
  nothing-told e = told x w Nothing false e refl

  pub tracks-told : {n : ℕ} → w ≡ Tracks n → Answer x w false
  tracks-told {n} e = told x w (Tracks n) false e refl

  pub number-told : w ≡ Number → Answer x w x.dealt
  number-told e = told x w Number x.dealt e refl

  -- 0 is no son
  pub no-son-told : {k : ℕ} → w ≡ Son k → k ≡ 0 → Answer x w (not (eqb k 0))
  no-son-told {k} e z = told x w (Son k) (not (eqb k 0)) e (rw z)

  pub son-told : {k : ℕ} → w ≡ Son k → k ≢ 0 → Answer x w (eqb k x.ended)
  son-told {k} e h = told x w (Son k) (eqb k x.ended) e (rw (lt-ltb 0 k (omega (arith, h))))

  -- 0 is no lock, and past the last none is cleared
  pub no-lock-told : {r : ℕ} → w ≡ Lock r → r ≡ 0 → Answer x w false
  no-lock-told {r} e z = told x w (Lock r) false e (rw z)

  pub past-told : {r : ℕ} → w ≡ Lock r → 16 < r → length x.cleared ≡ 16 → Answer x w false
  past-told {r} e h l =
      told x w (Lock r) false e (rw (lt-ltb 0 r (omega arith)) (get_or-eq_default x.cleared false {n = r - 1} (omega arith)))

  pub lock-told : {r : ℕ} → w ≡ Lock r → r ≢ 0 → Answer x w (get_or x.cleared (r - 1) false)
  lock-told {r} e h = told x w (Lock r) (get_or x.cleared (r - 1) false) e (rw (lt-ltb 0 r (omega (arith, h))))

-- the marks, a number at a time

pub marks-start : (t : Numbers) (p : ℕ) → Marks t p (replicate 16 false) 0
marks-start t p = record {
  most = omega arith;
  full = length-replicate 16 false;
  so_far = λ k h. absurd (omega arith);
  rest = λ k h. unset false 16 k;
}

pub marks-step : {t : Numbers} {p : ℕ} {marks : List Bool} {i : ℕ} (b : Bool) → Marks t p marks i → i < t.count → t.count ≤ 16
    → b ≡ concerns p (get_or t.resources i free) → Marks t p (set marks i b) (i + 1)
marks-step {t} {p} {marks} {i} b M h m e = record {
  most = omega arith;
  full = length-set marks i b ∙ M.full;
  so_far = below_more _ _ (λ k l. get_or-set_other marks i k b false (λ z. omega arith) ∙ M.so_far k l)
      (get_or-set_same marks i b false (omega (arith, M.full)) ∙ e);
  rest = λ k l. get_or-set_other marks i k b false (λ z. omega arith) ∙ M.rest k (omega arith);
}
