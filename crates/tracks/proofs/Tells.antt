-- An answer that tells, and tallies: numbers that a pass sums up, or takes the largest of, are 0 exactly where each is.
-- Assumes nothing.
use Prim.Native.Nat.{ℕ, ◌+◌, ◌≤◌, ◌<◌}
use native.Mathlib.Omega.{arith}
use native.Mathlib.Decide.{ℕ_discrete}
use mathlib.Core.Path.{◌≡◌, refl, sym}
use mathlib.Core.Bool.{true, false}
use lib.Dec.{eqb}
use borrow.Author.Tests.{eqb-true, eqb-false, eq-eqb}
use Rattle.lists.proofs.Tests.{false-true, clash}
use Rattle.tracks.specs.Inner.{Tells}

-- the answers true and false
pub tells-yes : {A : Type 0} → A → Tells true A
tells-yes a = record { yes = λ e. a; nay = λ e. false-true (sym e) }

pub tells-no : {A : Type 0} → (A → ⊥) → Tells false A
tells-no f = record { yes = λ e. false-true e; nay = λ e. f }

-- the answer of an equation
pub tells-eq : {A : Type 0} (a b : ℕ) → (a ≡ b → A) → (A → a ≡ b) → Tells (eqb a b) A
tells-eq a b f g = record { yes = λ e. f (eqb-true a b e); nay = λ e x. eqb-false a b e (g x) }

-- a tally of the places from S to i: 0 exactly where each is as it should be
pub record Tally (P : ℕ → Type 0) (S i n : ℕ) : Type 0 where
  pub low : S ≤ i
  pub each : n ≡ 0 → (k : ℕ) → k < i → S ≤ k → P k
  pub none : ((k : ℕ) → k < i → S ≤ k → P k) → n ≡ 0

module _ {P : ℕ → Type 0} {S : ℕ} where
  pub tally-start : Tally P S S 0
  tally-start = record { low = omega arith; each = λ e k h l. absurd (omega arith); none = λ f. refl }

  pub tally-more : {i n : ℕ} → Tally P S i n → (m : ℕ) → (m ≡ 0 → (n ≡ 0) × P i) → (n ≡ 0 → P i → m ≡ 0) → Tally P S (i + 1) m
  tally-more {i} {n} t m f g = record {
    low = omega (arith, t.low);
    each = λ e k h l. go e k h l (ℕ_discrete k i);
    none = λ a. g (t.none (λ k h l. a k (omega arith) l)) (a i (omega arith) t.low);
  }
    where
      go : m ≡ 0 → (k : ℕ) → k < i + 1 → S ≤ k → Dec (k ≡ i) → P k
      go e k h l (yes w) = rw w (f e).1
      go e k h l (no w) = t.each (f e).0 k (omega (arith, w)) l

  pub tally-end : {i n : ℕ} (T : ℕ) → Tally P S i n → i ≡ T → Tells (eqb n 0) ((k : ℕ) → k < T → S ≤ k → P k)
  tally-end {i} {n} T t e = record {
    yes = λ z k h l. t.each (eqb-true n 0 z) k (omega arith) l;
    nay = λ z a. clash (eq-eqb n 0 (t.none (λ k h l. a k (omega arith) l))) z;
  }
