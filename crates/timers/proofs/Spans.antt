-- What n ticks come to before any is made, by the tests of n and of the ceiling.
-- Assumes nothing.
use Prim.Native.Nat.{ℕ, ◌+◌, ◌≤◌, ◌<◌}
use native.Mathlib.Omega.{arith}
use mathlib.Core.Path.{◌≡◌, refl, ap}
use mathlib.Core.Bool.{Bool, true, false, ◌&&◌}
use lib.Dec.{leb}
use borrow.Author.Tests.{leb-true, lt-leb}
use Rattle.std.specs.Prelude.{Result, Ok, Err}
use Rattle.limits.specs.Limits.{most_ticks}
use Rattle.lists.specs.Lists.{up_to}
use Rattle.lists.proofs.Tests.{not-both, up_to-true}
use Rattle.clock.specs.Clock.{ceiling}
use Rattle.timers.specs.declared.NoSpan.{NoSpan}
use Rattle.timers.specs.declared.NoSpan.TheVariants.{NotAllowed, AtCeiling}
use Rattle.timers.specs.Inner.{span_of}

-- n out of its range
pub range-low : (n : ℕ) → n ≡ 0 → up_to 1 most_ticks n ≡ false
range-low n e = ap (λ (b : Bool). b && leb n most_ticks) (lt-leb 1 n (omega arith))

pub range-high : (n : ℕ) → most_ticks < n → up_to 1 most_ticks n ≡ false
range-high n h = not-both (leb 1 n) (leb n most_ticks) (lt-leb n most_ticks h)

module _ (clock n : ℕ) where
  pub span-range : up_to 1 most_ticks n ≡ false → Err NotAllowed ≡ span_of clock n
  unfolding span_of
  span-range r = rw (r, span_of)

  pub span-ceiling : up_to 1 most_ticks n ≡ true → leb (clock + n) ceiling ≡ false → Err AtCeiling ≡ span_of clock n
  unfolding span_of
  span-ceiling r c = rw (r, c, span_of)

  pub span_to : up_to 1 most_ticks n ≡ true → leb (clock + n) ceiling ≡ true → Ok (clock + n) ≡ span_of clock n
  unfolding span_of
  span_to r c = rw (r, c, span_of)

  -- and what each answer tells
  tests : (Q : Result ℕ NoSpan → Type 0) → (up_to 1 most_ticks n ≡ false → Q (Err NotAllowed))
      → (up_to 1 most_ticks n ≡ true → leb (clock + n) ceiling ≡ false → Q (Err AtCeiling))
      → (up_to 1 most_ticks n ≡ true → leb (clock + n) ceiling ≡ true → Q (Ok (clock + n))) → Q (span_of clock n)
  unfolding span_of
  tests Q f g h = go (up_to 1 most_ticks n) refl (leb (clock + n) ceiling) refl
    where
      go : (x : Bool) → up_to 1 most_ticks n ≡ x → (y : Bool) → leb (clock + n) ceiling ≡ y
          → Q (elim x [ true ↦ elim y [ true ↦ Ok (clock + n) | false ↦ Err AtCeiling ] | false ↦ Err NotAllowed ])
      go true r true c = h r c
      go true r false c = g r c
      go false r y c = f r

  pub not-allowed : span_of clock n ≡ Err NotAllowed → up_to 1 most_ticks n ≡ false
  not-allowed =
      tests (λ s. s ≡ Err NotAllowed → up_to 1 most_ticks n ≡ false) (λ r e. r)
      (λ r c e. let z : ◌≡◌ {A = ℕ} 0 1 = cc in absurd (omega arith)) (λ r c e. let z : ◌≡◌ {A = ℕ} 0 1 = cc in absurd (omega arith))

  pub at-ceiling : span_of clock n ≡ Err AtCeiling → (up_to 1 most_ticks n ≡ true) × (leb (clock + n) ceiling ≡ false)
  at-ceiling =
      tests (λ s. s ≡ Err AtCeiling → (up_to 1 most_ticks n ≡ true) × (leb (clock + n) ceiling ≡ false))
      (λ r e. let z : ◌≡◌ {A = ℕ} 0 1 = cc in absurd (omega arith)) (λ r c e. (r, c))
      (λ r c e. let z : ◌≡◌ {A = ℕ} 0 1 = cc in absurd (omega arith))

  pub is-to : (end : ℕ) → span_of clock n ≡ Ok end → (1 ≤ n) × (n ≤ most_ticks) × (clock + n ≤ ceiling) × (end ≡ clock + n)
  is-to end =
      tests (λ s. s ≡ Ok end → (1 ≤ n) × (n ≤ most_ticks) × (clock + n ≤ ceiling) × (end ≡ clock + n))
      (λ r e. let z : ◌≡◌ {A = ℕ} 0 1 = cc in absurd (omega arith)) (λ r c e. let z : ◌≡◌ {A = ℕ} 0 1 = cc in absurd (omega arith))
      (λ r c e. let k = up_to-true 1 most_ticks n r in (k.0, k.1, leb-true (clock + n) ceiling c, (cc)))
