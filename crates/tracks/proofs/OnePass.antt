-- The lowest run is found in one pass. What is known of the search at track i, `start` being where the free tracks before i begin: they are
-- fewer than n, and no run of n begins before `start`. A held track i is in every run that begins from `start` to i, so none does; and
-- where n free tracks stand from `start` on, that run is the lowest.
-- Assumes nothing.
use Prim.Native.Nat.{ℕ, ◌+◌, ◌-◌, ◌≤◌, ◌<◌}
use native.Mathlib.Omega.{arith}
use native.Mathlib.Decide.{ℕ_discrete, dec_le}
use mathlib.Core.Path.{◌≡◌, refl, sym, ap, ◌∙◌}
use mathlib.Core.Bool.{true}
use mathlib.Core.List.{List}
use mathlib.Core.Option.{none, some}
use lib.ListN.{length, get_or}
use Rattle.tracks.specs.Tracks.{nobody, lowest, FreeRun}
use Rattle.tracks.proofs.Runs.{lowest-is, lowest-no}
use Rattle.tracks.proofs.Turns.{lowest-past, lowest-turn}

-- what is known at track i
pub record Sought (n : ℕ) (xs : List ℕ) (start i : ℕ) : Type 0 where
  pub low : start ≤ i
  pub few : i < start + n
  pub free : (k : ℕ) → start ≤ k → k < i → get_or xs k nobody ≡ nobody
  pub least : (j : ℕ) → FreeRun xs j n → start ≤ j

pub sought-first : (n : ℕ) (xs : List ℕ) → 1 ≤ n → Sought n xs 0 0
sought-first n xs l = record { low = omega arith; few = omega arith; free = λ k a b. absurd (omega arith); least = λ j r. omega arith }

module _ (n : ℕ) (xs : List ℕ) (start i : ℕ) (s : Sought n xs start i) where
  -- track i is held: the search goes on behind it
  pub sought-held : (get_or xs i nobody ≡ nobody → ⊥) → Sought n xs (i + 1) (i + 1)
  sought-held h = record { low = omega arith; few = omega (arith, s.low, s.few); free = λ k a b. absurd (omega arith); least = least }
    where
      least : (j : ℕ) → FreeRun xs j n → i + 1 ≤ j
      least j r = go (dec_le (i + 1) j)
        where
          go : Dec (i + 1 ≤ j) → i + 1 ≤ j
          go (yes y) = y
          go (no y) =
              let w : j + (i - j) ≡ i = omega (arith, y) in
              let k : i - j < n = omega (arith, y, s.few, s.least j r) in
              absurd (h (ap (λ (x : ℕ). get_or xs x nobody) (sym w) ∙ r.free (i - j) k))

  -- track i is free: with those from start on it is n, or fewer
  module _ (f : get_or xs i nobody ≡ nobody) where
    all-free : (k : ℕ) → start ≤ k → k < i + 1 → get_or xs k nobody ≡ nobody
    all-free k a b = go (ℕ_discrete k i)
      where
        go : Dec (k ≡ i) → get_or xs k nobody ≡ nobody
        go (yes e) = ap (λ (x : ℕ). get_or xs x nobody) e ∙ f
        go (no e) = s.free k a (omega (arith, e))

    pub sought-free : i + 1 < start + n → Sought n xs start (i + 1)
    sought-free l = record { low = omega (arith, s.low); few = l; free = all-free; least = s.least }

    pub sought-found : i < length xs → start + n ≤ i + 1 → lowest n 0 xs ≡ some start
    sought-found m e =
        lowest-is n xs start (omega (arith, s.low, s.few))
        (record {
          there = record { within = omega arith; free = λ k b. all-free (start + k) (omega arith) (omega arith) };
          least = s.least;
        })

  -- the tracks are at their end
  pub sought-none : length xs ≤ i → lowest n 0 xs ≡ none
  sought-none e = lowest-no n xs (omega (arith, s.low, s.few)) (λ j r. omega (arith, r.within, s.few, s.least j r))

-- no tracks, and no length
pub lowest-empty : (n : ℕ) (xs : List ℕ) → length xs ≡ 0 → lowest n 0 xs ≡ none
lowest-empty n xs e = lowest-past n 0 xs (omega arith)

pub lowest-zero : (n : ℕ) (xs : List ℕ) → n ≡ 0 → 0 < length xs → lowest n 0 xs ≡ some 0
lowest-zero n xs e l = ap (λ (n : ℕ). lowest n 0 xs) e ∙ lowest-turn true 0 0 xs l refl
