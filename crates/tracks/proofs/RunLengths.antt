-- The lowest run is found in one pass. What is known of the search when tracks 0 to i - 1 have been looked at, m being the length of the run
-- so far: the last m of them are free and no more than n, and no run of n begins before these. Looking at track i, with m below n: if it is
-- held, it is in every run that begins there or among the m, so none does; if it is free, the run is one longer. At length n it is the lowest.
-- Assumes nothing.
use Prim.Native.Nat.{ℕ, ◌+◌, ◌-◌, ◌≤◌, ◌<◌}
use native.Mathlib.Omega.{arith}
use native.Mathlib.Decide.{ℕ_discrete, dec_le}
use mathlib.Core.Path.{◌≡◌, refl, sym, ap, ◌∙◌}
use mathlib.Core.Bool.{true}
use mathlib.Core.List.{List}
use mathlib.Core.Option.{none, some}
use lib.ListN.{length, get_or}
use Rattle.tracks.specs.Tracks.{nobody, lowest, FreeRun}
use Rattle.tracks.proofs.Runs.{lowest-is, lowest-no}
use Rattle.tracks.proofs.Turns.{lowest-past, lowest-turn}

-- what is known before track i is looked at
pub record Sought (n : ℕ) (xs : List ℕ) (m i : ℕ) : Type 0 where
  pub low : m ≤ i
  pub few : m ≤ n
  pub free : (k : ℕ) → i ≤ k + m → k < i → get_or xs k nobody ≡ nobody
  pub least : (j : ℕ) → FreeRun xs j n → i ≤ j + m

pub sought-first : (n : ℕ) (xs : List ℕ) → Sought n xs 0 0
sought-first n xs = record { low = omega arith; few = omega arith; free = λ k a b. absurd (omega arith); least = λ j r. omega arith }

module _ {n : ℕ} {xs : List ℕ} {m i : ℕ} (s : Sought n xs m i) where
  module _ (l : m < n) where
    -- track i is held: the length is set back
    pub sought-held : (get_or xs i nobody ≡ nobody → ⊥) → Sought n xs 0 (i + 1)
    sought-held h = record { low = omega arith; few = omega arith; free = λ k a b. absurd (omega arith); least = least }
      where
        least : (j : ℕ) → FreeRun xs j n → i + 1 ≤ j + 0
        least j r = go (dec_le (i + 1) j)
          where
            go : Dec (i + 1 ≤ j) → i + 1 ≤ j + 0
            go (yes y) = omega arith
            go (no y) =
                let w : j + (i - j) ≡ i = omega (arith, y) in
                let k : i - j < n = omega (arith, y, s.least j r) in
                absurd (h (ap (λ (x : ℕ). get_or xs x nobody) (sym w) ∙ r.free (i - j) k))

    -- track i is free: the run is one longer
    pub sought-free : get_or xs i nobody ≡ nobody → Sought n xs (m + 1) (i + 1)
    sought-free f =
        record {
          low = omega (arith, s.low);
          few = omega arith;
          free = free;
          least = λ j r. omega (arith, s.least j r);
        }
      where
        free : (k : ℕ) → i + 1 ≤ k + (m + 1) → k < i + 1 → get_or xs k nobody ≡ nobody
        free k a b = go (ℕ_discrete k i)
          where
            go : Dec (k ≡ i) → get_or xs k nobody ≡ nobody
            go (yes e) = ap (λ (x : ℕ). get_or xs x nobody) e ∙ f
            go (no e) = s.free k (omega (arith, a)) (omega (arith, e))

    -- the tracks are at their end
    pub sought-none : length xs ≤ i → lowest n 0 xs ≡ none
    sought-none e = lowest-no n xs (omega arith) (λ j r. omega (arith, r.within, s.least j r))

  -- the run is long enough
  pub sought-found : 1 ≤ n → i ≤ length xs → m ≡ n → lowest n 0 xs ≡ some (i - n)
  sought-found o w e =
      lowest-is n xs (i - n) o
      (record {
        there =
            record {
              within = omega (arith, s.low);
              free = λ k b. s.free (i - n + k) (omega (arith, s.low)) (omega (arith, s.low));
            };
        least = λ j r. omega (arith, s.least j r);
      })

-- no tracks, and no length
pub lowest-empty : (n : ℕ) (xs : List ℕ) → length xs ≡ 0 → lowest n 0 xs ≡ none
lowest-empty n xs e = lowest-past n 0 xs (omega arith)

pub lowest-zero : (n : ℕ) (xs : List ℕ) → n ≡ 0 → 0 < length xs → lowest n 0 xs ≡ some 0
lowest-zero n xs e l = ap (λ (n : ℕ). lowest n 0 xs) e ∙ lowest-turn true 0 0 xs l refl
