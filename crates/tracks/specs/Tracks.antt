-- Tracks, as a list of who holds each, from track 0 on (OUTLINE, "The tables", and EXEC 4, 5, 15 and 16).
-- Assumes nothing.
use Rattle.std.specs.Prelude.{ℕ, zero, suc, ◌+◌, ◌-◌, ◌≤◌, ◌<◌, ◌≡◌, Bool, true, false, cond, List, [], ◌∷◌, ◌++◌, length, get_or, set, take, replicate, eqb}
use Rattle.std.proofs.Math.Option.{Option, none, some}
use Rattle.limits.specs.Limits.{most_tracks}
use Rattle.tracks.specs.declared.Tracks.{Tracks}

-- a holder is 0 where the track is free, a program's number, or one of these
abbrev pub nobody : ℕ
nobody = 0

abbrev pub everybody : ℕ
everybody = 33

abbrev pub system : ℕ
system = 34

-- who holds each of the 256 places, a place behind the tracks too; and the table of those places
abbrev pub places : Tracks → List ℕ
places t = t.holders

abbrev pub table_at : ℕ → ℕ → List ℕ → Tracks
table_at T S xs = record { count = T; system = S; holders = xs }

-- who holds tracks 0 to T - 1; and the table of T tracks with those holders, S of them the system's, blank behind
abbrev pub holders : Tracks → List ℕ
holders t = take t.count (places t)

abbrev pub table_of : ℕ → ℕ → List ℕ → Tracks
table_of T S xs = table_at T S (xs ++ replicate (most_tracks - T) nobody)

-- the first n are all h's
abbrev pub run : ℕ → ℕ → List ℕ → Bool
run h zero xs = true
run h (suc n) [] = false
run h (suc n) (x ∷ xs) = elim (eqb x h) [ true ↦ run h n xs | false ↦ false ]

-- where the lowest run of n free tracks begins, if the first track is i
abbrev pub lowest : ℕ → ℕ → List ℕ → Option ℕ
lowest n i [] = none
lowest n i (x ∷ xs) = elim (run nobody n (x ∷ xs)) [ true ↦ some i | false ↦ lowest n (suc i) xs ]

-- n tracks from start on become h's; and all that p holds
abbrev pub filled : ℕ → ℕ → ℕ → List ℕ → List ℕ
filled start zero h xs = xs
filled start (suc n) h xs = set (filled start n h xs) (start + n) h

abbrev pub replaced : ℕ → ℕ → List ℕ → List ℕ
replaced p h [] = []
replaced p h (x ∷ xs) = cond (eqb x p) h x ∷ replaced p h xs

-- n free tracks stand from i on (demand 2)
pub record FreeRun (xs : List ℕ) (i n : ℕ) : Type 0 where
  pub within : i + n ≤ length xs
  pub free : (k : ℕ) → k < n → get_or xs (i + k) nobody ≡ nobody

-- the lowest of them begins at i
pub record LowestRun (xs : List ℕ) (i n : ℕ) : Type 0 where
  pub there : FreeRun xs i n
  pub least : (j : ℕ) → FreeRun xs j n → i ≤ j
