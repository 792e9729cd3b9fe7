-- Stretches of tracks by the track and not by its place in the stretch: what the laws of runs say, at each track from start on.
-- Assumes nothing.
use Prim.Native.Nat.{ℕ, ◌+◌, ◌-◌, ◌≤◌, ◌<◌}
use native.Mathlib.Omega.{arith}
use mathlib.Core.Path.{◌≡◌, sym, ap, ◌∙◌}
use mathlib.Core.Bool.{true}
use mathlib.Core.List.{List}
use mathlib.Core.Option.{some}
use lib.ListN.{length, get_or, drop}
use Rattle.tracks.specs.Tracks.{nobody, run, lowest, filled}
use Rattle.tracks.proofs.Runs.{filled_in, run-true, lowest-found}

-- n tracks from start on are h's
pub record Runs (h start n : ℕ) (xs : List ℕ) : Type 0 where
  pub fits : start + n ≤ length xs
  pub each : (i : ℕ) → start ≤ i → i < start + n → get_or xs i nobody ≡ h

-- what stands at start + k for each k below n stands at each track from start on
from_start : (h start n : ℕ) (xs : List ℕ) → ((k : ℕ) → k < n → get_or xs (start + k) nobody ≡ h) → (i : ℕ) → start ≤ i → i < start + n
    → get_or xs i nobody ≡ h
from_start h start n xs f i k l =
    let w : start + (i - start) ≡ i = omega arith in
    ap (λ (x : ℕ). get_or xs x nobody) (sym w) ∙ f (i - start) (omega arith)

pub filled_at : (start n h : ℕ) (xs : List ℕ) (i : ℕ) → start ≤ i → i < start + n → start + n ≤ length xs
    → get_or (filled start n h xs) i nobody ≡ h
filled_at start n h xs i k l m = from_start h start n (filled start n h xs) (filled_in start n h xs m) i k l

pub runs-drop : (h start n : ℕ) (xs : List ℕ) → 1 ≤ n → run h n (drop start xs) ≡ true → Runs h start n xs
runs-drop h start n xs l e =
    let r = run-true h n start xs l e in
    record { fits = r.within; each = from_start h start n xs r.held }

pub lowest-runs : (n : ℕ) (xs : List ℕ) (i : ℕ) → 1 ≤ n → lowest n 0 xs ≡ some i → Runs nobody i n xs
lowest-runs n xs i l e =
    let r = (lowest-found n xs i l e).there in
    record { fits = r.within; each = from_start nobody i n xs r.free }
