-- Room for the lines of the held tracks. A track weighs the line of a run of its own whose holder has four bytes: two fewer
-- than `global`, two more than a program.
-- Neighbouring runs have different holders, so a global run takes the two that it wants from the run behind it,
-- and only the first run is left wanting.
-- Assumes nothing.
use Prim.Native.Nat.{ℕ, suc, ◌+◌, ◌*◌, ◌<◌, ◌≤◌}
use native.Mathlib.Omega.{arith}
use native.Mathlib.Decide.{ℕ_discrete}
use mathlib.Core.Path.{◌≡◌, refl, sym, ap, ◌∙◌}
use mathlib.Core.Logic.{◌≢◌}
use mathlib.Core.Bool.{Bool, true, false, cond}
use mathlib.Core.List.{List, [], ◌∷◌}
use lib.ListN.{length, get_or, length-append}
use lib.Dec.{eqb}
use borrow.Author.Tests.{eqb-true, eqb-false}
use Rattle.lists.specs.Lists.{from, join}
use Rattle.text.specs.Text.{digits, decimal}
use Rattle.records.specs.Numbers.{globally}
use Rattle.tracks.specs.declared.held.Run.{Run}
use Rattle.tracks.specs.Tracks.{nobody, system}
use Rattle.tracks.specs.Runs.{run_of, joined, runs_of}
use Rattle.page.specs.Page.{bytes, party, held_line, held_lines}
use Rattle.page.proofs.Writing.{pieces, pieces-join, held-free, held-system, held-some}
use Rattle.page.proofs.Widths.{decimal-rise, gain, gain-most, party-length}
use Rattle.page.proofs.Weights.{weigh, weigh-from}

-- LINES
-- of a run that has one
pub held-length : (g : Run) → g.holder ≢ nobody → g.holder ≢ system
    → length (bytes (held_line g)) ≡ 8 + length (decimal g.first) + length (decimal g.last) + length (party g.holder)
held-length g n m = rw (held-some g n m) (simp length-append (omega arith))

held-most : (g : Run) → g.holder ≤ system
    → length (bytes (held_line g)) ≤ 10 + length (decimal g.first) + length (decimal g.last) + 2 * gain g.holder
held-most g h = go (ℕ_discrete g.holder nobody) (ℕ_discrete g.holder system)
  where
    go : Dec (g.holder ≡ nobody) → Dec (g.holder ≡ system)
        → length (bytes (held_line g)) ≤ 10 + length (decimal g.first) + length (decimal g.last) + 2 * gain g.holder
    go (yes e) d = omega (arith, ap length (held-free g e))
    go (no n) (yes e) = omega (arith, ap length (held-system g e))
    go (no n) (no m) = omega (arith, held-length g n m, party-length g.holder (omega arith))

-- a run that begins earlier has no longer line
held-earlier : (i : ℕ) (g : Run) → i ≤ g.first → length (bytes (held_line (run_of i g.last g.holder))) ≤ length (bytes (held_line g))
held-earlier i g h = go (ℕ_discrete g.holder nobody) (ℕ_discrete g.holder system)
  where
    go : Dec (g.holder ≡ nobody) → Dec (g.holder ≡ system)
        → length (bytes (held_line (run_of i g.last g.holder))) ≤ length (bytes (held_line g))
    go (yes e) d = omega (arith, ap length (held-free (run_of i g.last g.holder) e))
    go (no n) (yes e) = omega (arith, ap length (held-system (run_of i g.last g.holder) e))
    go (no n) (no m) = omega (arith, held-length (run_of i g.last g.holder) n m, held-length g n m, decimal-rise i g.first h)

-- WEIGHTS
abbrev track : ℕ → ℕ
track i = 12 + 2 * length (decimal i)

-- ten tracks of one digit, ninety of two, 156 of three
tracks-weigh : (n : ℕ) → n ≤ 256 → weigh track (from 0 n) ≤ 4388
unfolding decimal digits
tracks-weigh n h = weigh-from track 0 n 256 4388 h refl

-- a run of one track wants two bytes or has two over
alone : (i h : ℕ) → h ≤ system → length (bytes (held_line (run_of i i h))) + 2 ≤ track i + 2 * gain h
alone i h b = omega (arith, held-most (run_of i i h) b)

-- two holders that differ are not both global
gain-apart : (h k : ℕ) → h ≢ k → gain h + gain k ≤ 2
gain-apart h k n = go (eqb h globally) (eqb k globally) refl refl
  where
    go : (s t : Bool) → eqb h globally ≡ s → eqb k globally ≡ t → cond s 2 0 + cond t 2 0 ≤ 2
    go true true a b = absurd (n (eqb-true h globally a ∙ sym (eqb-true k globally b)))
    go true false a b = omega arith
    go false true a b = omega arith
    go false false a b = omega arith

-- RUNS
abbrev pub lines_of : List Run → List ℕ
lines_of gs = join (pieces held_line gs)

pub lines-length : (g : Run) (gs : List Run) → length (lines_of (g ∷ gs)) ≡ length (bytes (held_line g)) + length (lines_of gs)
lines-length g gs = length-append (bytes (held_line g)) (lines_of gs)

-- the first run begins at i or behind it; what it wants
abbrev Behind : ℕ → List Run → Type 0
Behind i [] = Unit {0}
Behind i (g ∷ gs) = i ≤ g.first

abbrev want : List Run → ℕ
want [] = 0
want (g ∷ gs) = gain g.holder

want-most : (gs : List Run) → want gs ≤ 2
want-most [] = omega arith
want-most (g ∷ gs) = gain-most g.holder

-- the runs of n tracks from i on
record Fits (i n : ℕ) (gs : List Run) : Type 0 where
  begin : Behind i gs
  room : length (lines_of gs) ≤ weigh track (from i n) + want gs

joined-fits : (i h n : ℕ) (gs : List Run) → h ≤ system → Fits (suc i) n gs → Fits i (suc n) (joined i h gs)
joined-fits i h n [] b F = record { begin = omega arith; room = omega (arith, lines-length (run_of i i h) [], alone i h b, gain-most h) }
joined-fits i h n (g ∷ gs) b F = go (eqb h g.holder) refl
  where
    go : (t : Bool) → eqb h g.holder ≡ t → Fits i (suc n) (cond t (run_of i g.last h ∷ gs) (run_of i i h ∷ g ∷ gs))
    go true e = rw (eqb-true h g.holder e) (record {
      begin = omega arith;
      room = omega (
        arith,
        lines-length (run_of i g.last g.holder) gs,
        lines-length g gs,
        held-earlier i g (omega (arith, F.begin)),
        F.room,
      );
    })
    go false e = record {
      begin = omega arith;
      room = omega (arith, lines-length (run_of i i h) (g ∷ gs), alone i h b, gain-apart h g.holder (eqb-false h g.holder e), F.room);
    }

runs_fit : (i : ℕ) (hs : List ℕ) → ((k : ℕ) → k < length hs → get_or hs k nobody ≤ system) → Fits i (length hs) (runs_of i hs)
runs_fit i [] b = record { begin = tt; room = omega arith }
runs_fit i (h ∷ hs) b =
    joined-fits i h (length hs) (runs_of (suc i) hs) (b 0 (omega arith)) (runs_fit (suc i) hs (λ k l. b (suc k) (omega arith)))

pub held-room : (hs : List ℕ) → length hs ≤ 256 → ((k : ℕ) → k < length hs → get_or hs k nobody ≤ system)
    → length (bytes (held_lines hs)) ≤ 4390
unfolding held_lines
held-room hs l b = omega (
  arith,
  ap length (pieces-join held_line (runs_of 0 hs)),
  (runs_fit 0 hs b).room,
  want-most (runs_of 0 hs),
  tracks-weigh (length hs) l,
)
