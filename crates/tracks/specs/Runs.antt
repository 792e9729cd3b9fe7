-- The longest runs of one holder, from the lowest track up (OUTLINE, "The page and the console line").
-- Assumes nothing.
use Rattle.std.specs.Prelude.{ℕ, suc, cond, List, [], ◌∷◌, eqb}
use Rattle.tracks.specs.declared.held.Run.{Run}

abbrev pub run_of : ℕ → ℕ → ℕ → Run
run_of i j h = record { first = i; last = j; holder = h }

-- track i is h's, and gs are the runs behind it: one run with the first of them where that is h's too
abbrev pub joined : ℕ → ℕ → List Run → List Run
joined i h [] = run_of i i h ∷ []
joined i h (g ∷ gs) = cond (eqb h g.holder) (run_of i g.last h ∷ gs) (run_of i i h ∷ g ∷ gs)

-- the runs of tracks with these holders, the first of them track i
abbrev pub runs_of : ℕ → List ℕ → List Run
runs_of i [] = []
runs_of i (h ∷ hs) = joined i h (runs_of (suc i) hs)
