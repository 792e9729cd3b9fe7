-- Laws of the runs of one holder: the list of runs is folded from its end, and the code finds a run from its beginning. A run that grows
-- joins the first of the runs behind it.
-- Assumes nothing.
use Prim.Native.Nat.{ℕ, ◌+◌, ◌<◌, ◌≤◌}
use native.Mathlib.Numerals.{add-one}
use native.Mathlib.Omega.{arith}
use mathlib.Core.Path.{◌≡◌, refl, sym, ap, ◌∙◌}
use mathlib.Core.Bool.{Bool, true, false, cond}
use mathlib.Core.List.{List, [], ◌∷◌}
use lib.Dec.{eqb}
use lib.ListN.{length, get_or, drop}
use lib.Seq.{drop-cons, drop-length}
use borrow.Author.Tests.{eq-eqb, ne_eqb}
use Rattle.tracks.specs.declared.held.Run.{Run}
use Rattle.tracks.specs.Tracks.{nobody}
use Rattle.tracks.specs.Runs.{run_of, joined, runs_of}
use Rattle.tracks.specs.Inner.{RunFrom}

-- the run of h from i to j, and the runs gs behind it: one with the first of them where that is h's too
abbrev pub grown : ℕ → ℕ → ℕ → List Run → List Run
grown i j h [] = run_of i j h ∷ []
grown i j h (g ∷ gs) = cond (eqb h g.holder) (run_of i g.last h ∷ gs) (run_of i j h ∷ g ∷ gs)

joined-grown : (i h : ℕ) (gs : List Run) → joined i h gs ≡ grown i i h gs
joined-grown i h [] = refl
joined-grown i h (g ∷ gs) = refl

-- behind it comes a run of x, by the test whether x is h
grown-at : (i j k l h x : ℕ) (fs : List Run) (b : Bool) → eqb h x ≡ b
    → grown i j h (run_of k l x ∷ fs) ≡ cond b (run_of i l h ∷ fs) (run_of i j h ∷ run_of k l x ∷ fs)
grown-at i j k l h x fs b e = ap (λ (t : Bool). cond t (run_of i l h ∷ fs) (run_of i j h ∷ run_of k l x ∷ fs)) e

grown-joined : (i j k h : ℕ) (gs : List Run) → grown i j h (joined k h gs) ≡ grown i k h gs
grown-joined i j k h [] = grown-at i j k k h h [] true (eq-eqb h h refl)
grown-joined i j k h (g ∷ gs) = go (eqb h g.holder)
  where
    go : (b : Bool)
        → grown i j h (cond b (run_of k g.last h ∷ gs) (run_of k k h ∷ g ∷ gs)) ≡ cond b (run_of i g.last h ∷ gs) (run_of i k h ∷ g ∷ gs)
    go true = grown-at i j k g.last h h gs true (eq-eqb h h refl)
    go false = grown-at i j k k h h (g ∷ gs) true (eq-eqb h h refl)

grown-other : (i j k h x : ℕ) (gs : List Run) → (x ≡ h → ⊥) → grown i j h (joined k x gs) ≡ run_of i j h ∷ joined k x gs
grown-other i j k h x [] n = grown-at i j k k h x [] false (ne_eqb h x (λ e. n (sym e)))
grown-other i j k h x (g ∷ gs) n = go (eqb x g.holder)
  where
    go : (b : Bool) → grown i j h (cond b (run_of k g.last x ∷ gs) (run_of k k x ∷ g ∷ gs))
        ≡ run_of i j h ∷ cond b (run_of k g.last x ∷ gs) (run_of k k x ∷ g ∷ gs)
    go true = grown-at i j k g.last h x gs false (ne_eqb h x (λ e. n (sym e)))
    go false = grown-at i j k k h x (g ∷ gs) false (ne_eqb h x (λ e. n (sym e)))

-- the runs of the tracks from i on
abbrev pub runs_from : List ℕ → ℕ → List Run
runs_from hs i = runs_of i (drop i hs)

runs-cons : (hs : List ℕ) (i : ℕ) → i < length hs → runs_from hs i ≡ joined i (get_or hs i nobody) (runs_from hs (i + 1))
runs-cons hs i l = ap (runs_of i) (drop-cons hs i nobody l) ∙ ap (λ (k : ℕ). joined i (get_or hs i nobody) (runs_from hs k)) (sym (add-one i))

pub runs_past : (hs : List ℕ) (i : ℕ) → length hs ≤ i → i ≤ length hs → runs_from hs i ≡ []
runs_past hs i h l = let e : i ≡ length hs = omega arith in ap (runs_of i) (ap (λ (k : ℕ). drop k hs) e ∙ drop-length hs)

-- the tracks from i to j are all h's
abbrev pub Running : List ℕ → ℕ → ℕ → ℕ → Type 0
Running hs i h j = runs_from hs i ≡ grown i j h (runs_from hs (j + 1))

module _ (hs : List ℕ) (i h : ℕ) where
  pub run-start : i < length hs → get_or hs i nobody ≡ h → Running hs i h i
  run-start l e = runs-cons hs i l ∙ ap (λ (x : ℕ). joined i x (runs_from hs (i + 1))) e ∙ joined-grown i h (runs_from hs (i + 1))

  pub run_on : (j : ℕ) → j + 1 < length hs → get_or hs (j + 1) nobody ≡ h → Running hs i h j → Running hs i h (j + 1)
  run_on j l e R =
      R
      ∙ ap (grown i j h) (runs-cons hs (j + 1) l ∙ ap (λ (x : ℕ). joined (j + 1) x (runs_from hs (j + 1 + 1))) e)
      ∙ grown-joined i j (j + 1) h (runs_from hs (j + 1 + 1))

  -- the run ends before a track of another, or with the last
  pub run-stops : (j : ℕ) → i ≤ j → j + 1 < length hs → (get_or hs (j + 1) nobody ≡ h → ⊥) → Running hs i h j → RunFrom hs i (run_of i j h)
  run-stops j b l n R =
      let c = runs-cons hs (j + 1) l in
      record {
        low = b;
        high = omega arith;
        runs = R
            ∙ ap (grown i j h) c
            ∙ grown-other i j (j + 1) h (get_or hs (j + 1) nobody) (runs_from hs (j + 1 + 1)) n
            ∙ ap (λ (gs : List Run). run_of i j h ∷ gs) (sym c);
      }

  pub run_ends : (j : ℕ) → i ≤ j → length hs ≤ j + 1 → j < length hs → Running hs i h j → RunFrom hs i (run_of i j h)
  run_ends j b l m R =
      let c = runs_past hs (j + 1) l (omega arith) in
      record { low = b; high = m; runs = R ∙ ap (grown i j h) c ∙ ap (λ (gs : List Run). run_of i j h ∷ gs) (sym c) }
