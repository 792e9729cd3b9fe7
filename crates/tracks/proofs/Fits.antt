-- A table of as many holders as it has tracks is a fit one, its holders are those, and what the functions make of one is so again. Only
-- lengths matter: the table is cut where its holders end.
-- Assumes nothing.
use Prim.Native.Nat.{ℕ, ◌-◌, ◌≤◌}
use mathlib.Core.Path.{◌≡◌, refl, sym, ap, ◌∙◌}
use mathlib.Core.List.{List, ◌++◌}
use lib.ListN.{length, replicate}
use lib.Seq.{take_at}
use Rattle.tracks.specs.declared.Tracks.{Tracks}
use Rattle.tracks.specs.Tracks.{nobody, holders, table_of, filled, replaced}
use Rattle.tracks.specs.Inner.{Fit}
use Rattle.tracks.proofs.Runs.{filled-long, replaced-long}

pub holders-of : (T S : ℕ) (xs : List ℕ) → length xs ≡ T → holders (table_of T S xs) ≡ xs
holders-of T S xs e = take_at xs (replicate (256 - T) nobody) T e

pub fit : (T S : ℕ) (xs : List ℕ) → length xs ≡ T → T ≤ 256 → Fit (table_of T S xs)
fit T S xs e m = record { most = m; long = ap length (holders-of T S xs e) ∙ e; formed = ap (table_of T S) (sym (holders-of T S xs e)) }

-- the array of a fit table is its holders and nobody behind
pub laid : {t : Tracks} → Fit t → t.holders ≡ holders t ++ replicate (256 - t.count) nobody
laid f = ap (λ (t : Tracks). t.holders) f.formed

pub made : (T S : ℕ) (zs xs : List ℕ) → zs ≡ xs ++ replicate (256 - T) nobody
    → record { count = T; system = S; holders = zs } ≡ table_of T S xs
made T S zs xs e = ap (λ (ys : List ℕ). record { count = T; system = S; holders = ys }) e

-- what is known of a table r that a function made: T tracks, S of them the system's, and who holds them
pub record Holds (r : Tracks) (T S : ℕ) (xs : List ℕ) : Type 0 where
  pub fit : Fit r
  pub tracks : r.count ≡ T
  pub own : r.system ≡ S
  pub held : holders r ≡ xs

pub holds : (r : Tracks) (T S : ℕ) (xs : List ℕ) → r ≡ table_of T S xs → length xs ≡ T → T ≤ 256 → Holds r T S xs
holds r T S xs e l m =
    rw e
    (record {
      fit = fit T S xs l m;
      tracks = refl;
      own = refl;
      held = holders-of T S xs l;
    })

module _ (r t : Tracks) (f : Fit t) where
  pub filled-holds : (i n h : ℕ) → r ≡ table_of t.count t.system (filled i n h (holders t))
      → Holds r t.count t.system (filled i n h (holders t))
  filled-holds i n h e = holds r t.count t.system (filled i n h (holders t)) e (filled-long i n h (holders t) ∙ f.long) f.most

  pub replaced-holds : (p h : ℕ) → r ≡ table_of t.count t.system (replaced p h (holders t))
      → Holds r t.count t.system (replaced p h (holders t))
  replaced-holds p h e = holds r t.count t.system (replaced p h (holders t)) e (replaced-long p h (holders t) ∙ f.long) f.most
