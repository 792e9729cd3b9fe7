-- FRESH: what it hands back, and the fresh tables piece by piece.
-- Assumes nothing.
use Prim.Native.Nat.{ℕ, ◌-◌}
use mathlib.Core.Path.{◌≡◌, refl}
use mathlib.Core.Bool.{true, false}
use mathlib.Core.List.{[], ◌∷◌, ◌++◌}
use lib.ListN.{replicate}
use Rattle.rules.specs.Engine.{made_by}
use Rattle.clock.specs.declared.Clock.{Clock}
use Rattle.records.specs.declared.Program.{Program}
use Rattle.records.specs.declared.Numbers.{Numbers}
use Rattle.records.specs.Records.{unused}
use Rattle.records.specs.Numbers.{free}
use Rattle.records.specs.Numbers as numbers
use Rattle.tracks.specs.declared.Tracks.{Tracks}
use Rattle.tracks.specs.Tracks.{nobody, system}
use Rattle.tracks.specs.Tracks as tracks
use Rattle.rules.specs.declared.Answer.TheVariants.{Done, NotAllowed}
use Rattle.rules.specs.Rules.{may_start}
use Rattle.rules.specs.Keeper.{lists, fresh}
use Rattle.chains.specs.Links.{links_of}
use Rattle.tables.specs.declared.Tables.{Tables}
use Rattle.tables.specs.Tables.{lay, smallest}
use Rattle.tables.specs.Calls.{told, made}

-- what FRESH hands back
module _ (T S R Y : ℕ) where
  pub made-done : (t : Tables) → may_start T S R Y ≡ true → t ≡ lay (fresh lists T S R Y)
      → told (record { answer = Done 0; tables = t }) ≡ made T S R Y
  unfolding made_by
  made-done t e f = rw (e, made_by) (λ i. record { number = 0; values = 0 ∷ []; tables = f i })

  pub made-refused : (t : Tables) → may_start T S R Y ≡ false → t ≡ smallest → told (record { answer = NotAllowed; tables = t }) ≡ made T S R Y
  unfolding made_by
  made-refused t e f = rw (e, made_by) (λ i. record { number = 3; values = 0 ∷ []; tables = f i })

-- no chain: no link
no-links : replicate {A = ℕ} 40 0 ≡ links_of (replicate 7 [])
unfolding links_of
no-links = refl

pub fresh-laid : (T S R Y : ℕ) (u : Program) (c : Clock) (x : Tracks) (y : Numbers) → u ≡ unused → c ≡ record { ticks = 0; year = Y }
    → x ≡ tracks.table_of T S (replicate S system ++ replicate (T - S) nobody) → y ≡ numbers.table_of R (replicate R free)
    → ◌≡◌ {A = Tables}
    (record { ledger = record { programs = replicate 32 u; clock = c; tracks = x; numbers = y }; links = replicate 40 0 })
    (lay (fresh lists T S R Y))
fresh-laid T S R Y u c x y U C X N = λ i. record {
  ledger = record { programs = replicate 32 (U i); clock = C i; tracks = X i; numbers = N i };
  links = no-links i;
}
