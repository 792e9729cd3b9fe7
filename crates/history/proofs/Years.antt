-- The start year is FRESH's alone: every other call leaves it, of any tables, sound or not.
-- No event of a plan but a renewal has a year; TICK,n makes TICKs, and a refusal hands back the tables.
-- Assumes nothing.
use Prim.Native.Nat.{ℕ, zero, suc, ◌+◌, ◌≤◌}
use native.Mathlib.Omega.{arith}
use mathlib.Core.Path.{◌≡◌, refl, sym, ap, ◌∙◌, subst}
use mathlib.Core.Logic.{◌≢◌}
use mathlib.Core.Bool.{Bool, true, false}
use Rattle.rules.specs.Requests.{Request, FRESH, TICK}
use Rattle.clock.specs.Clock.{ceiling}
use Rattle.rules.specs.Keeper.{lists, State, after}
use Rattle.rules.specs.Sound.{Sound}
use Rattle.rules.specs.Engine.{after_ticks}
use Rattle.rules.proofs.frame.FrameLaws as rules
use Rattle.rules.proofs.soundness.SoundRuns.{sound-after}
use Rattle.rules.proofs.shared.ManyTicks.{Comes, refuses, makes, comes}
use Rattle.timers.proofs.Moves.{sound-timely, tick-moved}
use Rattle.tables.specs.declared.Tables.{Tables}
use Rattle.tables.specs.Tables.{plain, lay, Arrays, clock_of}
use Rattle.tables.specs.Sound.{sound}
use Rattle.tables.specs.Calls.{Result, asked, many_ticks}
use Rattle.tables.proofs.Agree.{sound-clauses}
use Rattle.tables.proofs.Plain.{plain-lay, sound-plain}
use Rattle.tables.proofs.Orderly.{orderly-lay, sound-orderly}
use Rattle.tables.proofs.ManyTicks.{tick-laid}
use Rattle.tables.proofs.Demanded.{after_is}
use Rattle.history.specs.Runs.{Made}
use Rattle.history.specs.Demand.{Asks, year_of, YearStays}
use Rattle.history.proofs.Leaving.{asked-stays, left_by}

-- the year of tables u is that of tables t
abbrev Same : Tables → Tables → Type 0
Same t u = year_of u ≡ year_of t

-- of a plain state that is laid out, after so many ticks
ticks-same : (m : ℕ) (a : State lists) → Sound a → a.book.clock + m ≤ ceiling → year_of (after_ticks asked m (lay a)) ≡ a.book.year
unfolding after_ticks
ticks-same zero a S h = ap (λ (x : State lists). x.book.year) (plain-lay a S)
ticks-same (suc m) a S h =
    let b : State lists = after lists a TICK in
    let T = ap (λ (r : Result). r.tables) (tick-laid a S (omega arith)) in
    let c : b.book.clock ≡ a.book.clock + 1 = ap (λ (x : State lists). x.book.clock) (tick-moved a (sound-timely a S) (omega arith)) in
    ap (λ (u : Tables). year_of (after_ticks asked m u)) T
    ∙ ticks-same m b (sound-after a S TICK) (omega (arith, c)) ∙ rules.year-kept lists a TICK (λ T B R Y e. no-fresh e)
  where
    no-fresh : {T B R Y : ℕ} → TICK ≡ FRESH T B R Y → ⊥
    no-fresh e = let z : ◌≡◌ {A = ℕ} 0 1 = cc in omega arith

module _ (t : Tables) (A : Arrays t) where
  same : (u : Tables) → u ≡ t → Same t u
  same u e = ap year_of e

  asked-same : (q : Request) → ((T S R Y : ℕ) → q ≢ FRESH T S R Y) → Same t (asked t q).tables
  asked-same q old = go (sound t) refl
    where
      go : (b : Bool) → sound t ≡ b → Same t (asked t q).tables
      go true e = ap (λ (x : State lists). x.book.year) (after_is t A e q) ∙ rules.year-kept lists (plain t) q old
      go false e = same (asked t q).tables (asked-stays t e q)

  ticked-same : (m : ℕ) → Same t (many_ticks t m).tables
  ticked-same m = go (comes sound clock_of asked t m)
    where
      go : Comes sound clock_of asked t m → Same t (many_ticks t m).tables
      go (refuses a l h e) = same (many_ticks t m).tables (ap (λ (r : Result). r.tables) e)
      go (makes M) =
          let S : Sound (plain t) = sound-plain t A (sound-clauses t M.tested) in
          let i : t ≡ lay (plain t) = sym (orderly-lay t (sound-orderly t A (sound-clauses t M.tested))) in
          ap (λ (r : Result). year_of r.tables) M.made ∙ ap (λ (u : Tables). year_of (after_ticks asked m u)) i
          ∙ ticks-same m (plain t) S M.below

  pub year-stays : (c : Made) → YearStays t c
  year-stays c = record {
    same = λ old.
        left_by t (Same t) refl c (λ q a. asked-same q (λ T S R Y e. old T S R Y (subst (λ (x : Request). Asks x c) e a)))
        (λ m a. ticked-same m) (λ T S R Y a e. absurd (old T S R Y a));
  }
