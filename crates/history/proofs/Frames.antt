-- The frame (demand 3), of any tables, sound or not: no call alters the record of a program that it does not touch, and one that may only
-- be woken stays as it is, or its wait is over. What makes no request leaves the tables; a request asked of sound tables is the rule's, which
-- has the frame; and tables that are not sound stay as they are.
-- Assumes nothing.
use Prim.Native.Nat.{ℕ, zero, suc, ◌+◌, ◌≤◌, ◌<◌}
use native.Mathlib.Omega.{arith}
use mathlib.Core.Path.{◌≡◌, refl, sym, ap, ◌∙◌, subst}
use mathlib.Core.Logic.{◌≢◌}
use mathlib.Core.Bool.{Bool, true, false}
use Rattle.records.specs.Records.{Known}
use Rattle.rules.specs.Book.{at}
use Rattle.rules.specs.Requests.{Request, FRESH, TICK}
use Rattle.clock.specs.Clock.{ceiling}
use Rattle.rules.specs.Rules.{may_start, due_at}
use Rattle.rules.specs.Keeper.{lists, State, after}
use Rattle.rules.specs.Sound.{Sound}
use Rattle.rules.specs.Engine.{after_ticks, made_by}
use Rattle.rules.specs.Frame.{Stirred, stays}
use Rattle.rules.proofs.frame.FrameLaws as rules
use Rattle.rules.proofs.soundness.SoundRuns.{sound-after}
use Rattle.rules.proofs.shared.ManyTicks.{Comes, refuses, makes, comes}
use Rattle.timers.proofs.Moves.{sound-timely, tick-moved}
use Rattle.timers.proofs.Ticking.{tick-undue}
use Rattle.tables.specs.declared.Tables.{Tables}
use Rattle.tables.specs.Tables.{plain, lay, freshly, Arrays, clock_of}
use Rattle.tables.specs.Sound.{sound}
use Rattle.tables.specs.Calls.{Result, asked, many_ticks}
use Rattle.tables.proofs.Agree.{sound-clauses}
use Rattle.tables.proofs.Plain.{plain-lay, sound-plain}
use Rattle.tables.proofs.Orderly.{orderly-lay, sound-orderly}
use Rattle.tables.proofs.ManyTicks.{tick-laid}
use Rattle.tables.proofs.Demanded.{after_is}
use Rattle.page.specs.Paging.{linked}
use Rattle.history.specs.Runs.{Made, begun}
use Rattle.history.specs.Runs as calls
use Rattle.history.specs.Demand.{Asks, Touches, anew, concerns, ticking}
use Rattle.history.specs.Demand.{before, afterwards, Bystander}
use Rattle.history.proofs.Leaving.{asked-stays, left_by}

-- so many ticks of tables that are laid out, at none of which p is due
undue-same : (m : ℕ) (a : State lists) → Sound a → a.book.clock + m ≤ ceiling → (p : ℕ) → Known p
    → ((k : ℕ) → k < m → due_at (plain (after_ticks asked k (lay a))).book p ≡ true → ⊥)
    → at (plain (after_ticks asked m (lay a))).book p ≡ at (plain (lay a)).book p
unfolding after_ticks
undue-same zero a S h p P f = refl
undue-same (suc m) a S h p P f =
    let b : State lists = after lists a TICK in
    let B : Sound b = sound-after a S TICK in
    let T = ap (λ (r : Result). r.tables) (tick-laid a S (omega arith)) in
    let c : b.book.clock ≡ a.book.clock + 1 = ap (λ (x : State lists). x.book.clock) (tick-moved a (sound-timely a S) (omega arith)) in
    ap (λ (u : Tables). at (plain (after_ticks asked m u)).book p) T
    ∙ undue-same m b B (omega (arith, c)) p P
    (λ k l d. f (suc k) (omega arith) (ap (λ (u : Tables). due_at (plain (after_ticks asked k u)).book p) T ∙ d))
    ∙ ap (λ (x : State lists). at x.book p) (plain-lay b B)
    ∙ tick-undue a S (omega arith) p P (λ d. f 0 (omega arith) (ap (λ (x : State lists). due_at x.book p) (plain-lay a S) ∙ d))
    ∙ sym (ap (λ (x : State lists). at x.book p) (plain-lay a S))

-- p's record in tables u is that in tables t
abbrev Same : Tables → ℕ → Tables → Type 0
Same t p u = at (plain u).book p ≡ at (plain t).book p

module _ (t : Tables) (A : Arrays t) (p : ℕ) (P : Known p) where
  same : (u : Tables) → u ≡ t → Same t p u
  same u e = ap (λ (x : Tables). at (plain x).book p) e

  -- a request, whatever is known of p where the tables are sound
  asked-same : (c : Made) (q : Request) → Asks q c → (Touches t c p → ⊥) → Same t p (asked t q).tables
  asked-same c q a n = go (sound t) refl
    where
      go : (b : Bool) → sound t ≡ b → Same t p (asked t q).tables
      go true e = ap (λ (x : State lists). at x.book p) (after_is t A e q)
          ∙ rules.frame lists (plain t) q p P (λ x. n (concerns q a e x))
      go false e = same (asked t q).tables (asked-stays t e q)

  -- TICK,n, which leaves the record of a program that is due at none of its ticks
  ticked-same : (m : ℕ) → ((many_ticks t m).number ≡ 0 → (k : ℕ) → k < m → due_at (plain (after_ticks asked k t)).book p ≡ true → ⊥)
      → Same t p (many_ticks t m).tables
  ticked-same m f = go (comes sound clock_of asked t m)
    where
      go : Comes sound clock_of asked t m → Same t p (many_ticks t m).tables
      go (refuses a l h e) = same (many_ticks t m).tables (ap (λ (r : Result). r.tables) e)
      go (makes M) =
          let S : Sound (plain t) = sound-plain t A (sound-clauses t M.tested) in
          let i : t ≡ lay (plain t) = sym (orderly-lay t (sound-orderly t A (sound-clauses t M.tested))) in
          ap (λ (r : Result). at (plain r.tables).book p) M.made
          ∙ ap (λ (u : Tables). at (plain (after_ticks asked m u)).book p) i
          ∙ undue-same m (plain t) S M.below p P
          (λ k h d. f (ap (λ (r : Result). r.number) M.made) k h (ap (λ (u : Tables). due_at (plain (after_ticks asked k u)).book p) i ∙ d))

  -- FRESH as a call of its own
  made-same : (c : Made) (T S R Y : ℕ) → c ≡ calls.request (FRESH T S R Y) → (Touches t c p → ⊥)
      → Same t p (begun linked t (made_by freshly T S R Y)).tables
  unfolding made_by
  made-same c T S R Y i n = go (may_start T S R Y) refl
    where
      go : (b : Bool) → may_start T S R Y ≡ b → Same t p (begun linked t (made_by freshly T S R Y)).tables
      go true e = absurd (n (anew T S R Y i e))
      go false e = rw (e, made_by)

  -- THE FRAME
  pub frame : (c : Made) → (Touches t c p → ⊥) → afterwards t c p ≡ before t p
  frame c n =
      left_by t (Same t p) refl c (λ q a. asked-same c q a n) (λ m a. ticked-same m (λ z k h d. n (ticking m k a z h d)))
      (λ T S R Y a e. made-same c T S R Y e n)

  -- of one that may only be woken: the record stays, or its wait is over
  asked-stirred : (c : Made) → Bystander t c p → (q : Request) → Asks q c → Stirred (before t p) (at (plain (asked t q).tables).book p)
  asked-stirred c B q a = go (sound t) refl
    where
      old : (T S R Y : ℕ) → q ≢ FRESH T S R Y
      old T S R Y e = B.old T S R Y (subst (λ (x : Request). Asks x c) e a)

      go : (b : Bool) → sound t ≡ b → Stirred (before t p) (at (plain (asked t q).tables).book p)
      go true e = subst (λ (x : State lists). Stirred (before t p) (at x.book p)) (sym (after_is t A e q))
          (rules.stirred (plain t) (sound-plain t A (sound-clauses t e)) q p P old (B.apart q a))
      go false e = stays (same (asked t q).tables (asked-stays t e q))

  pub stirred : (c : Made) → Bystander t c p → Stirred (before t p) (afterwards t c p)
  stirred c B =
      left_by t (λ u. Stirred (before t p) (at (plain u).book p)) (stays refl) c (λ q a. asked-stirred c B q a)
      (λ m a. stays (ticked-same m (λ z k h d. B.undue m k a z h d))) (λ T S R Y a e. absurd (B.old T S R Y a))
