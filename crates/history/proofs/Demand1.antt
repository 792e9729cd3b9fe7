-- Demand 1 of the tables themselves: on any tables, of every call of a run, the number is of the outline's list, and where it is a refusal,
-- the tables and the lent buffer are as they were.
-- A plan that is refused holds no events, and where nothing happens the tables come back themselves; 12, 13 and 14 are
-- told where the tables are handed back.
-- Assumes nothing.
use Prim.Native.Nat.{ℕ}
use native.Mathlib.Omega.{arith}
use mathlib.Core.Path.{◌≡◌, refl, ap}
use mathlib.Core.Logic.{◌≢◌}
use mathlib.Core.Bool.{Bool, true, false}
use mathlib.Core.List.{[], ◌∷◌}
use Rattle.rules.specs.Requests.{FRESH, LOAD, operator, TICK, running}
use Rattle.rules.specs.Rules.{may_start}
use Rattle.rules.specs.Engine.{beside, made_by, paged_in}
use Rattle.rules.proofs.shared.ManyTicks.{many-unsound}
use Rattle.tables.specs.declared.Tables.{Tables}
use Rattle.tables.specs.Tables.{freshly, smallest, clock_of}
use Rattle.tables.specs.Sound.{sound}
use Rattle.tables.specs.Calls.{asked, made}
use Rattle.page.specs.Paging.{linked}
use Rattle.console.specs.Console.{keyed_in}
use Rattle.history.specs.Runs.{Made, step, begun}
use Rattle.history.specs.Runs as calls
use Rattle.history.specs.Demand.{Refuses}
use Rattle.console.proofs.Refusing.{Kept, asked-kept, ticked-kept, paged-kept, keyed-kept}

module _ (t : Tables) where
  made_kept : (T S R Y : ℕ) → Kept t [] (beside [] (begun linked t (made_by freshly T S R Y)))
  unfolding made_by
  made_kept T S R Y = go (may_start T S R Y) refl
    where
      go : (b : Bool) → may_start T S R Y ≡ b → Kept t [] (beside [] (begun linked t (made_by freshly T S R Y)))
      go true e = rw (e, made_by) (record { listed = omega arith; tables = λ h. absurd (omega arith); buffer = λ h. refl })
      go false e = rw (e, made_by) (record { listed = omega arith; tables = λ h. refl; buffer = λ h. refl })

  step_kept : (c : Made) → Kept t (calls.lent_to c) (step linked t c)
  unfolding step
  step_kept (calls.request (FRESH T S R Y)) = made_kept T S R Y
  step_kept (calls.request (LOAD nm n)) = asked-kept t [] (LOAD nm n)
  step_kept (calls.request (operator o nm)) = asked-kept t [] (operator o nm)
  step_kept (calls.request TICK) = asked-kept t [] TICK
  step_kept (calls.request (running r)) = asked-kept t [] (running r)
  step_kept (calls.ticks n) = ticked-kept t [] n
  step_kept (calls.page buf) = paged-kept t buf
  step_kept (calls.line bytes buf) = keyed-kept t buf bytes

  -- DEMAND 1
  pub refused-keeps : (c : Made) → Refuses t c
  refused-keeps c = let k = step_kept c in record { listed = k.listed; tables = k.tables; buffer = k.buffer }

-- FRESH as a call of its own takes no tables: it is accepted for the outline's sizes, and else it is 3 and yields the smallest
pub fresh-accepted : (T S R Y : ℕ) → may_start T S R Y ≡ true → made T S R Y ≡ record { number = 0; values = 0 ∷ []; tables = freshly T S R Y }
unfolding made_by
fresh-accepted T S R Y e = rw (e, made_by)

pub fresh-refused : (T S R Y : ℕ) → may_start T S R Y ≡ false → made T S R Y ≡ record { number = 3; values = 0 ∷ []; tables = smallest }
unfolding made_by
fresh-refused T S R Y e = rw (e, made_by)

-- Tables that are not sound: every call but FRESH, which takes none, is 14 with value 0, and they come back as they were.
pub unsound-refused : (t : Tables) → sound t ≡ false → (c : Made) → ((T S R Y : ℕ) → c ≢ calls.request (FRESH T S R Y))
    → step linked t c ≡ record { number = 14; values = 0 ∷ []; tables = t; buffer = calls.lent_to c }
unfolding step asked paged_in keyed_in
unsound-refused t e (calls.request (FRESH T S R Y)) n = absurd (n T S R Y refl)
unsound-refused t e (calls.request (LOAD nm m)) n = rw (e, asked)
unsound-refused t e (calls.request (operator o nm)) n = rw (e, asked)
unsound-refused t e (calls.request TICK) n = rw (e, asked)
unsound-refused t e (calls.request (running r)) n = rw (e, asked)
unsound-refused t e (calls.ticks m) n = ap (beside []) (many-unsound sound clock_of asked t m e)
unsound-refused t e (calls.page buf) n = rw (e, paged_in)
unsound-refused t e (calls.line bytes buf) n = rw (e, keyed_in)
