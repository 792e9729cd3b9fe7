-- FRESH takes no tables, and when refused yields the smallest; in a run those that there were go on. So in a run every request, FRESH too,
-- is what the tables are asked, and what the replay is asked.
-- Assumes nothing.
use Prim.Native.Nat.{ℕ}
use mathlib.Core.Path.{◌≡◌, refl, sym, ◌∙◌}
use mathlib.Core.Bool.{Bool, true, false, cond}
use mathlib.Core.List.{[], ◌∷◌}
use lib.Dec.{eqb}
use Rattle.rules.specs.Requests.{Request, FRESH, LOAD, operator, TICK, running}
use Rattle.rules.specs.Plans.{Plan, number_of, values_of, events_of, done, need, renewed}
use Rattle.rules.specs.Rules.{may_start, plan}
use Rattle.rules.specs.Keeper.{entries, State, step, play, view, fresh}
use Rattle.rules.specs.Engine.{Reply, made_by}
use Rattle.tables.specs.declared.Tables.{Tables}
use Rattle.tables.specs.Tables.{freshly}
use Rattle.tables.specs.Sound.{sound}
use Rattle.tables.specs.Calls.{planned}
use Rattle.page.specs.Paging.{linked}
use Rattle.history.specs.Runs.{requested}
use Rattle.history.specs.Demand.{replaying}
use Rattle.history.proofs.Steps.{asked-planned}

-- FRESH, where `new` makes fresh tables and b tells whether the sizes and the year are allowed
abbrev Begins : {F : Type 0} → F → (ℕ → ℕ → ℕ → ℕ → F) → ℕ → ℕ → ℕ → ℕ → Bool → Reply F
Begins {F} t new T S R Y b =
    let r : Reply F =
    cond b (record { number = 0; values = 0 ∷ []; tables = new T S R Y }) (record { number = 3; values = 0 ∷ []; tables = new 1 0 0 1975 }) in
    record { number = r.number; values = r.values; tables = cond (eqb r.number 0) r.tables t }

abbrev renewal : ℕ → ℕ → ℕ → ℕ → Bool → Plan
renewal T S R Y b = need b 3 0 (done (0 ∷ []) (renewed T S R Y ∷ []))

linked-begins : (t : Tables) (T S R Y : ℕ) (b : Bool) → Begins t freshly T S R Y b ≡ planned t (renewal T S R Y b)
unfolding need step
linked-begins t T S R Y true = refl
linked-begins t T S R Y false = refl

replay-begins : (n : State entries) (T S R Y : ℕ) (b : Bool)
    → Begins n (fresh entries) T S R Y b
    ≡ record {
      number = number_of (renewal T S R Y b);
      values = values_of (renewal T S R Y b);
      tables = play entries (events_of (view entries n) (renewal T S R Y b)) n;
    }
unfolding need step
replay-begins n T S R Y true = refl
replay-begins n T S R Y false = refl

pub requested-asked : (t : Tables) → sound t ≡ true → (q : Request) → requested linked t q ≡ linked.asked t q
unfolding made_by plan
requested-asked t e (FRESH T S R Y) = linked-begins t T S R Y (may_start T S R Y) ∙ sym (asked-planned t e (FRESH T S R Y))
requested-asked t e (LOAD nm n) = refl
requested-asked t e (operator o nm) = refl
requested-asked t e TICK = refl
requested-asked t e (running c) = refl

pub requested-replayed : (n : State entries) (q : Request) → requested replaying n q ≡ replaying.asked n q
unfolding made_by plan
requested-replayed n (FRESH T S R Y) = replay-begins n T S R Y (may_start T S R Y)
requested-replayed n (LOAD nm m) = refl
requested-replayed n (operator o nm) = refl
requested-replayed n TICK = refl
requested-replayed n (running c) = refl
