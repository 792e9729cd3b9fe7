-- What a tick makes of every record, at any clock below the ceiling: where the timer is due now it moves on or goes, and a dormant
-- program is scheduled; else the record stays. The clock is one further, and tracks and numbers stay. A tick is a move of the clock by one.
-- Of any sound tables. Assumes nothing.
use Prim.Native.Nat.{ℕ, ◌+◌, ◌-◌, ◌<◌}
use mathlib.Core.Path.{◌≡◌, ap, ◌∙◌}
use mathlib.Core.Bool.{true}
use Rattle.clock.specs.Clock.{ceiling}
use Rattle.rules.specs.Book.{at}
use Rattle.rules.specs.Requests.{TICK}
use Rattle.rules.specs.Plans.{number_of}
use Rattle.rules.specs.Keeper.{lists, State}
use Rattle.rules.specs.Sound as rules
use Rattle.timers.specs.Inner.{moved_to}
use Rattle.timers.proofs.Moves.{moved_at, struck-tick, sound-timely, tick-plan, tick-moved}
use Rattle.tables.specs.declared.Tables.{Tables}
use Rattle.tables.specs.Tables.{plain, Arrays}
use Rattle.tables.specs.Sound.{sound}
use Rattle.tables.specs.Calls.{Result, served, asked}
use Rattle.tables.specs.Demand.{Ticked}
use Rattle.tables.proofs.Agree.{sound-clauses}
use Rattle.tables.proofs.Plain.{sound-plain}
use Rattle.tables.proofs.Serving.{asked-sound}
use Rattle.tables.proofs.Demanded.{after_is}

-- THE TICK, of any sound tables
pub ticked : (t : Tables) → Arrays t → sound t ≡ true → (plain t).book.clock < ceiling → Ticked t
unfolding served
ticked t A e h =
    let S : rules.Sound (plain t) = sound-plain t A (sound-clauses t e) in
    let T = sound-timely (plain t) S in
    let now : ℕ = (plain t).book.clock + 1 in
    let i : plain (asked t TICK).tables ≡ moved_to now (plain t) = after_is t A e TICK ∙ tick-moved (plain t) T h in
    record {
      done = ap (λ (r : Result). r.number) (asked-sound t TICK e) ∙ ap number_of (tick-plan (plain t) T h);
      clock = ap (λ (x : State lists). x.book.clock) i;
      records = λ p P. ap (λ (x : State lists). at x.book p) i ∙ moved_at now (plain t).book.programs (p - 1)
          ∙ struck-tick (plain t).book.clock (at (plain t).book p) (S.dues.above p P);
      rest = (ap (λ (x : State lists). x.book.holders) i, ap (λ (x : State lists). x.book.resources) i);
    }
