-- `decisions::naming::performs` meets its contract: each arm does what its task says. Assumes nothing.
use mathlib.Core.Path.{◌≡◌, sym, ap, ◌∙◌, subst}
use mathlib.Core.Bool.{true}
use Rattle.records.specs.declared.Program.{Program}
use Rattle.rules.specs.Plans.{View}
use Rattle.decisions.specs.declared.Decision.{Decision}
use Rattle.decisions.specs.declared.naming.Task.{Task}
use Rattle.decisions.specs.Inner.{Decides, Fits, permitted, performed}
use Rattle.decisions.proofs.naming.performs.Goals.{Start}
use Rattle.decisions.proofs.naming.performs.Goals as goal

permits : (s : Start) {q : Task} → s.args.task ≡ q → permitted q ≡ true
permits s e = sym (ap permitted e) ∙ s.requires.allowed

on : (s : Start) (v : View) {q : Task} {d : Decision} → s.args.task ≡ q
    → Decides v (performed v s.args.c q s.args.p) d
    → Decides v (performed v s.args.c s.args.task s.args.p) d
on s v {d = d} e = subst (λ (x : Task). Decides v (performed v s.args.c x s.args.p) d) (sym e)

pub shifts-requires : goal.shifts-requires
shifts-requires c =
    record { known = c.requires.known; state = subst (Fits c.args.c) c.in-Shift.is c.requires.can.fits }

pub prices-requires : goal.prices-requires
prices-requires c =
    record { known = c.requires.known; allowed = permits (goal.at.prices-requires c).Start c.in-Price.is }

pub awaits-requires : goal.awaits-requires
awaits-requires c =
    record { caller = subst (Fits c.args.c) c.in-Await.is c.requires.can.fits; known = c.requires.known }

pub times-requires : goal.times-requires
times-requires c =
    record { clock = c.requires.can.clock; known = c.requires.known; allowed = permits (goal.at.times-requires c).Start c.in-Time.is }

pub returns-in-Shift : goal.returns-in-Shift
returns-in-Shift c =
    λ v O. on (goal.at.returns-in-Shift c).Start v c.in-Shift.is (c.shifts.ensures v (ap (λ (r : Program). r.state) O.row))

pub returns-in-Suspend : goal.returns-in-Suspend
returns-in-Suspend c =
    λ v O. on (goal.at.returns-in-Suspend c).Start v c.in-Suspend.is
    (c.suspends.ensures v (ap (λ (r : Program). r.state) O.row) (ap (λ (r : Program). r.suspend) O.row))

pub returns-in-Price : goal.returns-in-Price
returns-in-Price c =
    λ v O. on (goal.at.returns-in-Price c).Start v c.in-Price.is (c.prices.ensures v (ap (λ (r : Program). r.priority) O.row))

pub returns-in-Dismiss : goal.returns-in-Dismiss
returns-in-Dismiss c =
    λ v O. on (goal.at.returns-in-Dismiss c).Start v c.in-Dismiss.is (c.dismisses.ensures v O.tracks)

pub returns-in-Await : goal.returns-in-Await
returns-in-Await c =
    λ v O. on (goal.at.returns-in-Await c).Start v c.in-Await.is (c.awaits.ensures v (ap (λ (r : Program). r.state) O.row))

pub returns-in-Send : goal.returns-in-Send
returns-in-Send c =
    λ v O. on (goal.at.returns-in-Send c).Start v c.in-Send.is (c.shifts-in-Send.ensures v (ap (λ (r : Program). r.state) O.row))

pub returns-in-Time : goal.returns-in-Time
returns-in-Time c =
    λ v O. on (goal.at.returns-in-Time c).Start v c.in-Time.is (c.times.ensures v O.clock)
