-- `decisions::deciding::decided` meets its contract: each arm decides its request, and a call of the running
-- program has a caller first. Assumes nothing.
use native.Mathlib.Omega.{arith}
use mathlib.Core.Path.{◌≡◌, refl, sym, ap, ◌∙◌, subst}
use Rattle.rules.specs.declared.Answer.TheVariants.{NoCaller}
use Rattle.rules.specs.declared.Request.{Request}
use Rattle.rules.specs.Plans.{View}
use Rattle.rules.specs.Rules.{plan}
use Rattle.rules.specs.Coded.{the_request}
use Rattle.decisions.specs.declared.Decision.{Decision}
use Rattle.decisions.specs.Inner.{Decides, Fits, asking}
use Rattle.decisions.proofs.Laws.{like, stays, book-in}
use Rattle.decisions.proofs.Requested.{no-caller, by-caller, order-fits, order-asks}
use Rattle.decisions.proofs.deciding.decided.Goals.{Start}
use Rattle.decisions.proofs.deciding.decided.Goals as goal

on : (k : Start) (v : View) {q : Request} {d : Decision} → k.args.q ≡ q
    → Decides v (plan v (the_request q)) d
    → Decides v (plan v (the_request k.args.q)) d
on k v {d = d} e = subst (λ (q : Request). Decides v (plan v (the_request q)) d) (sym e)

pub asks-requires : goal.asks-requires
asks-requires c =
    record {
      fit = c.requires.tracks;
      clock = c.requires.clock;
      fits = subst (Fits 0) (sym c.task_of.ensures) (order-fits c.in-Operator.o);
    }

pub returns-then-c-eq0 : goal.returns-then-c-eq0
returns-then-c-eq0 c =
    λ v O C. on (goal.at.returns-then-c-eq0 c).Start v c.in-Running.is
    (stays v NoCaller 0 refl (no-caller v _ _ C c.if-c-eq0.true))

pub called-requires : goal.called-requires
called-requires c =
    record {
      tracks = c.requires.tracks;
      numbers = c.requires.numbers;
      clock = c.requires.clock;
      known = c.requires.known (omega arith);
    }

pub returns-in-Fresh : goal.returns-in-Fresh
returns-in-Fresh c = λ v O C. on (goal.at.returns-in-Fresh c).Start v c.in-Fresh.is (c.renews.ensures v)

pub returns-in-Load : goal.returns-in-Load
returns-in-Load c = λ v O C. on (goal.at.returns-in-Load c).Start v c.in-Load.is (c.loads.ensures v O)

pub returns-in-Operator : goal.returns-in-Operator
returns-in-Operator c =
    λ v O C.
    on (goal.at.returns-in-Operator c).Start v c.in-Operator.is
    (like v (order-asks v _ c.in-Operator.o ∙ ap (asking v 0 c.in-Operator.name) (sym c.task_of.ensures))
    (c.asks.ensures v O))

pub returns-in-Tick : goal.returns-in-Tick
returns-in-Tick c =
    λ v O C. on (goal.at.returns-in-Tick c).Start v c.in-Tick.is (c.ticks_on.ensures v (book-in v _ O).clock)

pub returns-else-c-eq0 : goal.returns-else-c-eq0
returns-else-c-eq0 c =
    λ v O C. on (goal.at.returns-else-c-eq0 c).Start v c.in-Running.is (like v (by-caller v _ _ C (omega arith)) (c.called.ensures v O))
