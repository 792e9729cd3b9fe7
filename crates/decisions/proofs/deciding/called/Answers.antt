-- `decisions::deciding::called` meets its contract: each arm decides its call. Assumes nothing.
use native.Mathlib.Omega.{arith}
use mathlib.Core.Path.{◌≡◌, refl, sym, ap, ap₂, ◌∙◌, subst}
use Rattle.clock.specs.Clock.{time_of}
use Rattle.rules.specs.declared.Answer.TheVariants.{Told}
use Rattle.rules.specs.declared.Call.{Call}
use Rattle.rules.specs.Book.{Book}
use Rattle.rules.specs.Plans.{View, need}
use Rattle.rules.specs.Rules.{call}
use Rattle.rules.specs.Coded.{the_call}
use Rattle.decisions.specs.declared.Decision.{Decision}
use Rattle.decisions.specs.Inner.{Decides, wanted, of_number, going, awaiting, winding, asking}
use Rattle.decisions.proofs.Laws.{rests, tracks-in, numbers-in, book-in}
use Rattle.decisions.proofs.deciding.called.Goals.{Start}
use Rattle.decisions.proofs.deciding.called.Goals as goal

on : (k : Start) (v : View) {q : Call} {d : Decision} → k.args.q ≡ q
    → Decides v (call v k.args.c (the_call q)) d
    → Decides v (call v k.args.c (the_call k.args.q)) d
on k v {d = d} e = subst (λ (q : Call). Decides v (call v k.args.c (the_call q)) d) (sym e)

pub returns-in-Exec4 : goal.returns-in-Exec4
unfolding call
returns-in-Exec4 c =
    λ v O. on (goal.at.returns-in-Exec4 c).Start v c.in-Exec4.is (c.takes.ensures v (tracks-in v _ O))

pub returns-in-Exec15 : goal.returns-in-Exec15
unfolding call
returns-in-Exec15 c =
    λ v O. on (goal.at.returns-in-Exec15 c).Start v c.in-Exec15.is (c.takes-in-Exec15.ensures v (tracks-in v _ O))

pub returns-in-Exec5 : goal.returns-in-Exec5
unfolding call
returns-in-Exec5 c =
    λ v O. on (goal.at.returns-in-Exec5 c).Start v c.in-Exec5.is (c.gives.ensures v (tracks-in v _ O))

pub returns-in-Exec16 : goal.returns-in-Exec16
unfolding call
returns-in-Exec16 c =
    λ v O. on (goal.at.returns-in-Exec16 c).Start v c.in-Exec16.is (c.gives-in-Exec16.ensures v (tracks-in v _ O))

pub returns-in-Exec5All : goal.returns-in-Exec5All
unfolding call
returns-in-Exec5All c =
    λ v O. on (goal.at.returns-in-Exec5All c).Start v c.in-Exec5All.is (c.gives_all.ensures v (tracks-in v _ O))

pub returns-in-Exec6 : goal.returns-in-Exec6
unfolding call
returns-in-Exec6 c =
    λ v O. on (goal.at.returns-in-Exec6 c).Start v c.in-Exec6.is (record { number = refl; values = refl; events = refl; apt = c.requires.known })

pub returns-in-Exec7 : goal.returns-in-Exec7
unfolding call
returns-in-Exec7 c =
    λ v O. on (goal.at.returns-in-Exec7 c).Start v c.in-Exec7.is
    (record { number = refl; values = refl; events = refl; apt = (c.requires.known, omega arith) })

pub returns-in-Exec11 : goal.returns-in-Exec11
unfolding call
returns-in-Exec11 c =
    λ v O. on (goal.at.returns-in-Exec11 c).Start v c.in-Exec11.is (rests v (Told c.time.result) _ c.stay.ensures refl
    (c.time.ensures ∙ ap₂ time_of (sym (ap (λ (b : Book). b.year) O)) (sym (book-in v _ O).clock)) refl)

pub returns-in-Exec9 : goal.returns-in-Exec9
unfolding call need asking going awaiting winding
returns-in-Exec9 c = λ v O. on (goal.at.returns-in-Exec9 c).Start v c.in-Exec9.is (c.asks.ensures v O)

pub returns-in-Exec10 : goal.returns-in-Exec10
unfolding call need asking going awaiting winding
returns-in-Exec10 c = λ v O. on (goal.at.returns-in-Exec10 c).Start v c.in-Exec10.is (c.asks-in-Exec10.ensures v O)

pub returns-in-Exec12 : goal.returns-in-Exec12
unfolding call need asking going awaiting winding
returns-in-Exec12 c = λ v O. on (goal.at.returns-in-Exec12 c).Start v c.in-Exec12.is (c.asks-in-Exec12.ensures v O)

pub returns-in-Alloc : goal.returns-in-Alloc
unfolding call
returns-in-Alloc c =
    λ v O. on (goal.at.returns-in-Alloc c).Start v c.in-Alloc.is (c.allocates.ensures v (numbers-in v _ O))

pub returns-in-Lock : goal.returns-in-Lock
unfolding call need of_number wanted
returns-in-Lock c =
    λ v O. on (goal.at.returns-in-Lock c).Start v c.in-Lock.is (c.of_number.ensures v (numbers-in v _ O))

pub returns-in-Clear : goal.returns-in-Clear
unfolding call need of_number wanted
returns-in-Clear c =
    λ v O. on (goal.at.returns-in-Clear c).Start v c.in-Clear.is (c.of_number-in-Clear.ensures v (numbers-in v _ O))

pub returns-in-Free : goal.returns-in-Free
unfolding call need of_number wanted
returns-in-Free c =
    λ v O. on (goal.at.returns-in-Free c).Start v c.in-Free.is (c.of_number-in-Free.ensures v (numbers-in v _ O))
