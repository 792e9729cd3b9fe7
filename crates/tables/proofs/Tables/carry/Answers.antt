-- `tables::Tables::carry` meets its contract: each arm makes its effect. Assumes nothing.
use Prim.Native.Nat.{ℕ}
use mathlib.Core.Path.{◌≡◌, refl, sym, ap, ◌∙◌, subst}
use mathlib.Core.List.{[], ◌∷◌}
use Rattle.rules.specs.Answers.{number, values}
use Rattle.rules.specs.Keeper.{lists, view}
use Rattle.decisions.specs.declared.Effect.{Effect}
use Rattle.decisions.specs.declared.Effect.TheVariants.{Load, Price, Time, Mark, Become, Await, Dismiss, End}
use Rattle.decisions.specs.declared.Effect.TheVariants.{Take, Give, GiveAll, Number, Release, Tick}
use Rattle.decisions.specs.Inner.{Apt, events_for, reply_for}
use Rattle.tables.specs.declared.Tables.{Tables}
use Rattle.tables.specs.Tables.{plain}
use Rattle.tables.specs.Calls.{Result, told}
use Rattle.tables.specs.Inner.{Played, carried, counted}
use Rattle.tables.proofs.Serving.{Happens}
use Rattle.tables.proofs.Carrying.{moved, made_counted, made-anew, dismissal, dismissal-happens}
use Rattle.tables.proofs.Tables.carry.Goals.{Start}
use Rattle.tables.proofs.Tables.carry.Goals as goal

apt : (s : Start) {e : Effect} → s.args.d.effect ≡ e → Apt (view lists (plain s.args.self)) e
apt s q = subst (Apt (view lists (plain s.args.self))) q s.requires.apt

on : (s : Start) {e : Effect} {r : Result} → s.args.d.effect ≡ e → r ≡ carried s.args.self s.args.d.answer e
    → r ≡ carried s.args.self s.args.d.answer s.args.d.effect
on s q R = R ∙ ap (carried s.args.self s.args.d.answer) (sym q)

-- the effect's events are played, and the answer is the one decided; or it is a count
module _ (s : Start) (e : Effect) {u : Tables} (q : s.args.d.effect ≡ e)
    (h : Happens (events_for (view lists (plain s.args.self)) e))
    (S : Played s.args.self (events_for (view lists (plain s.args.self)) e) u) where
  moves : reply_for (view lists (plain s.args.self)) s.args.d.answer e ≡ (number s.args.d.answer, values s.args.d.answer)
      → told (record { answer = s.args.d.answer; tables = u })
      ≡ carried s.args.self s.args.d.answer s.args.d.effect
  moves w = on s q (moved s.args.self s.args.d.answer e u h S w)

  counts : {n m : ℕ} → n ≡ m → reply_for (view lists (plain s.args.self)) s.args.d.answer e ≡ (0, m ∷ [])
      → counted n u ≡ carried s.args.self s.args.d.answer s.args.d.effect
  counts {n} N w =
      on s q (made_counted s.args.self s.args.d.answer e u h S n (w ∙ ap (λ (k : ℕ). (0, k ∷ [])) (sym N)))

pub loaded-tables-requires : goal.loaded-tables-requires
loaded-tables-requires c =
    record { orderly = c.requires.ready.orderly; known = apt (goal.at.loaded-tables-requires c).Start c.in-Load.is }

pub priced-tables-requires : goal.priced-tables-requires
priced-tables-requires c =
    record { orderly = c.requires.ready.orderly; known = apt (goal.at.priced-tables-requires c).Start c.in-Price.is }

pub timed-tables-requires : goal.timed-tables-requires
timed-tables-requires c =
    record { orderly = c.requires.ready.orderly; known = apt (goal.at.timed-tables-requires c).Start c.in-Time.is }

pub marked-tables-requires : goal.marked-tables-requires
marked-tables-requires c =
    record { orderly = c.requires.ready.orderly; known = apt (goal.at.marked-tables-requires c).Start c.in-Mark.is }

pub becomes-tables-requires : goal.becomes-tables-requires
becomes-tables-requires c =
    record {
      orderly = c.requires.ready.orderly;
      known = (apt (goal.at.becomes-tables-requires c).Start c.in-Become.is).0;
      state = (apt (goal.at.becomes-tables-requires c).Start c.in-Become.is).1;
    }

pub awaited-tables-requires : goal.awaited-tables-requires
awaited-tables-requires c =
    record {
      orderly = c.requires.ready.orderly;
      known = (apt (goal.at.awaited-tables-requires c).Start c.in-Await.is).0;
      caller = (apt (goal.at.awaited-tables-requires c).Start c.in-Await.is).1;
    }

pub ended-tables-requires : goal.ended-tables-requires
ended-tables-requires c =
    record {
      orderly = c.requires.ready.orderly;
      known = (apt (goal.at.ended-tables-requires c).Start c.in-Dismiss.is).0;
      held = (apt (goal.at.ended-tables-requires c).Start c.in-Dismiss.is).1;
    }

pub ended_self-requires : goal.ended_self-requires
ended_self-requires c =
    record { orderly = c.requires.ready.orderly; known = apt (goal.at.ended_self-requires c).Start c.in-End.is }

pub taken-tables-requires : goal.taken-tables-requires
taken-tables-requires c =
    record { orderly = c.requires.ready.orderly; within = apt (goal.at.taken-tables-requires c).Start c.in-Take.is }

pub given-tables-requires : goal.given-tables-requires
given-tables-requires c =
    record { orderly = c.requires.ready.orderly; within = apt (goal.at.given-tables-requires c).Start c.in-Give.is }

pub with_number-tables-requires : goal.with_number-tables-requires
with_number-tables-requires c =
    record {
      orderly = c.requires.ready.orderly;
      low = (apt (goal.at.with_number-tables-requires c).Start c.in-Number.is).0;
      high = (apt (goal.at.with_number-tables-requires c).Start c.in-Number.is).1;
    }

pub released-requires : goal.released-requires
released-requires c =
    record {
      orderly = c.requires.ready.orderly;
      low = (apt (goal.at.released-requires c).Start c.in-Release.is).0;
      high = (apt (goal.at.released-requires c).Start c.in-Release.is).1;
    }

pub ticked_on-requires : goal.ticked_on-requires
ticked_on-requires c = record { ready = c.requires.ready; below = apt (goal.at.ticked_on-requires c).Start c.in-Tick.is }

pub returns-in-Stay : goal.returns-in-Stay
returns-in-Stay c = on (goal.at.returns-in-Stay c).Start c.in-Stay.is refl

pub returns-in-Renew : goal.returns-in-Renew
returns-in-Renew c =
    let q = c.in-Renew.is in
    on (goal.at.returns-in-Renew c).Start q (c.fresh.ensures ∙ made-anew c.args.self c.args.d.answer c.in-Renew.t c.in-Renew.s c.in-Renew.r c.in-Renew.y (apt (goal.at.returns-in-Renew c).Start q))

pub returns-in-Load : goal.returns-in-Load
returns-in-Load c =
    moves (goal.at.returns-in-Load c).Start (Load c.in-Load.p c.in-Load.name c.in-Load.n) c.in-Load.is tt c.loaded-tables.ensures refl

pub returns-in-Price : goal.returns-in-Price
returns-in-Price c =
    moves (goal.at.returns-in-Price c).Start (Price c.in-Price.p c.in-Price.n) c.in-Price.is tt c.priced-tables.ensures refl

pub returns-in-Time : goal.returns-in-Time
returns-in-Time c =
    moves (goal.at.returns-in-Time c).Start (Time c.in-Time.p c.in-Time.due c.in-Time.interval) c.in-Time.is tt
    c.timed-tables.ensures refl

pub returns-in-Mark : goal.returns-in-Mark
returns-in-Mark c =
    moves (goal.at.returns-in-Mark c).Start (Mark c.in-Mark.p) c.in-Mark.is tt c.marked-tables.ensures refl

pub returns-in-Become : goal.returns-in-Become
returns-in-Become c =
    moves (goal.at.returns-in-Become c).Start (Become c.in-Become.p c.in-Become.state c.in-Become.why) c.in-Become.is tt
    c.becomes-tables.ensures refl

pub returns-in-Await : goal.returns-in-Await
returns-in-Await c =
    moves (goal.at.returns-in-Await c).Start (Await c.in-Await.p c.in-Await.c) c.in-Await.is tt c.awaited-tables.ensures refl

pub returns-in-Dismiss : goal.returns-in-Dismiss
returns-in-Dismiss c =
    moves (goal.at.returns-in-Dismiss c).Start (Dismiss c.in-Dismiss.p c.in-Dismiss.k c.in-Dismiss.n) c.in-Dismiss.is
    (dismissal-happens c.in-Dismiss.k c.in-Dismiss.p _ _)
    (dismissal c.args.self c.in-Dismiss.p c.in-Dismiss.k c.in-Dismiss.n _ c.ended-tables.ensures) refl

pub returns-in-End : goal.returns-in-End
returns-in-End c =
    c.count_of.ensures
    ∙ counts (goal.at.returns-in-End c).Start (End c.in-End.p) c.in-End.is tt
    c.ended_self.ensures.played c.ended_self.ensures.number refl

pub returns-in-Take : goal.returns-in-Take
returns-in-Take c =
    moves (goal.at.returns-in-Take c).Start (Take c.in-Take.at c.in-Take.n c.in-Take.h) c.in-Take.is tt
    c.taken-tables.ensures refl

pub returns-in-Give : goal.returns-in-Give
returns-in-Give c =
    moves (goal.at.returns-in-Give c).Start (Give c.in-Give.at c.in-Give.n) c.in-Give.is tt c.given-tables.ensures refl

pub returns-in-GiveAll : goal.returns-in-GiveAll
returns-in-GiveAll c =
    moves (goal.at.returns-in-GiveAll c).Start (GiveAll c.in-GiveAll.c c.in-GiveAll.n) c.in-GiveAll.is tt
    c.given_all-tables.ensures refl

pub returns-in-Number : goal.returns-in-Number
returns-in-Number c =
    moves (goal.at.returns-in-Number c).Start (Number c.in-Number.r c.in-Number.owner c.in-Number.lock) c.in-Number.is tt
    c.with_number-tables.ensures refl

pub returns-in-Release : goal.returns-in-Release
returns-in-Release c =
    c.count_of-in-Release.ensures
    ∙ counts (goal.at.returns-in-Release c).Start (Release c.in-Release.r c.in-Release.owner c.in-Release.lock c.in-Release.dealt)
    c.in-Release.is tt c.released.ensures.played c.released.ensures.number refl

pub returns-in-Tick : goal.returns-in-Tick
returns-in-Tick c =
    c.count_of-in-Tick.ensures
    ∙ counts (goal.at.returns-in-Tick c).Start Tick c.in-Tick.is tt c.ticked_on.ensures.played
    c.ticked_on.ensures.number refl
