-- `decisions::discs::takes` meets its contract: each return is a path of the rule. Assumes nothing.
use native.Mathlib.Omega.{arith}
use mathlib.Core.Path.{refl}
use Rattle.rules.specs.declared.Answer.TheVariants.{NotAllowed}
use Rattle.rules.specs.Plans.{View}
use Rattle.decisions.specs.Inner.{OfTracks}
use Rattle.decisions.proofs.Laws.{like, stays}
use Rattle.decisions.proofs.Tracked.{Allowed, takes-not, takes-waits, takes-room, takes-done}
use Rattle.decisions.proofs.discs.takes.Goals.{Else-w-gt1}
use Rattle.decisions.proofs.discs.takes.Goals.{then-n-eq0-via-then-n-eq0, then-n-eq0-via-else-n-eq0+then-tracks-n}
use Rattle.decisions.proofs.discs.takes.Goals.{then-n-eq0-via-else-n-eq0+else-tracks-n+then-w-gt1}
use Rattle.decisions.proofs.discs.takes.Goals as goal

passed : (c : Else-w-gt1) (v : View) → OfTracks v c.args.tracks → Allowed v.book.tracks c.args.n c.args.w
passed c v O = record { least = omega arith; most = omega (arith, O.size); waits = omega arith }

pub returns-then-n-eq0 : goal.returns-then-n-eq0
returns-then-n-eq0 c = λ v O. stays v NotAllowed 0 refl (takes-not v _ _ _ _ (λ a.
    elim c.then-n-eq0.branch [
      | then-n-eq0-via-then-n-eq0 w ↦ omega (arith, O.size)
      | then-n-eq0-via-else-n-eq0+then-tracks-n w ↦ omega (arith, O.size)
      | then-n-eq0-via-else-n-eq0+else-tracks-n+then-w-gt1 w ↦ omega (arith, O.size)
    ]))

pub returns-in_default : goal.returns-in_default
returns-in_default c =
    λ v O.
    like v (takes-waits v _ _ _ _ _ O (passed (goal.at.returns-in_default c).Else-w-gt1 v O) _ c.lowest_run.ensures c.in_default.is)
    (c.waits.ensures v)

pub returns : goal.returns
returns c =
    λ v O.
    like v (takes-done v _ _ _ _ _ O (passed (goal.at.returns c).Else-w-gt1 v O) _ c.lowest_run.ensures _ c.in-Some.is)
    (record {
      number = refl;
      values = refl;
      events = refl;
      apt = omega (
        arith,
        takes-room _ _ _ _ c.requires.fit (passed (goal.at.returns c).Else-w-gt1 v O).least c.lowest_run.ensures c.in-Some.is,
        O.size,
      );
    })
