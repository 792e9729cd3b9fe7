-- `decisions::discs::gives` meets its contract: each return is a path of the rule. Assumes nothing.
use native.Mathlib.Omega.{arith}
use mathlib.Core.Path.{refl}
use Rattle.rules.specs.declared.Answer.TheVariants.{NotAllowed, NotHolder}
use Rattle.rules.specs.Plans.{View}
use Rattle.decisions.specs.Inner.{OfTracks}
use Rattle.decisions.proofs.Laws.{like, stays}
use Rattle.decisions.proofs.Tracked.{There, gives-not, gives-stray, gives-done}
use Rattle.decisions.proofs.discs.gives.Goals.{Else-all-n-2}
use Rattle.decisions.proofs.discs.gives.Goals.{then-n-eq0-via-then-n-eq0, then-n-eq0-via-else-n-eq0+then-all-n}
use Rattle.decisions.proofs.discs.gives.Goals.{then-n-eq0-via-else-n-eq0+else-all-n+then-all-n-2}
use Rattle.decisions.proofs.discs.gives.Goals as goal

passed : (c : Else-all-n-2) (v : View) → OfTracks v c.args.tracks → There v.book.tracks c.args.n c.args.start
passed c v O = record { least = omega arith; within = omega (arith, O.size) }

pub returns-then-n-eq0 : goal.returns-then-n-eq0
returns-then-n-eq0 c = λ v O. stays v NotAllowed 0 refl (gives-not v _ _ _ (λ a.
    elim c.then-n-eq0.branch [
      | then-n-eq0-via-then-n-eq0 w ↦ omega (arith, O.size)
      | then-n-eq0-via-else-n-eq0+then-all-n w ↦ omega (arith, O.size)
      | then-n-eq0-via-else-n-eq0+else-all-n+then-all-n-2 w ↦ omega (arith, O.size)
    ]))

pub returns-then-not-run_at : goal.returns-then-not-run_at
returns-then-not-run_at c =
    λ v O.
    stays v NotHolder 0 refl
    (gives-stray v _ _ _ _ O (passed (goal.at.returns-then-not-run_at c).Else-all-n-2 v O) _ c.run_at.ensures c.if-not-run_at.true)

pub returns : goal.returns
returns c =
    λ v O.
    like v (gives-done v _ _ _ _ O (passed (goal.at.returns c).Else-all-n-2 v O) _ c.run_at.ensures c.if-not-run_at.false)
    (record { number = refl; values = refl; events = refl; apt = (passed (goal.at.returns c).Else-all-n-2 v O).within })
