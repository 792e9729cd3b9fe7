-- `decisions::numbering::allocates` meets its contract. Assumes nothing.
use native.Mathlib.Omega.{arith}
use mathlib.Core.Path.{refl}
use Rattle.records.proofs.Search.{unless-none, unless-some}
use Rattle.rules.specs.declared.Answer.TheVariants.{NotAllowed}
use Rattle.decisions.proofs.Laws.{like, stays}
use Rattle.decisions.proofs.Numbered.{alloc-not, alloc-waits, alloc-done, lowest-within}
use Rattle.decisions.proofs.numbering.allocates.Goals as goal

pub returns-then-w-gt1 : goal.returns-then-w-gt1
returns-then-w-gt1 c = λ v O. stays v NotAllowed 0 refl (alloc-not v _ _ _ c.if-w-gt1.true)

pub returns-in_default : goal.returns-in_default
returns-in_default c =
    λ v O. like v (alloc-waits v _ _ _ c.if-w-gt1.false _ O _ refl (unless-none _ c.in_default.ensures)) (c.waits.ensures v)

pub returns : goal.returns
returns c =
    let k = unless-some _ _ c.in-Some.ensures in
    λ v O.
    like v (alloc-done v _ _ _ c.if-w-gt1.false _ O _ k.0 k.1 _ c.owner_of.ensures)
    (record {
      number = refl;
      values = refl;
      events = refl;
      apt = (
        omega (arith, (lowest-within c.args.numbers _ k.0 k.1).0),
        omega (arith, (lowest-within c.args.numbers _ k.0 k.1).1, O.size),
      );
    })
