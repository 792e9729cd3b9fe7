-- `decisions::naming::dismisses` meets its contract. Assumes nothing.
use mathlib.Core.Path.{refl, sym, ap, ◌∙◌}
use Rattle.lists.specs.Lists.{count}
use Rattle.decisions.proofs.Laws.{like}
use Rattle.decisions.proofs.Asked.{dismissing}
use Rattle.decisions.proofs.naming.dismisses.Goals as goal

pub returns : goal.returns
returns c =
    λ v O.
    let n = ap (count c.args.p) O.held ∙ sym c.held_by-n.ensures in
    like v (dismissing v _ _ _ n) (record { number = refl; values = refl; events = refl; apt = (c.requires.known, sym n) })
