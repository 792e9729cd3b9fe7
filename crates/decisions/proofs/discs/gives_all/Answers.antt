-- `decisions::discs::gives_all` meets its contract. Assumes nothing.
use mathlib.Core.Path.{refl, sym, ap, ◌∙◌}
use Rattle.lists.specs.Lists.{count}
use Rattle.decisions.proofs.Laws.{like}
use Rattle.decisions.proofs.Tracked.{gives_all}
use Rattle.decisions.proofs.discs.gives_all.Goals as goal

pub returns : goal.returns
returns c = λ v O. like v (gives_all v _ _ (ap (count c.args.c) O.held ∙ sym c.held_by-n.ensures))
    (record { number = refl; values = refl; events = refl; apt = tt })
