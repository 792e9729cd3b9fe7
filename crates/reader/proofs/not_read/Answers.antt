-- `not_read` hands back the smallest tables.
-- Assumes nothing.
use mathlib.Core.Path.{ap}
use mathlib.Core.List.{[], ◌∷◌}
use Rattle.tables.specs.Calls.{Result}
use Rattle.rules.specs.Engine.{made_by}
use Rattle.reader.proofs.not_read.Goals as goal

pub returns : goal.returns
unfolding made_by
returns c =
    ap (λ (r : Result). record { number = 15; values = c.args.line ∷ []; tables = r.tables }) c.fresh.ensures
