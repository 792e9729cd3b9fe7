-- `tables::Tables::awaited` meets its contract. Assumes nothing.
use mathlib.Core.List.{[], ◌∷◌}
use Rattle.records.specs.declared.Why.TheVariants.{Nothing, Son}
use Rattle.rules.specs.Plans.{on, becomes}
use Rattle.tables.proofs.Endings.{played-on}
use Rattle.tables.proofs.Tables.awaited.Goals as goal

pub returns : goal.returns
returns c =
    played-on _ _ _ (on c.args.p (becomes 1 Nothing) ∷ []) (on c.args.c (becomes 3 (Son c.args.p)) ∷ [])
    c.becomes-t.ensures c.becomes.ensures
