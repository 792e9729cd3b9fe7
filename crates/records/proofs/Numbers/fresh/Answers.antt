-- `records::Numbers::fresh` meets its contract. Assumes nothing.
use mathlib.Core.Path.{ap, ◌∙◌}
use mathlib.Core.List.{List}
use lib.ListN.{replicate}
use Rattle.records.specs.declared.Resource.{Resource}
use Rattle.records.specs.declared.Numbers.{Numbers}
use Rattle.records.proofs.Table.{fresh-list}
use Rattle.records.proofs.Numbers.fresh.Goals.{After-free-free}
use Rattle.records.proofs.Numbers.fresh.Goals as goal

-- a table of so many, of what stands in its places
abbrev table : After-free-free → List Resource → Numbers
table c xs = record { count = c.args.count; resources = xs }

pub returns : goal.returns
returns c =
    ap (λ (x : Resource). table (goal.at.returns c).After-free-free (replicate 16 x)) c.free-free.ensures ∙ ap (table (goal.at.returns c).After-free-free) (fresh-list c.args.count c.requires)
