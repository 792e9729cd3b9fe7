-- `sections::put_chains` meets its contract. The loop's invariant: what is put and the chains of the states from the one
-- at the index on are all.
-- Assumes nothing.
use mathlib.Core.Path.{◌≡◌}
use mathlib.Core.List.{◌++◌}
use Rattle.lists.specs.Lists.{join}
use Rattle.chains.specs.Links.{read}
use Rattle.page.specs.Page.{bytes, chain_lines}
use Rattle.page.proofs.Spans.{chains_from}
use Rattle.page.proofs.sections.put_chains.Given as goal

abbrev pub invariant-loop-state : goal.invariant-loop-state
invariant-loop-state g l = l.out.items ++ join (chains_from l.links l.state-index) ≡ l.initial.out.items ++ bytes (chain_lines (read l.links))
