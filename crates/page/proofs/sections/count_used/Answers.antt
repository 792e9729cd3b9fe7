-- `sections::count_used` meets its contract: the chain counts the used records. Assumes nothing.
use Rattle.std.proofs.Common.{rules}
use Rattle.std.proofs.iter.runs.Made.{chains}
use mathlib.Core.Path.{◌≡◌, ◌∙◌}
use Rattle.std.specs.Prelude.{count_by}
use Rattle.records.specs.declared.Program.{Program}
use Rattle.page.proofs.Spans.{used-counted}
use Rattle.page.proofs.sections.count_used.Goals as goal

pub returns : goal.returns
returns c =
    let e : c.count.result ≡ count_by (λ (r : Program). r.used) c.args.programs.now = search (rules, chains) in
    e ∙ used-counted c.args.programs.now c.told-programs
