-- `text::behind` meets its contract: it is what `starts_with` tells of the part. Assumes nothing.
use mathlib.Core.Path.{sym, ◌∙◌}
use Rattle.text.proofs.Words.{begins, begins_not}
use Rattle.text.proofs.behind.Goals as goal

pub returns-then-starts_with : goal.returns-then-starts_with
returns-then-starts_with c =
    let a = c.args in
    begins a.w.now a.s.now a.from a.to c.requires.from_le_to c.requires.to_in_bounds
    (sym c.if-starts_with.true ∙ c.starts_with.ensures.value)

pub returns-else-starts_with : goal.returns-else-starts_with
returns-else-starts_with c =
    let a = c.args in
    begins_not a.w.now a.s.now a.from a.to c.requires.from_le_to (sym c.if-starts_with.false ∙ c.starts_with.ensures.value)
