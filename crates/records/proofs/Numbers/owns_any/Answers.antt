-- `records::Numbers::owns_any` meets its contract. Assumes nothing.
use Rattle.std.proofs.Common.{◌∙◌, ap, arith}
use Rattle.std.specs.Prelude.{is_some, Option, ℕ}
use Rattle.records.proofs.Search.{any-first, some-unless}
use Rattle.records.proofs.Table.{owns}
use Rattle.records.proofs.Numbers.owns_any.Goals as goal

pub returns : goal.returns
returns c =
    let a = c.args in
    c.is_some.ensures ∙ ap (λ (o : Option ℕ). is_some o) c.lowest_of.ensures ∙ some-unless _ ∙ any-first (owns a.p a.self) 1 a.self.count (omega arith)
