-- `ledger::entries::record_fits` meets its contract: an unused record is sound where it holds zeros. Assumes nothing.
use borrow.Author.Tests.{not-true}
use mathlib.Core.Path.{◌∙◌}
use Rattle.ledger.proofs.Turns.{unused-fits}
use Rattle.ledger.proofs.entries.record_fits.Goals as goal

pub returns-then-not-r : goal.returns-then-not-r
returns-then-not-r c =
    let a = c.args in
    c.holds_zeros.ensures ∙ unused-fits a.ticks a.all a.numbers a.p a.r (not-true a.r.used c.if-not-r.true)
