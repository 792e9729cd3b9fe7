-- `write_page` meets its contract: the page has room, since the tables are sound, and what is copied is the page.
-- Assumes nothing.
use native.Mathlib.Omega.{arith}
use borrow.Author.Rules.{rules}
use borrow.Author.Tests.{not-true, not-false}
use mathlib.Core.Path.{ap, sym, ◌∙◌}
use lib.ListN.{length}
use Rattle.page.proofs.Lending.{can-page, handed-unsound, handed-short, handed-done}
use Rattle.page.proofs.write_page.Goals as goal

pub returns-then-not-o : goal.returns-then-not-o
returns-then-not-o c = handed-unsound c.args.tables c.args.buf.now (sym c.opened-o.ensures.0 ∙ not-true _ c.if-not-o.true)

pub put_lines-requires : goal.put_lines-requires
put_lines-requires c =
    let fits =
    can-page c.args.tables (record { programs = search rules; links = search rules; holders = search rules; resources = search rules })
    (sym c.opened-o.ensures.0 ∙ not-false _ c.if-not-o.false)
    in
    (omega arith, (fits.tracks, (fits.numbers, omega (arith, fits.room, ap length c.new-page.ensures))))

pub returns-then-buf-n : goal.returns-then-buf-n
returns-then-buf-n c =
    handed-short c.args.tables c.args.buf.now c.len-n.result (sym c.opened-o.ensures.0 ∙ not-false _ c.if-not-o.false)
    (c.len-n.ensures.value ∙ ap length (rw c.new-page.ensures at c.put_lines.ensures))
    c.if-buf-n.true

pub returns : goal.returns
returns c =
    handed-done c.args.tables c.args.buf.now c.len-n.result c.copy_from_slice.new.self
    (sym c.opened-o.ensures.0 ∙ not-false _ c.if-not-o.false)
    (c.len-n.ensures.value ∙ ap length (rw c.new-page.ensures at c.put_lines.ensures))
    c.if-buf-n.false
    (c.copy_from_slice.ensures.after ∙ c.as_slice.ensures.value ∙ (rw c.new-page.ensures at c.put_lines.ensures))
