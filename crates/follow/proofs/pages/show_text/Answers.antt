-- Whether it is a page, and its tables, are what the reading came to.
use Rattle.std.proofs.Common.{eq-eqb, sym, ap, ◌∙◌}
use borrow.Author.Tests.{ne_eqb}
use Rattle.tables.specs.Calls.{Result}
use Rattle.follow.proofs.Shown.{page-read}
use Rattle.follow.proofs.pages.show_text.Goals as goal

pub returns-then-number_of-ne0 : goal.returns-then-number_of-ne0
returns-then-number_of-ne0 c =
    let n = c.number_of.ensures ∙ ap (λ (x : Result). x.number) (page-read _ _ _ _ c.show_page-sheet.ensures) in
    record { taken = sym (ne_eqb _ 0 (λ e. c.if-number_of-ne0.true (n ∙ e))); tables = tt }

pub returns : goal.returns
returns c =
    let e = page-read _ _ _ _ c.show_page-sheet.ensures in
    record {
      taken = sym (eq-eqb _ 0 (sym (c.number_of.ensures ∙ ap (λ (x : Result). x.number) e) ∙ c.if-number_of-ne0.false));
      tables = ap (λ (x : Result). x.tables) e;
    }
