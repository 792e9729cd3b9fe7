-- `judging::hold` meets its contract: the page that the tables write is compared, byte for byte, with one that is read. Assumes nothing.
use native.Mathlib.Omega.{arith}
use mathlib.Core.Path.{◌≡◌, sym, ap, ◌∙◌}
use mathlib.Core.Logic.{◌≢◌}
use mathlib.Core.Bool.{true, false}
use borrow.Author.Rules.{rules}
use lib.ListN.{length}
use Rattle.tables.specs.Tables.{plain}
use Rattle.tables.specs.Calls.{Result}
use Rattle.page.specs.Page.{page}
use Rattle.page.proofs.Lending.{can-page}
use Rattle.reader.specs.Reading.{reading}
use Rattle.following.specs.Following.{briefly, refused_at}
use Rattle.following.specs.declared.judging.Verdict.TheVariants as tell
use Rattle.following.proofs.Judged.{not-page, held-not, held-is, compared_same, compared-other, page_alike}
use Rattle.following.proofs.judging.hold.Goals as goal

pub returns-then-number_of-ne0 : goal.returns-then-number_of-ne0
returns-then-number_of-ne0 c =
    let next = c.args.next.now in
    let number : (reading next).number ≡ c.number_of.result = sym (c.number_of.ensures ∙ ap (λ (r : Result). r.number) c.read_page-given.ensures) in
    let n : (reading next).number ≢ 0 = λ e. c.if-number_of-ne0.true (sym number ∙ e) in
    let told = c.read_page-given.ensures ∙ not-page next n in
    ap tell.NoNext (c.bad_line.ensures (refused_at (reading next)) (ap (λ (x : Result). x.number) told)
    (ap (λ (x : Result). x.values) told))
    ∙ sym (ap briefly (held-not c.args.tables next n))

pub put_lines-requires : goal.put_lines-requires
put_lines-requires c =
    let fits =
    can-page c.args.tables (record { programs = search rules; links = search rules; holders = search rules; resources = search rules })
    c.requires
    in
    (omega arith, (fits.tracks, (fits.numbers, omega (arith, fits.room, ap length c.new-written.ensures))))

pub returns-then-rest_is : goal.returns-then-rest_is
returns-then-rest_is c =
    let t = c.args.tables in
    let next = c.args.next.now in
    let number : (reading next).number ≡ c.number_of.result = sym (c.number_of.ensures ∙ ap (λ (r : Result). r.number) c.read_page-given.ensures) in
    let same = page_alike t next _ _ true (c.as_slice.ensures.value ∙ (rw c.new-written.ensures at c.put_lines.ensures)) c.rest_is.ensures c.if-rest_is.true in
    sym (ap briefly (held-is t next (omega (arith, number, c.if-number_of-ne0.false)) ∙ compared_same (page (plain t)) next same))

pub returns : goal.returns
returns c =
    let t = c.args.tables in
    let next = c.args.next.now in
    let number : (reading next).number ≡ c.number_of.result = sym (c.number_of.ensures ∙ ap (λ (r : Result). r.number) c.read_page-given.ensures) in
    let same = page_alike t next _ _ false (c.as_slice.ensures.value ∙ (rw c.new-written.ensures at c.put_lines.ensures)) c.rest_is.ensures c.if-rest_is.false in
    sym (ap briefly (held-is t next (omega (arith, number, c.if-number_of-ne0.false)) ∙ compared-other (page (plain t)) next same))
