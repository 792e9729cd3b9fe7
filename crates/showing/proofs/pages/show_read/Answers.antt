-- `pages::show_read` meets its contract: all that is shown of a page that is taken has room. Assumes nothing.
use native.Mathlib.Omega.{arith}
use mathlib.Core.Path.{ap}
use lib.ListN.{length}
use Rattle.showing.proofs.PageLaws.{page-room}
use Rattle.showing.proofs.pages.show_read.Goals as goal

pub put_page_text-requires : goal.put_page_text-requires
put_page_text-requires c =
    let a = c.args in
    omega (
      arith,
      page-room a.name.now a.page.now a.read (omega (arith, c.if-name-gt-LONGEST_NAME.false)) (omega (arith, c.if-page-gt-LONGEST_PAGE.false)),
      ap length c.new-shown.ensures,
    )
