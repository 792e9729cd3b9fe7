-- `pages::show_page` meets its contract: what was read is told, and what is shown of it is put. Assumes nothing.
use Rattle.showing.proofs.PageLaws.{page-shown}
use Rattle.showing.proofs.pages.show_page.Goals as goal

pub returns : goal.returns
returns c =
    let a = c.args in
    page-shown a.name.now a.page.now a.out.now c.read_page-read.result c.read_page-read.ensures c.show_read-shown.ensures
