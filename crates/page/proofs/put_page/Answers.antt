-- `put_page` meets its contract: the vector has room for the page of any tables, and what is put is the page.
-- Assumes nothing.
use native.Mathlib.Omega.{arith}
use mathlib.Core.Path.{sym, ap, ◌∙◌}
use lib.ListN.{length}
use Rattle.page.proofs.Writing.{wrote_as}
use Rattle.page.proofs.Widest.{Short, short, widest}
use Rattle.page.proofs.put_page.Goals as goal

pub put_lines-requires : goal.put_lines-requires
put_lines-requires c =
    let t = c.args.tables in
    let names : Short t.ledger.programs = search short in
    let room = widest t names c.requires.tracks c.requires.numbers in
    (omega arith, (c.requires.tracks, (c.requires.numbers, omega (arith, room, ap length c.new-whole.ensures))))

pub put_bytes-requires : goal.put_bytes-requires
put_bytes-requires c =
    omega (arith, c.requires.room, ap length (c.as_slice.ensures.value ∙ (rw c.new-whole.ensures at c.put_lines.ensures)))

pub returns : goal.returns
returns c = wrote_as (sym (c.as_slice.ensures.value ∙ (rw c.new-whole.ensures at c.put_lines.ensures))) c.put_bytes.ensures
