-- `lines::put_record` meets its contract: each line has room, and they are the record's. Assumes nothing.
use native.Mathlib.Omega.{arith}
use mathlib.Core.Path.{ap}
use lib.ListN.{length, length-append}
use Rattle.page.proofs.Writing.{record_put, eight}
use Rattle.page.proofs.lines.put_record.Goals as goal

pub put_figure-requires-2 : goal.put_figure-requires-2
put_figure-requires-2 g c =
    (omega arith, omega (arith, simp (record_put, length-append) at c.requires, simp length-append at (ap length c.put_figure.ensures), simp length-append at (ap length c.put_name_line.ensures)))

pub put_figure-requires-3 : goal.put_figure-requires-3
put_figure-requires-3 g c =
    (omega arith, omega (arith, simp (record_put, length-append) at c.requires, simp length-append at (ap length c.put_figure.ensures), simp length-append at (ap length c.put_name_line.ensures), simp length-append at (ap length c.put_figure-2.ensures)))

pub put_why_line-requires : goal.put_why_line-requires
put_why_line-requires g c =
    omega (arith, simp (record_put, length-append) at c.requires, simp length-append at (ap length c.put_figure.ensures), simp length-append at (ap length c.put_name_line.ensures), simp length-append at (ap length c.put_figure-2.ensures), simp length-append at (ap length c.put_figure-3.ensures))

pub put_or_dash_line-requires : goal.put_or_dash_line-requires
put_or_dash_line-requires g c =
    rw c.then_some.ensures (omega (arith, simp (record_put, length-append) at c.requires, simp length-append at (ap length c.put_figure.ensures), simp length-append at (ap length c.put_name_line.ensures), simp length-append at (ap length c.put_figure-2.ensures), simp length-append at (ap length c.put_figure-3.ensures), simp length-append at (ap length c.put_why_line.ensures)))

pub put_or_dash_line-requires-2 : goal.put_or_dash_line-requires-2
put_or_dash_line-requires-2 g c =
    rw c.then_some-2.ensures (omega (arith, simp (record_put, length-append) at c.requires, simp length-append at (ap length c.put_figure.ensures), simp length-append at (ap length c.put_name_line.ensures), simp length-append at (ap length c.put_figure-2.ensures), simp length-append at (ap length c.put_figure-3.ensures), simp length-append at (ap length c.put_why_line.ensures), simp length-append at (ap length (rw c.then_some.ensures at c.put_or_dash_line.ensures))))

pub put_mark_line-requires : goal.put_mark_line-requires
put_mark_line-requires g c =
    omega (arith, simp (record_put, length-append) at c.requires, simp length-append at (ap length c.put_figure.ensures), simp length-append at (ap length c.put_name_line.ensures), simp length-append at (ap length c.put_figure-2.ensures), simp length-append at (ap length c.put_figure-3.ensures), simp length-append at (ap length c.put_why_line.ensures), simp length-append at (ap length (rw c.then_some.ensures at c.put_or_dash_line.ensures)), simp length-append at (ap length (rw c.then_some-2.ensures at c.put_or_dash_line-2.ensures)))

pub returns : goal.returns
returns g c =
    rw (record_put c.args.p c.args.program.now, c.put_mark_line.ensures, c.put_or_dash_line-2.ensures, c.then_some-2.ensures, c.put_or_dash_line.ensures, c.then_some.ensures, c.put_why_line.ensures, c.put_figure-3.ensures, c.put_figure-2.ensures, c.put_name_line.ensures, c.put_figure.ensures, eight)
