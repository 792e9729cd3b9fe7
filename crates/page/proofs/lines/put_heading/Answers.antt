-- `lines::put_heading` meets its contract. Assumes nothing.
use native.Mathlib.Omega.{arith}
use mathlib.Core.Path.{ap}
use mathlib.Core.List.{append_assoc}
use lib.ListN.{length, length-append}
use Rattle.page.proofs.Writing.{head_put}
use Rattle.page.proofs.lines.put_heading.Goals as goal

pub put_figure-requires-5 : goal.put_figure-requires-5
put_figure-requires-5 g c =
    let whole = simp (head_put, length-append) at c.requires in (
      omega arith,
      omega (
        arith,
        whole,
        simp length-append at (ap length c.put_entry.ensures),
        simp length-append at (ap length c.put_figure.ensures),
        simp length-append at (ap length c.put_year_line.ensures),
        simp length-append at (ap length c.put_figure-2.ensures),
        simp length-append at (ap length c.put_figure-3.ensures),
        simp length-append at (ap length c.put_figure-4.ensures),
      ),
    )

pub returns : goal.returns
returns g c =
    rw (head_put c.args.clock c.args.tracks c.args.system c.args.numbers c.args.year c.args.programs)
    (simp (c.put_figure-5.ensures, c.put_figure-4.ensures, c.put_figure-3.ensures, c.put_figure-2.ensures, c.put_year_line.ensures, c.put_figure.ensures, c.put_entry.ensures, append_assoc))
