-- `put_lines` meets its contract: each part has room, and the parts are the page. Assumes nothing.
use native.Mathlib.Omega.{arith}
use mathlib.Core.Path.{ap}
use mathlib.Core.List.{append_assoc}
use lib.ListN.{length, length-append}
use Rattle.tables.specs.Tables.{plain}
use Rattle.page.proofs.Writing.{page_put}
use Rattle.page.proofs.put_lines.Goals as goal

pub put_heading-requires : goal.put_heading-requires
put_heading-requires g c = rw c.count_used.ensures (omega (arith, simp (page_put, length-append) at c.requires.room))

pub put_records-requires : goal.put_records-requires
put_records-requires g c = omega (arith, simp (page_put, length-append) at c.requires.room, simp length-append at (ap length (rw c.count_used.ensures at c.put_heading.ensures)))

pub put_chains-requires : goal.put_chains-requires
put_chains-requires g c = omega (arith, simp (page_put, length-append) at c.requires.room, simp length-append at (ap length (rw c.count_used.ensures at c.put_heading.ensures)), simp length-append at (ap length c.put_records.ensures))

pub put_runs-requires : goal.put_runs-requires
put_runs-requires g c = (omega arith, (c.requires.tracks, omega (arith, simp (page_put, length-append) at c.requires.room, simp length-append at (ap length (rw c.count_used.ensures at c.put_heading.ensures)), simp length-append at (ap length c.put_records.ensures), simp length-append at (ap length c.put_chains.ensures))))

pub put_resources-requires : goal.put_resources-requires
put_resources-requires g c = (omega arith, (c.requires.numbers, omega (arith, simp (page_put, length-append) at c.requires.room, simp length-append at (ap length (rw c.count_used.ensures at c.put_heading.ensures)), simp length-append at (ap length c.put_records.ensures), simp length-append at (ap length c.put_chains.ensures), simp length-append at (ap length c.put_runs.ensures))))

pub put_entry-requires : goal.put_entry-requires
put_entry-requires g c = (omega arith, omega (arith, simp (page_put, length-append) at c.requires.room, simp length-append at (ap length (rw c.count_used.ensures at c.put_heading.ensures)), simp length-append at (ap length c.put_records.ensures), simp length-append at (ap length c.put_chains.ensures), simp length-append at (ap length c.put_runs.ensures), simp length-append at (ap length c.put_resources.ensures)))

pub returns : goal.returns
returns g c =
    rw (page_put (plain c.args.tables.now), c.put_entry.ensures, c.put_resources.ensures, c.put_runs.ensures, c.put_chains.ensures, c.put_records.ensures, c.put_heading.ensures, c.count_used.ensures) (simp append_assoc)
