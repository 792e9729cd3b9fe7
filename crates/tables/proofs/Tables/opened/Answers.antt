-- `tables::Tables::opened` meets its contract: the test of soundness is the book's and the chains' in another order.
-- Assumes nothing.
use mathlib.Core.Path.{refl}
use Rattle.tables.proofs.Parted.{book-fails, book-passes}
use Rattle.tables.proofs.Tables.opened.Goals as goal

pub returns-in_default : goal.returns-in_default
returns-in_default c = (book-fails c.args.self c.in_default.ensures, refl)

pub returns : goal.returns
returns c =
    let r = c.in-Some.ensures in
    (book-passes c.args.self r.sound c.chains_sound-sound.result (c.chains_sound-sound.ensures _ r.columns), refl)
