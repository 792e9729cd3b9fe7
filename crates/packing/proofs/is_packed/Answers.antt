-- `packing::is_packed` meets its contract: the bytes are held against the packed form of the tables that
-- they say (`packed-is`). Assumes nothing.
use mathlib.Core.Path.{◌∙◌, ap}
use lib.ListN.{length}
use borrow.Author.Tests.{ne_eqb}
use Rattle.packing.specs.Packed.{packed}
use Rattle.packing.proofs.OneForm.{packed-other, packed-is}
use Rattle.packing.proofs.is_packed.Goals as goal

pub returns-then-s-eq-PACKED_LENGTH : goal.returns-then-s-eq-PACKED_LENGTH
returns-then-s-eq-PACKED_LENGTH c =
    packed-is c.args.s.now _ _ c.if-s-eq-PACKED_LENGTH.true
    (c.as_slice.ensures.value ∙ c.pack.ensures.items ∙ ap packed c.tables_at.ensures) c.eq.ensures

pub returns-else-s-eq-PACKED_LENGTH : goal.returns-else-s-eq-PACKED_LENGTH
returns-else-s-eq-PACKED_LENGTH c =
    let n = c.if-s-eq-PACKED_LENGTH.false in
    ne_eqb (length c.args.s.now) 1271 n ∙ packed-other c.args.s.now n
