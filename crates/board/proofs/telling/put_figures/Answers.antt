-- `board::telling::put_figures` meets its contract: seven numbers of eight bytes each. Assumes nothing.
use Rattle.std.proofs.Common.{◌≡◌, arith, rules, ap, length}
use lib.Seq.{length-take-le}
use Rattle.board.proofs.telling.put_figures.Goals as goal

pub copy_from_slice-requires : goal.copy_from_slice-requires
copy_from_slice-requires c =
    let six : length c.args.values ≡ 6 = search rules in
    omega (arith, six, c.requires, length-take-le 56 c.args.buf.now c.requires, ap length c.as_slice.ensures.value, c.loop-v.invariant.long, c.loop-v-test.false, c.loop-v.auto.v-index-end)
