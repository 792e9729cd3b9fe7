-- `text::put_bytes` meets its contract: what is copied is stored from its place on. Assumes nothing.
use Rattle.std.proofs.Common.{arith, refl}
use Rattle.text.proofs.Laws.{stored}
use Rattle.text.proofs.put_bytes.Goals as goal

pub returns : goal.returns
returns c = record {
  buffer = stored c.args.buf.now c.args.s.now c.args.at _ (omega arith) (omega (arith, c.requires)) c.copy_from_slice.ensures.after;
  place = refl;
}
