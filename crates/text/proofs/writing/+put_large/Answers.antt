-- `writing::put_large` calls itself with room for the digits in front of the last six. Assumes nothing.
use native.Mathlib.Omega.{arith}
use Rattle.text.proofs.Laws.{millions-length}
use Rattle.text.proofs.writing.+put_large.Goals as goal

pub put_large-requires : goal.put_large-requires
put_large-requires t c = (omega arith, omega (arith, millions-length c.args.n (omega arith) (omega (arith, c.ranges.n))))
