-- `text::digits_from` meets its contract: in a turn the value has at most 18 digits. Assumes nothing.
use native.Mathlib.Omega.{arith}
use Prim.Native.Nat.{suc, ◌+◌, ◌-◌, ◌<◌}
use mathlib.Core.Path.{◌≡◌}
use Rattle.text.proofs.Laws.{ten-mono}
use Rattle.text.proofs.Read.{horner-more}
use Rattle.text.proofs.digits_from.Goals.{In-loop-i}
use Rattle.text.proofs.digits_from.Goals as goal

small : (c : In-loop-i) → c.loop-i.value < 1000000000000000000
small c = omega (arith, ten-mono (c.loop-i.i - c.args.from) 18 (omega arith))

pub overflow_mul-value : goal.overflow_mul-value
overflow_mul-value c = omega (arith, small (goal.at.overflow_mul-value c).In-loop-i)

pub overflow_add-value : goal.overflow_add-value
overflow_add-value c = omega (arith, small (goal.at.overflow_add-value c).In-loop-i)

pub loop-i-preserved : goal.loop-i-preserved
loop-i-preserved c =
    let g = c.args in
    let e : c.loop-i.i + 1 - g.from ≡ suc (c.loop-i.i - g.from) = omega arith in
    let d = c.if-not-is_ascii_digit.ensures.cases in (
      omega arith,
      omega arith,
      omega arith,
      rw e (omega (arith, d)),
      horner-more g.s.now g.from c.loop-i.i c.loop-i.value (omega arith) c.loop-i.invariant.4 (omega arith) (omega (arith, d)) (omega (arith, d)),
    )
