-- `records::Numbers::number` meets its contract. Assumes nothing.
use Prim.Native.Nat.{◌-◌}
use mathlib.Core.Path.{refl}
use native.Mathlib.Omega.{arith}
use Rattle.records.proofs.Table.{number-at}
use Rattle.records.proofs.Numbers.number.Goals as goal

pub returns : goal.returns
returns c =
    let a = c.args in
    number-at a.self a.r (a.r - 1) refl (omega arith)
