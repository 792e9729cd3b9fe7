-- `records::Numbers::with_number` meets its contract. Assumes nothing.
use Prim.Native.Nat.{◌-◌}
use mathlib.Core.Path.{ap}
use mathlib.Core.List.{List}
use native.Mathlib.Omega.{arith}
use Rattle.records.specs.declared.Resource.{Resource}
use Rattle.records.proofs.Table.{set-list}
use Rattle.records.proofs.Numbers.with_number.Goals as goal

pub returns : goal.returns
returns c =
    let a = c.args in
    let x : Resource = record { owner = a.owner; lock = a.lock } in
    ap (λ (xs : List Resource). record { count = a.self.count; resources = xs })
    (set-list a.self (a.r - 1) x c.requires.fit (omega arith))
