-- `records::Numbers::without` meets its contract. The invariant: the first of the places are changed. Assumes nothing.
use Rattle.std.proofs.Common.{◌∙◌, ap, arith, List, refl}
use Rattle.records.specs.declared.Resource.{Resource}
use Rattle.records.specs.Numbers.{without}
use Rattle.records.proofs.Table.{changed-next, changed-whole}
use Rattle.records.proofs.Numbers.without.Goals as goal

pub loop-x-init : goal.loop-x-init
loop-x-init c = refl

pub loop-x-preserved : goal.loop-x-preserved
loop-x-preserved c = changed-next (without c.args.p) _ c.args.self.resources _ _ c.loop-x.invariant c.without.ensures

pub returns : goal.returns
returns c =
    ap (λ (xs : List Resource). record { count = c.args.self.count; resources = xs })
    (c.loop-x.invariant ∙ changed-whole c.args.self c.args.p _ c.requires (omega arith))
