-- `packing::resources_at` meets its contract: each place holds what the closure says of it (`made`). Assumes nothing.
use Prim.Native.Nat.{◌+◌, ◌*◌}
use borrow.Author.Rules.{rules}
use Rattle.packing.specs.Packed.{resource_at, resources_place}
use Rattle.packing.proofs.Fills.{made}
use Rattle.packing.proofs.resources_at.Goals as goal

pub returns : goal.returns
returns c =
    made _ _ (λ i. resource_at c.args.s.now (resources_place + 2 * i))
    (λ i x g e. (search (rules, e.met), search (rules, e.met))) _ 16 c.from_fn.ensures.items
