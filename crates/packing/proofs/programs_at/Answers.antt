-- `packing::programs_at` meets its contract: each place holds what the closure says of it (`made`). Assumes nothing.
use Prim.Native.Nat.{◌+◌, ◌*◌}
use borrow.Author.Rules.{rules}
use Rattle.packing.specs.Packed.{program_at, programs_place}
use Rattle.packing.proofs.Fills.{made}
use Rattle.packing.proofs.programs_at.Goals as goal

pub returns : goal.returns
returns c =
    made _ _ (λ i. program_at c.args.s.now (programs_place + 29 * i))
    (λ i r g e. (search (rules, e.met), search (rules, e.met))) _ 32 c.from_fn.ensures.items
