-- `ledger::without` meets its contract: to take p out is to keep the others. Assumes nothing.
use Rattle.std.proofs.Common.{rules, not, eqb, take}
use Rattle.ledger.proofs.Sifting.{remove-keep}
use Rattle.ledger.proofs.freeing.without.Goals as goal

pub returns : goal.returns
returns c =
    let a = c.args in
    rw (remove-keep a.p (take a.list.len a.list.ids) (c.requires.once a.p)) (c.keep.ensures (λ q. not (eqb q a.p)) (λ q k b e. search rules))
