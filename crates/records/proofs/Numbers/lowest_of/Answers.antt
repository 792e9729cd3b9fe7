-- `records::Numbers::lowest_of` meets its contract. Assumes nothing.
use Rattle.std.proofs.Common.{◌≡◌, ◌+◌, ◌∙◌, sym, ap, arith, rules}
use Rattle.std.proofs.lemmas.List.{length-take-le}
use Rattle.std.specs.Option.{option_map}
use Rattle.records.specs.declared.Resource.{Resource}
use Rattle.std.proofs.Common.{eqb}
use Rattle.records.specs.Numbers.{free, resources}
use Rattle.records.proofs.Search.{first-place}
use Rattle.records.proofs.Numbers.lowest_of.Goals as goal

pub returns : goal.returns
returns c =
    let a = c.args in
    let m : c.map.result ≡ option_map (λ k. k + 1) c.place_owned.result = search rules in
    m ∙ ap (option_map (λ k. k + 1)) c.place_owned.ensures.place
    ∙ sym (first-place (λ (x : Resource). eqb x.owner a.p) (resources a.self) free a.self.count (length-take-le a.self.count a.self.resources (omega arith)))
