-- `records::lowest_unused` meets its contract. Assumes nothing.
use Rattle.std.proofs.Common.{◌≡◌, ◌+◌, ◌∙◌, sym, ap, arith, rules}
use Rattle.std.specs.Option.{option_map}
use Rattle.records.proofs.Find.{unused-place}
use Rattle.records.proofs.lowest_unused.Goals as goal

pub returns : goal.returns
returns c =
    let m : c.map.result ≡ option_map (λ k. k + 1) c.place_unused.result = search rules in
    m ∙ ap (option_map (λ k. k + 1)) c.place_unused.ensures.place ∙ sym (unused-place c.args.programs (omega arith))
