-- `records::find_program` meets its contract. Assumes nothing.
use Rattle.std.proofs.Common.{◌≡◌, ◌+◌, ◌∙◌, sym, ap, arith, rules}
use Rattle.std.specs.Option.{option_map}
use Rattle.records.proofs.Find.{find-place}
use Rattle.records.proofs.find_program.Goals as goal

pub returns : goal.returns
returns c =
    let m : c.map.result ≡ option_map (λ k. k + 1) c.place_named.result = search rules in
    m ∙ ap (option_map (λ k. k + 1)) c.place_named.ensures.place ∙ sym (find-place c.args.programs (omega arith) c.args.name)
