-- `records::is_legal` meets its contract. Assumes nothing.
use Rattle.std.proofs.Common.{◌∙◌, sym, ap, arith, take, drop, length-drop}
use lib.Seq.{take_all}
use Rattle.records.specs.Names.{rest}
use Rattle.records.proofs.Names.{legal-rest, rest-all}
use Rattle.records.proofs.is_legal.Goals as goal

pub returns-then-is_letter : goal.returns-then-is_letter
returns-then-is_letter c =
    let own = c.args.name in
    c.is_rest.ensures
    ∙ sym (legal-rest own (omega arith) (sym c.is_letter.ensures ∙ c.if-is_letter.true)
    ∙ ap rest (sym (take_all 4 (drop 1 own) (omega (arith, length-drop 1 own))))
    ∙ rest-all (take 4 (drop 1 own)))
