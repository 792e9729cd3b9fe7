-- `console::parse::end_of` meets its contract: a name or none, and numbers behind it. Assumes nothing.
use mathlib.Core.Path.{sym, ap, ◌∙◌}
use borrow.Author.Tests.{not-true, not-false}
use Rattle.console.specs.Inner.{fields_from, counted, request, says_or_bad}
use Rattle.console.proofs.WordLaws.{ended-as}
use Rattle.console.proofs.parse.end_of.Goals as goal

pub returns-then-not-word : goal.returns-then-not-word
returns-then-not-word c =
    let a = c.args in
    c.with_numbers.ensures
    ∙ sym (ended-as a.last c.word_of-word.ensures (not-true c.word_of-word.result.named c.if-not-word.true) (fields_from a.s.now a.at))

pub returns-in_err-name : goal.returns-in_err-name
returns-in_err-name c =
    let a = c.args in
    let w = c.word_of-word.result in
    ap says_or_bad c.from_residual.ensures
    ∙ sym (ended-as a.last c.word_of-word.ensures (not-false w.named c.if-not-word.false) (fields_from a.s.now a.at)
    ∙ c.in_err-name.ensures.says (λ nm. counted w.numbers w.spare (request a.last nm)))

pub returns : goal.returns
returns c =
    let a = c.args in
    let w = c.word_of-word.result in
    c.with_numbers-2.ensures
    ∙ sym (ended-as a.last c.word_of-word.ensures (not-false w.named c.if-not-word.false) (fields_from a.s.now a.at)
    ∙ c.in_ok-name.ensures.says (λ nm. counted w.numbers w.spare (request a.last nm)))
