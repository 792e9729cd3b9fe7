-- `console::parse::with_numbers` meets its contract: the numbers are there or not. Assumes nothing.
use mathlib.Core.Path.{sym, ap, ◌∙◌}
use Rattle.console.specs.Inner.{says, request, says_or_bad}
use Rattle.console.proofs.parse.with_numbers.Goals as goal

pub returns-in_err-numbers : goal.returns-in_err-numbers
returns-in_err-numbers c =
    ap says_or_bad c.from_residual.ensures ∙ sym (c.in_err-numbers.ensures.says (request c.args.last c.args.name))

pub returns : goal.returns
returns c =
    ap says c.said_by.ensures ∙ sym (c.in_ok-numbers.ensures.says (request c.args.last c.args.name))
