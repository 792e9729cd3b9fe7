-- `console::answers::bytes_printed` meets its contract: the answer is done, or it is at another place among the answers. Assumes nothing.
use mathlib.Core.Path.{sym, ap}
use Rattle.rules.specs.declared.Answer.{Answer}
use Rattle.rules.specs.Answers.{number, values}
use Rattle.console.specs.Sheet.{printed_bytes}
use Rattle.console.proofs.AnswerLaws.{bytes-none}
use Rattle.console.proofs.answers.bytes_printed.Goals as goal

pub returns-in-Done : goal.returns-in-Done
returns-in-Done c = ap (λ (a : Answer). printed_bytes (number a) (values a)) (sym c.in-Done.is)

pub returns-in_default : goal.returns-in_default
returns-in_default c = bytes-none c.args.answer c.in_default.not-Done
