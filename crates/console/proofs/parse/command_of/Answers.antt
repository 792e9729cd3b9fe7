-- `console::parse::command_of` meets its contract: where nothing is read the line is bad. Assumes nothing.
use mathlib.Core.Path.{◌≡◌, refl, ap, ◌∙◌}
use Rattle.std.specs.Prelude.{Option, Some, None, unwrap_or}
use Rattle.console.specs.declared.Said.{Said}
use Rattle.console.specs.declared.Said.TheVariants.{Bad}
use Rattle.console.specs.Inner.{says, says_or_bad}
use Rattle.console.proofs.parse.command_of.Goals as goal

read : (o : Option Said) → says (unwrap_or o Bad) ≡ says_or_bad o
read None = refl
read (Some x) = refl

pub returns : goal.returns
returns c = ap says c.unwrap_or.ensures ∙ read c.read_line.result ∙ c.read_line.ensures
