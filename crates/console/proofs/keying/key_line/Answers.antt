-- `console::keying::key_line` meets its contract: the line is obeyed as what it says. Assumes nothing.
use mathlib.Core.Path.{sym, ap, ◌∙◌}
use Rattle.console.specs.Inner.{obeys}
use Rattle.console.proofs.KeyLaws.{keyed-obeys}
use Rattle.console.proofs.keying.key_line.Goals as goal

pub returns : goal.returns
returns c =
    let a = c.args in
    c.obey.ensures
    ∙ ap (obeys a.tables a.buf.now) c.command_of.ensures
    ∙ sym (keyed-obeys a.tables a.line.now a.buf.now)
