-- `console::keying::obey` meets its contract: not understood, the page, a request, or so many ticks; only PAGE touches the buffer. Assumes nothing.
use mathlib.Core.Path.{sym, ap, ◌∙◌}
use Rattle.rules.specs.Engine.{beside}
use Rattle.console.specs.declared.Said.{Said}
use Rattle.console.specs.Inner.{obeys, says}
use Rattle.console.proofs.KeyLaws.{obeys-asks, obeys-ticks, obeys-page, obeys-bad}
use Rattle.console.proofs.keying.obey.Goals as goal

pub returns-in-Bad : goal.returns-in-Bad
returns-in-Bad c =
    let a = c.args in
    ap (beside a.buf.now) c.refusal.ensures ∙ sym (obeys-bad a.tables a.buf.now)
    ∙ ap (λ (x : Said). obeys a.tables a.buf.now (says x)) (sym c.in-Bad.is)

pub returns-in-Page : goal.returns-in-Page
returns-in-Page c =
    let a = c.args in
    c.write_page.ensures ∙ sym (obeys-page a.tables a.buf.now)
    ∙ ap (λ (x : Said). obeys a.tables a.buf.now (says x)) (sym c.in-Page.is)

pub returns-in-Asks : goal.returns-in-Asks
returns-in-Asks c =
    let a = c.args in
    ap (beside a.buf.now) c.ask.ensures ∙ sym (obeys-asks a.tables a.buf.now _)
    ∙ ap (λ (x : Said). obeys a.tables a.buf.now (says x)) (sym c.in-Asks.is)

pub returns-in-Ticks : goal.returns-in-Ticks
returns-in-Ticks c =
    let a = c.args in
    ap (beside a.buf.now) c.ticks.ensures ∙ sym (obeys-ticks a.tables a.buf.now _)
    ∙ ap (λ (x : Said). obeys a.tables a.buf.now (says x)) (sym c.in-Ticks.is)
