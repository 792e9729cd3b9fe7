-- `console::keying::print_line` meets its contract: PAGE is printed by itself; any other line leaves the buffer, and the line for its
-- answer goes to the front. Assumes nothing.
use mathlib.Core.Path.{◌≡◌, refl, sym, ap, ◌∙◌}
use mathlib.Core.Bool.{false}
use Rattle.rules.specs.Engine.{beside}
use Rattle.tables.specs.Calls.{told}
use Rattle.console.specs.declared.Said.{Said}
use Rattle.console.specs.declared.Said.TheVariants.{Bad, Page, Asks, Ticks}
use Rattle.console.specs.Line.{PAGE, line_of}
use Rattle.console.specs.Console.{keyed}
use Rattle.console.specs.Inner.{obeys, says, is_page}
use Rattle.console.proofs.KeyLaws.{keyed-obeys, page-unsaid}
use Rattle.console.proofs.OneLine.{shown-short, printed-room, printed-answer}
use Rattle.console.proofs.keying.print_line.Goals.{After-obey-outcome}
use Rattle.console.proofs.keying.print_line.Goals as goal

pub returns-then-out-lt-PAGE_ROOM : goal.returns-then-out-lt-PAGE_ROOM
returns-then-out-lt-PAGE_ROOM c =
    let a = c.args in sym (shown-short a.tables a.line.now a.out.now c.if-out-lt-PAGE_ROOM.true)

pub print_page-requires : goal.print_page-requires
print_page-requires c = c.if-out-lt-PAGE_ROOM.false

pub returns-in-Page : goal.returns-in-Page
returns-in-Page c =
    c.print_page.ensures c.args.line.now
    (sym c.command_of-said.ensures ∙ ap says c.in-Page.is)

unsaid : (x : Said) → (x ≡ Page → ⊥) → is_page x ≡ false
unsaid Bad h = refl
unsaid Page h = absurd (h refl)
unsaid (Asks q) h = refl
unsaid (Ticks n) h = refl

-- what the line comes to, which is not PAGE
same : (c : After-obey-outcome) → beside c.obey-outcome.new.buf (told c.obey-outcome.result) ≡ keyed c.args.tables c.args.line.now c.args.out.now
same c =
    let a = c.args in
    c.obey-outcome.ensures ∙ ap (obeys a.tables a.out.now) c.command_of-said.ensures ∙ sym (keyed-obeys a.tables a.line.now a.out.now)

other : (c : After-obey-outcome) → line_of c.args.line.now ≡ PAGE → ⊥
other c p =
    let x = c.command_of-said.result in
    page-unsaid x (unsaid x c.in_default.not-Page) (c.command_of-said.ensures ∙ p)

pub print_outcome-requires : goal.print_outcome-requires
print_outcome-requires c =
    let a = c.args in
    let o = (goal.at.print_outcome-requires c).After-obey-outcome in
    printed-room a.tables a.line.now a.out.now c.if-out-lt-PAGE_ROOM.false (λ p. absurd (other o p)) c.obey-outcome.result c.obey-outcome.new.buf (same o)
    (λ p. absurd (other o p))

pub returns : goal.returns
returns c =
    let a = c.args in
    let o = (goal.at.returns c).After-obey-outcome in
    printed-answer a.tables a.line.now a.out.now c.if-out-lt-PAGE_ROOM.false (λ p. absurd (other o p)) c.obey-outcome.result c.obey-outcome.new.buf (same o)
    (λ p. absurd (other o p)) c.print_outcome.new.out c.print_outcome.result c.print_outcome.ensures.outcome c.print_outcome.ensures.buffer
