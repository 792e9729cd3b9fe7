-- `console::keying::print_page` meets its contract. Every page fits the 8,704 bytes that are lent, so PAGE done has put the page at their
-- front; PAGE refused leaves them as they were, and the line for its answer goes there. Assumes nothing.
use Prim.Native.Nat.{ℕ, ◌≤◌}
use mathlib.Core.Path.{◌≡◌, sym, ap, ◌∙◌}
use mathlib.Core.Bool.{true}
use mathlib.Core.List.{List}
use lib.ListN.{length}
use borrow.Author.Rules.{rules}
use Rattle.limits.specs.Limits.{page_room}
use Rattle.tables.specs.Tables.{plain, Arrays}
use Rattle.tables.specs.Sound.{sound}
use Rattle.tables.specs.Calls.{told}
use Rattle.tables.proofs.Agree.{sound-clauses}
use Rattle.tables.proofs.Plain.{sound-plain}
use Rattle.page.specs.Page.{page}
use Rattle.rules.specs.Engine.{beside}
use Rattle.page.proofs.Room.{page-room}
use Rattle.console.specs.Line.{PAGE, line_of}
use Rattle.console.specs.Console.{keyed}
use Rattle.console.specs.Inner.{obeys}
use Rattle.console.proofs.KeyLaws.{keyed-obeys, obeys-page}
use Rattle.console.proofs.WordLaws.{page-line}
use Rattle.console.proofs.OneLine.{printed-page, printed-room, printed-answer}
use Rattle.console.proofs.keying.print_page.Goals.{Start, After-write_page-outcome}
use Rattle.console.proofs.keying.print_page.Goals as goal

arrays : (s : Start) → Arrays s.args.tables
arrays s = record {
  programs = search rules;
  links = search rules;
  holders = search rules;
  resources = search rules;
}

-- no page is longer than what is lent
fits : (s : Start) → sound s.args.tables ≡ true → length (page (plain s.args.tables)) ≤ page_room
fits s e = let t = s.args.tables in page-room (plain t) (sound-plain t (arrays s) (sound-clauses t e))

-- what a line that asks for the page comes to
same : (w : After-write_page-outcome) (l : List ℕ) → line_of l ≡ PAGE
    → beside w.write_page-outcome.new.buf (told w.write_page-outcome.result) ≡ keyed w.args.tables l w.args.out.now
same w l p =
    let a = w.args in
    w.write_page-outcome.ensures
    ∙ sym (obeys-page a.tables a.out.now)
    ∙ ap (obeys a.tables a.out.now) (sym p)
    ∙ sym (keyed-obeys a.tables l a.out.now)

pub returns-in-Done : goal.returns-in-Done
returns-in-Done c =
    let a = c.args in
    let o = goal.at.returns-in-Done c in
    λ l p.
    printed-page a.tables l a.out.now c.requires (λ q. fits o.Start) c.write_page-outcome.result c.write_page-outcome.new.buf
    (same o.After-write_page-outcome l p) c.in-Done.field-0 p c.in-Done.is

pub print_outcome-requires : goal.print_outcome-requires
print_outcome-requires c =
    let a = c.args in
    let o = goal.at.print_outcome-requires c in
    printed-room a.tables _ a.out.now c.requires (λ q. fits o.Start) c.write_page-outcome.result c.write_page-outcome.new.buf
    (same o.After-write_page-outcome _ page-line) (λ q. c.in_default.not-Done)

pub returns : goal.returns
returns c =
    let a = c.args in
    let o = goal.at.returns c in
    λ l p.
    printed-answer a.tables l a.out.now c.requires (λ q. fits o.Start) c.write_page-outcome.result c.write_page-outcome.new.buf
    (same o.After-write_page-outcome l p) (λ q. c.in_default.not-Done)
    c.print_outcome.new.out c.print_outcome.result c.print_outcome.ensures.outcome c.print_outcome.ensures.buffer
