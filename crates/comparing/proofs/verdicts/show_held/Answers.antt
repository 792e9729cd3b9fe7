-- `verdicts::show_held` meets its contract: the page that the tables write is the next, byte for byte, or it is not. Assumes nothing.
use Prim.Native.Nat.{ℕ}
use native.Mathlib.Omega.{arith}
use mathlib.Core.Path.{sym, ap, ◌∙◌}
use mathlib.Core.Bool.{true, false}
use mathlib.Core.List.{List}
use borrow.Author.Rules.{rules}
use lib.ListN.{length}
use Rattle.page.proofs.Lending.{can-page}
use Rattle.showing.specs.Showing.{shown_in}
use Rattle.comparing.specs.Inner.{parts_text}
use Rattle.following.proofs.Judged.{page_alike}
use Rattle.comparing.proofs.VerdictLaws.{read-room, text_same, text-other}
use Rattle.comparing.proofs.verdicts.show_held.Goals as goal

pub put_lines-requires : goal.put_lines-requires
put_lines-requires c =
    let fits =
    can-page c.args.tables (record { programs = search rules; links = search rules; holders = search rules; resources = search rules })
    c.requires.tables_value
    in
    (omega arith, (fits.tracks, (fits.numbers, omega (arith, fits.room, ap length c.new-written.ensures))))

pub returns-then-rest_is : goal.returns-then-rest_is
returns-then-rest_is c =
    let a = c.args in
    let same = page_alike a.tables a.next.now _ _ true (c.as_slice.ensures.value ∙ (rw c.new-written.ensures at c.put_lines.ensures)) c.rest_is.ensures c.if-rest_is.true in
    c.show_follows.ensures
    ∙ sym (ap (λ (x : List ℕ). shown_in x a.out.now) (text_same a.tables a.name.now a.next.now c.requires.next_value same))

pub show_parts-requires-clause-sheet_len_bound : goal.show_parts-requires-clause-sheet_len_bound
show_parts-requires-clause-sheet_len_bound c = read-room c.args.next.now c.requires.next_value

pub returns : goal.returns
returns c =
    let a = c.args in
    let written = c.as_slice-2.ensures.value ∙ (rw c.new-written.ensures at c.put_lines.ensures) in
    let other = page_alike a.tables a.next.now _ _ false (c.as_slice.ensures.value ∙ (rw c.new-written.ensures at c.put_lines.ensures)) c.rest_is.ensures c.if-rest_is.false in
    c.show_parts.ensures
    ∙ ap (λ (x : List ℕ). shown_in (parts_text a.name.now a.next.now x) a.out.now) written
    ∙ sym (ap (λ (x : List ℕ). shown_in x a.out.now) (text-other a.tables a.name.now a.next.now c.requires.next_value other))
