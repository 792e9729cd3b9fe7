-- `judge` reads tables that are sound and write the bytes. Assumes nothing.
use native.Mathlib.Omega.{arith}
use borrow.Author.Rules.{rules}
use mathlib.Core.Path.{sym, ap, ◌∙◌}
use lib.ListN.{length, drop}
use Rattle.lists.specs.Lists.{alike}
use Rattle.page.proofs.Lending.{can-page}
use Rattle.reader.proofs.JudgeLaws.{unsound, other-bytes, these-bytes}
use Rattle.reader.proofs.judge.Goals as goal

pub returns-then-not-is_sound : goal.returns-then-not-is_sound
returns-then-not-is_sound c = unsound _ _ (sym c.is_sound.ensures ∙ c.if-not-is_sound.true) c.not_read.ensures

pub put_lines-requires : goal.put_lines-requires
put_lines-requires c =
    let fits =
    can-page c.args.tables (record { programs = search rules; links = search rules; holders = search rules; resources = search rules })
    (sym c.is_sound.ensures ∙ c.if-not-is_sound.false)
    in
    (omega arith, (fits.tracks, (fits.numbers, omega (arith, fits.room, ap length c.new-written.ensures))))

pub returns-then-not-rest_is : goal.returns-then-not-rest_is
returns-then-not-rest_is c =
    other-bytes _ _ (sym c.is_sound.ensures ∙ c.if-not-is_sound.false)
    (ap (alike (drop c.args.at c.args.s.now)) (sym (c.as_slice.ensures.value ∙ (rw c.new-written.ensures at c.put_lines.ensures))) ∙ sym c.rest_is.ensures ∙ c.if-not-rest_is.true)
    c.not_read-then-not-rest_is.ensures

pub returns : goal.returns
returns c =
    these-bytes _ _ (sym c.is_sound.ensures ∙ c.if-not-is_sound.false)
    (ap (alike (drop c.args.at c.args.s.now)) (sym (c.as_slice.ensures.value ∙ (rw c.new-written.ensures at c.put_lines.ensures))) ∙ sym c.rest_is.ensures ∙ c.if-not-rest_is.false)
