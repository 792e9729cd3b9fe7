-- `verdicts::show_verdict` meets its contract: the tests come one after another, and what is shown hands on the tables of the page given.
-- Assumes nothing.
use native.Mathlib.Omega.{arith}
use mathlib.Core.Path.{◌≡◌, sym, ap, ◌∙◌}
use mathlib.Core.Bool.{Bool, true, false, cond}
use Prim.Native.Nat.{ℕ}
use lib.Dec.{eqb}
use borrow.Author.Rules.{rules}
use borrow.Author.Tests.{not-true, not-false, eq-eqb, ne_eqb}
use Rattle.rules.specs.Answers.{number, values}
use Rattle.tables.specs.Calls.{Result, told}
use Rattle.tables.specs.Sound.{sound}
use Rattle.page.specs.Paging.{Written}
use Rattle.transcripts.specs.Listing.{answered}
use Rattle.reader.specs.Reading.{reading}
use Rattle.following.specs.Following.{held_against}
use Rattle.showing.specs.Showing.{is_taken, shown_in, with_tables}
use Rattle.comparing.specs.Verdicts.{verdict_text, verdict_shown}
use Rattle.comparing.proofs.VerdictLaws.{taken, long-name, long-text, shown-unsound, shown-long, shown-not, shown_read}
use Rattle.comparing.proofs.verdicts.show_verdict.Statement.{statement}
use Rattle.comparing.proofs.verdicts.show_verdict.Tie as tie

approved : (c : tie.Else-not-o) → sound c.args.tables ≡ true
approved c = sym c.opened-o.ensures.0 ∙ not-false _ c.if-not-o.false

passed : (c : tie.After-number_of) → sound c.args.tables ≡ true
passed c = approved c.before.before.before.before.before

fitting : (c : tie.After-number_of) → is_taken c.args.name.now c.args.next.now ≡ true
fitting c =
    taken c.args.name.now c.args.next.now (omega (arith, c.if-name-gt-LONGEST_NAME.false)) (omega (arith, c.if-next-gt-LONGEST_PAGE.false))

told_is : (c : tie.After-number_of) → told c.read_page-given.result ≡ reading c.args.next.now
told_is c = c.read_page-given.ensures

number_is : (c : tie.After-number_of) → (reading c.args.next.now).number ≡ c.number_of.result
number_is c = sym (c.number_of.ensures ∙ ap (λ (r : Result). r.number) (told_is c))

is_read : (c : tie.Else-number_of-ne0) → (reading c.args.next.now).number ≡ 0
is_read c = omega (arith, number_is c.before, c.if-number_of-ne0.false)

returns : tie.Need-returns-then-not-o
returns c =
    let a = c.args in
    sym (shown-unsound a.tables a.name.now a.next.now a.out.now
    (sym c.opened-o.ensures.0 ∙ not-true _ c.if-not-o.true))

returns-2 : tie.Need-returns-then-name-gt-LONGEST_NAME
returns-2 c =
    let a = c.args in
    sym (shown-long a.tables a.name.now a.next.now a.out.now (approved c.before)
    (long-name a.name.now a.next.now (omega (arith, c.if-name-gt-LONGEST_NAME.true))))

returns-3 : tie.Need-returns-then-next-gt-LONGEST_PAGE
returns-3 c =
    let a = c.args in
    sym (shown-long a.tables a.name.now a.next.now a.out.now (approved c.before.before)
    (long-text a.name.now a.next.now (omega (arith, c.if-name-gt-LONGEST_NAME.false)) (omega (arith, c.if-next-gt-LONGEST_PAGE.true))))

returns-4 : tie.Need-returns-then-number_of-ne0
returns-4 c =
    let a = c.args in
    (λ i. record { number = (told_is c.before i).number; values = (told_is c.before i).values; tables = a.tables; buffer = a.out.now })
    ∙ sym (shown-not a.tables a.name.now a.next.now a.out.now (passed c.before) (fitting c.before)
    (λ e. c.if-number_of-ne0.true (sym (number_is c.before) ∙ e)))

show-held-requires : tie.Need-show_held-shown-requires
show-held-requires c κs =
    (passed c.before.before, (omega (arith, c.if-name-gt-LONGEST_NAME.false), is_read c.before))

-- what was shown
shown-is : (c : tie.After-show_held-shown)
    → let a = c.args in
    answered c.show_held-shown.result c.show_held-shown.new.out
    ≡ shown_in (verdict_text a.name.now (held_against a.tables a.next.now)) a.out.now
shown-is c = c.show_held-shown.ensures

-- with the tables that are handed on
handed : (c : tie.After-number_of-2) (b : Bool) → eqb c.number_of-2.result 0 ≡ b
    → let a = c.args in
    ◌≡◌ {A = Written}
    (record {
      number = number c.show_held-shown.result;
      values = values c.show_held-shown.result;
      tables = cond b c.read_page-given.result.tables a.tables;
      buffer = c.show_held-shown.new.out;
    })
    (verdict_shown a.tables a.name.now a.next.now a.out.now)
handed c b e =
    let a = c.args in
    let test : eqb (number c.show_held-shown.result) 0 ≡ b = ap (λ (n : ℕ). eqb n 0) (sym c.number_of-2.ensures) ∙ e in
    (λ i. record {
      number = number c.show_held-shown.result;
      values = values c.show_held-shown.result;
      tables = cond (sym test i) (told_is c.before.before.before.before.before.before i).tables a.tables;
      buffer = c.show_held-shown.new.out;
    })
    ∙ ap (with_tables a.tables (reading a.next.now).tables) (shown-is c.before.before.before)
    ∙ sym (shown_read a.tables a.name.now a.next.now a.out.now (passed c.before.before.before.before.before.before) (fitting c.before.before.before.before.before.before) (is_read c.before.before.before.before.before))

returns-5 : tie.Need-returns-then-number_of-ne0-2
returns-5 c = handed c.before false (ne_eqb _ 0 c.if-number_of-ne0-2.true)

returns-6 : tie.Need-returns
returns-6 c = handed c.before true (eq-eqb c.number_of-2.result 0 (omega (arith, c.if-number_of-ne0-2.false)))

pub show_verdict_spec : {M : Type 1} → statement M
show_verdict_spec = tie.close (tie.spec (λ c κs. search rules) returns returns-2 returns-3 (λ c κs. search rules) (λ c κs. search rules) returns-4 show-held-requires (λ c κs. search rules) (λ c. search rules) returns-5 (λ c. search rules) returns-6)
