-- `judging::judge` meets its contract: the first page is read, its lines are obeyed, and what is then written is held against the next.
-- Assumes nothing.
use native.Mathlib.Omega.{arith}
use mathlib.Core.Path.{◌≡◌, sym, ap, subst, ◌∙◌}
use mathlib.Core.Logic.{◌≢◌}
use mathlib.Core.Bool.{true}
use borrow.Author.Rules.{rules}
use Rattle.text.specs.Lines.{lines_of}
use Rattle.tables.specs.declared.Tables.{Tables}
use Rattle.tables.specs.Calls.{Result}
use Rattle.tables.specs.Sound.{sound}
use Rattle.tables.proofs.Agree.{sound-test}
use Rattle.reader.specs.Reading.{reading}
use Rattle.reader.proofs.Exact.{accepted, accepted-arrays}
use Rattle.blocks.specs.Blocks.{tables_after}
use Rattle.following.specs.Following.{briefly, refused_at, held_against}
use Rattle.following.specs.declared.judging.Verdict.TheVariants as tell
use Rattle.following.proofs.AfterLines.{after-good}
use Rattle.following.proofs.Judged.{not-page, first-not, first-is}
use Rattle.following.proofs.judging.judge.Statement.{statement}
use Rattle.following.proofs.judging.judge.Tie as tie

number_is : (c : tie.After-number_of) → (reading c.args.first.now).number ≡ c.number_of.result
number_is c = sym (c.number_of.ensures ∙ ap (λ (r : Result). r.number) c.read_page-read.ensures)

is_read : (c : tie.Else-number_of-ne0) → (reading c.args.first.now).number ≡ 0
is_read c = omega (arith, number_is c.before, c.if-number_of-ne0.false)

-- the tables after the lines
ended : (c : tie.After-key_lines-after)
    → let a = c.args in
    c.key_lines-after.result ≡ tables_after (reading a.first.now).tables (lines_of a.requests.now)
ended c =
    let a = c.args in
    c.key_lines-after.ensures ∙ ap (λ (r : Result). tables_after r.tables (lines_of a.requests.now)) c.read_page-read.ensures

returns : tie.Need-returns-then-number_of-ne0
returns c =
    let a = c.args in
    let n : (reading a.first.now).number ≢ 0 = λ e. c.if-number_of-ne0.true (sym (number_is c.before.before) ∙ e) in
    let told = c.read_page-read.ensures ∙ not-page a.first.now n in
    ap tell.NoFirst (c.bad_line.ensures (refused_at (reading a.first.now)) (ap (λ (x : Result). x.number) told)
    (ap (λ (x : Result). x.values) told))
    ∙ sym (ap briefly (first-not a.first.now (lines_of a.requests.now) a.next.now n))

hold-requires : tie.Need-hold-requires
hold-requires c κs =
    let a = c.args in
    let e = is_read c.before.before in
    subst (λ (t : Tables). sound t ≡ true) (sym (ended c))
    (after-good (lines_of a.requests.now) (reading a.first.now).tables
    (record {
      test = sound-test (reading a.first.now).tables (accepted a.first.now e).0;
      arrays = accepted-arrays a.first.now e;
    })).test

returns-2 : tie.Need-returns
returns-2 c =
    let a = c.args in
    c.hold.ensures
    ∙ ap briefly (ap (λ (t : Tables). held_against t a.next.now) (ended c.before)
    ∙ sym (first-is a.first.now (lines_of a.requests.now) a.next.now (is_read c.before.before.before)))

pub judge_spec : {M : Type 1} → statement M
judge_spec = tie.close (tie.spec (λ c κs. search rules) (λ c κs. search rules) (λ c κs. search rules) returns (λ c κs. search rules) hold-requires returns-2)
