-- `console::parse::read_line` meets its contract. The invariant: the line says what the fields from `at` on say behind the last word.
-- Assumes nothing.
use native.Mathlib.Omega.{arith}
use Prim.Native.Nat.{ℕ, ◌<◌}
use mathlib.Core.List.{List}
use mathlib.Core.Path.{sym, ap, ◌∙◌}
use Rattle.std.proofs.lemmas.Slice.{between_is}
use Rattle.console.specs.Inner.{no_word, rows, keys, seek}
use Rattle.console.proofs.WordLaws.{instead-known, word-past, word-last, word_none, word_next, line-long, line-fits}
use Rattle.console.proofs.parse.read_line.Goals as goal

pub returns-then-s-gt-LONGEST_LINE : goal.returns-then-s-gt-LONGEST_LINE
returns-then-s-gt-LONGEST_LINE c = sym (line-long c.args.s.now c.if-s-gt-LONGEST_LINE.true)

pub loop-at-init : goal.loop-at-init
loop-at-init c = (omega arith, omega arith, line-fits c.args.s.now c.if-s-gt-LONGEST_LINE.false)

pub end_of-requires : goal.end_of-requires
end_of-requires c = record { s_len_bound = omega arith; last_lt_no_word = omega arith }

pub returns-then-row : goal.returns-then-row
returns-then-row c =
    c.end_of.ensures
    ∙ sym (c.loop-at.invariant.2 ∙ word-last c.loop-at.invariant.0 c.args.s.now c.loop-at.at c.word_of-row.ensures c.if-row.true)

pub end_of-requires-in_default-clause-last_lt_no_word : goal.end_of-requires-in_default-clause-last_lt_no_word
end_of-requires-in_default-clause-last_lt_no_word c = instead-known c.loop-at.last c.loop-at.invariant.0 c.word_of-row.ensures

pub returns-in_default : goal.returns-in_default
returns-in_default c =
    let l = c.loop-at in
    let s = c.args.s.now in
    c.end_of-in_default.ensures
    ∙ sym (l.invariant.2 ∙ word_none l.invariant.0 s l.at c.part_end-end.ensures
    (ap (λ (f : List ℕ). seek l.last f rows keys) (between_is s l.at c.part_end-end.result)) c.word_of-row.ensures c.in_default.ensures)

pub loop-at-preserved : goal.loop-at-preserved
loop-at-preserved c =
    let l = c.loop-at in
    let s = c.args.s.now in
    let e = c.in-Some.ensures in
    let known : c.in-Some.word < no_word = omega (arith, e.0, e.1) in (
      known,
      omega (arith, c.part_end-end.ensures.high),
      l.invariant.2 ∙ word_next l.invariant.0 s l.at c.part_end-end.ensures
          (e.0 ∙ ap (λ (f : List ℕ). seek l.last f rows keys) (between_is s l.at c.part_end-end.result)) known,
    )

pub returns : goal.returns
returns c =
    c.end_of-2.ensures ∙ sym (c.loop-at.invariant.2 ∙ word-past c.loop-at.invariant.0 c.args.s.now c.loop-at.at c.loop-at-test.false)
