-- `listing::turn_together` meets its contract: the next line with a key, none ahead, or one that is counted off (Turning.antt).
-- Assumes nothing.
use mathlib.Core.Path.{sym, ◌∙◌}
use borrow.Author.Rules.{rules}
use Rattle.std.specs.Prelude.{Some}
use Rattle.transcripts.specs.Inner.{lines_from, first_keyed, SpanIn}
use Rattle.transcripts.proofs.Standing.{span-lies, first-stands}
use Rattle.transcripts.proofs.Turning.{apart, missing-one, next_one}
use Rattle.transcripts.proofs.listing.turn_together.Goals.{In-Some}
use Rattle.transcripts.proofs.listing.turn_together.Goals as goal

-- the next line of the copy with a key lies in it
ahead : (c : In-Some) → SpanIn c.args.copy.now (Some c.in-Some.span)
ahead c =
    let a = c.args in
    span-lies a.copy.now _ (first_keyed (lines_from a.copy.now a.other)) c.in-Some.ensures (first-stands a.copy.now a.other)

pub hold-held-requires : goal.hold-held-requires
hold-held-requires c =
    record { at_le_end = c.requires.ends.low; end_in_bounds = c.requires.ends.high; span_in = ahead (goal.at.hold-held-requires c).In-Some }

pub overflow_add-result : goal.overflow_add-result
overflow_add-result c = let h = c.requires.ends.high in search rules

pub overflow_add-result-then-has_key : goal.overflow_add-result-then-has_key
overflow_add-result-then-has_key c = let h = (ahead (goal.at.overflow_add-result-then-has_key c).In-Some).1 in search rules

pub returns-then-has_key : goal.returns-then-has_key
returns-then-has_key c =
    let a = c.args in
    next_one a.original.now a.copy.now a.at a.end a.key.now c.requires a.other _ _ c.in-Some.ensures
    (sym c.if-has_key.true ∙ c.has_key.ensures) c.hold-held.result c.hold-held.ensures

pub overflow_add-result-in_default-span : goal.overflow_add-result-in_default-span
overflow_add-result-in_default-span c = let h = c.requires.ends.high in search rules

pub returns-in_default-span : goal.returns-in_default-span
returns-in_default-span c =
    let a = c.args in
    missing-one a.original.now a.copy.now a.at a.end a.key.now c.requires a.other
    c.in_default-span.ensures

pub turn_apart-requires : goal.turn_apart-requires
turn_apart-requires c = record { at_le_end = c.requires.ends.low; end_in_bounds = c.requires.ends.high }

pub returns : goal.returns
returns c =
    let a = c.args in
    apart a.original.now a.copy.now a.at a.end a.key.now c.requires a.other a.at _ c.turn_apart.ensures

pub slice_bounds-has_key-count : goal.slice_bounds-has_key-count
slice_bounds-has_key-count c = (ahead (goal.at.slice_bounds-has_key-count c).In-Some).0

pub slice_bounds-has_key-start : goal.slice_bounds-has_key-start
slice_bounds-has_key-start c = (ahead (goal.at.slice_bounds-has_key-start c).In-Some).0

pub slice_bounds-has_key-end : goal.slice_bounds-has_key-end
slice_bounds-has_key-end c = (ahead (goal.at.slice_bounds-has_key-end c).In-Some).1
