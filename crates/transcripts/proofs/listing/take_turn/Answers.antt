-- `listing::take_turn` meets its contract, by the way that the turn went (Turning.antt). Assumes nothing.
use native.Mathlib.Omega.{arith}
use mathlib.Core.Path.{◌≡◌, sym, subst}
use mathlib.Core.Option.{none}
use Prim.Native.Nat.{ℕ, ◌-◌}
use lib.ListN.{take, drop}
use lib.Seq.{slice, length-take-le}
use Rattle.transcripts.specs.Transcripts.{key_of}
use Rattle.transcripts.specs.Inner.{KeyedLine, TakesTurn}
use Rattle.transcripts.proofs.TurnLaws.{no_key, some_key}
use Rattle.transcripts.proofs.Turning.{keyless-here, keyless, apart}
use Rattle.transcripts.proofs.listing.take_turn.Goals.{Else-key_end-line, Then-key_end-line}
use Rattle.transcripts.proofs.listing.take_turn.Goals as goal

unkeyed : (c : Then-key_end-line) → key_of (slice c.args.at c.part_end-end.result
    c.args.original.now) ≡ none
unkeyed c =
    let a = c.args in
    no_key a.original.now a.at c.part_end-end.result c.requires c.part_end-end.ensures c.part_end-key_end.result c.part_end-key_end.ensures
    (omega (arith, c.if-key_end-line.true))

pub returns-then-base-at : goal.returns-then-base-at
returns-then-base-at c =
    let a = c.args in
    keyless-here a.original.now a.copy.now a.at a.base a.other c.part_end-end.result c.requires c.part_end-end.ensures
    (unkeyed (goal.at.returns-then-base-at c).Then-key_end-line) c.if-base-at.true

pub returns-then-key_end-line : goal.returns-then-key_end-line
returns-then-key_end-line c =
    let a = c.args in
    keyless a.original.now a.copy.now a.at a.base a.other c.part_end-end.result c.requires c.part_end-end.ensures
    (unkeyed (goal.at.returns-then-key_end-line c).Then-key_end-line)

pub slice_bounds-key-end : goal.slice_bounds-key-end
slice_bounds-key-end c = sym (length-take-le c.part_end-key_end.result _ c.part_end-key_end.ensures.high)

-- a line with a key
line : (c : Else-key_end-line) → KeyedLine c.args.original.now c.args.at
    c.part_end-end.result
    (take c.part_end-key_end.result
    (take (c.part_end-end.result - c.args.at)
    (drop c.args.at c.args.original.now)))
line c =
    let a = c.args in
    record {
      begins = c.requires;
      ends = c.part_end-end.ensures;
      key = some_key a.original.now a.at c.part_end-end.result c.requires c.part_end-end.ensures c.part_end-key_end.result
          c.part_end-key_end.ensures
          (omega (arith, c.if-key_end-line.false, c.part_end-key_end.ensures.high));
    }

pub turn_together-requires : goal.turn_together-requires
turn_together-requires c = line (goal.at.turn_together-requires c).Else-key_end-line

pub returns-then-base-at-2 : goal.returns-then-base-at-2
returns-then-base-at-2 c =
    let a = c.args in
    subst (λ (i : ℕ). TakesTurn a.original.now a.copy.now a.at i a.other c.turn_together.result) (sym c.if-base-at-2.true)
    c.turn_together.ensures

pub returns : goal.returns
returns c =
    let a = c.args in
    apart a.original.now a.copy.now a.at c.part_end-end.result _ (line (goal.at.returns c).Else-key_end-line) a.other a.base _ c.turn_apart.ensures

pub slice_bounds-line-count : goal.slice_bounds-line-count
slice_bounds-line-count c = c.part_end-end.ensures.low

pub slice_bounds-line-start : goal.slice_bounds-line-start
slice_bounds-line-start c = c.part_end-end.ensures.low

pub slice_bounds-line-end : goal.slice_bounds-line-end
slice_bounds-line-end c = c.part_end-end.ensures.high
