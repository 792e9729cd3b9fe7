-- `listing::turn_apart` meets its contract: what was counted and found is held against the line. Assumes nothing.
use mathlib.Core.Path.{refl, ap, ◌∙◌}
use Prim.Native.Nat.{ℕ}
use lib.Seq.{slice}
use Rattle.transcripts.specs.Inner.{lines_from, span_of, behind_others, held_at}
use Rattle.transcripts.proofs.Standing.{span-lies, behind-stands}
use Rattle.transcripts.proofs.listing.turn_apart.Goals as goal

pub hold-held-requires : goal.hold-held-requires
hold-held-requires c =
    let a = c.args in
    let n = c.count_key-n.result in
    let lies =
    span-lies a.copy.now c.seek-span.result (behind_others a.key.now n (lines_from a.copy.now a.other)) c.seek-span.ensures
    (behind-stands a.copy.now a.key.now n a.other)
    in
    record { at_le_end = c.requires.at_le_end; end_in_bounds = c.requires.end_in_bounds; span_in = lies }

pub returns : goal.returns
returns c =
    let a = c.args in
    record {
      ends = refl;
      based = refl;
      others = refl;
      held = λ xs b.
          c.hold-held.ensures
          ∙ ap (held_at (slice a.at a.end a.original.now) a.copy.now)
          (c.seek-span.ensures
          ∙ ap (λ (n : ℕ). span_of (behind_others a.key.now n (lines_from a.copy.now a.other)))
          (c.count_key-n.ensures.right xs b));
    }
