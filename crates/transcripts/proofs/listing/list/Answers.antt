-- `listing::list` meets its contract: the first figures of the lines are their numbers. Assumes nothing.
use mathlib.Core.Path.{refl, ap, ◌∙◌}
use mathlib.Core.Logic.{inl, inr}
use mathlib.Core.List.{List}
use Prim.Native.Nat.{ℕ}
use lib.ListN.{length}
use Rattle.transcripts.specs.Listing.{listed_lines, filled, listing}
use Rattle.transcripts.proofs.ListLaws.{cut-numbers}
use Rattle.transcripts.proofs.listing.list.Goals as goal

pub returns : goal.returns
unfolding listing
returns c =
    let a = c.args in
    let ds = listed_lines a.original.now a.copy.now in
    c.put_listed.ensures
    ∙ ap (λ (figures : List ℕ). filled (length ds) figures a.list.now) (cut-numbers a.copy.now ds)

pub put_listed-requires : goal.put_listed-requires
put_listed-requires c = inr (inl refl)
