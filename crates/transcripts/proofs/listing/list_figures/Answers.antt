-- `listing::list_figures` meets its contract: three figures of each line are all of them. Assumes nothing.
use mathlib.Core.Path.{refl, ap, ◌∙◌}
use mathlib.Core.Logic.{inr}
use mathlib.Core.List.{List}
use Prim.Native.Nat.{ℕ}
use lib.ListN.{length}
use Rattle.transcripts.specs.Listing.{listed_lines, filled, figuring}
use Rattle.transcripts.proofs.ListLaws.{cut_all}
use Rattle.transcripts.proofs.listing.list_figures.Goals as goal

pub returns : goal.returns
unfolding figuring
returns c =
    let a = c.args in
    let ds = listed_lines a.original.now a.copy.now in
    c.put_listed.ensures
    ∙ ap (λ (figures : List ℕ). filled (length ds) figures a.list.now) (cut_all a.copy.now ds)

pub put_listed-requires : goal.put_listed-requires
put_listed-requires c = inr (inr refl)
