-- Counts as differences of the states before and after (OUTLINE, "What the contracts have to say").
-- Assumes nothing.
use Rattle.std.specs.Prelude.{ℕ, ◌+◌, ◌≡◌, ◌&&◌, ◌||◌, List, [], ◌∷◌, length, eqb}
use Rattle.limits.specs.Limits.{dormant, scheduled, suspended}
use Rattle.lists.specs.Lists.{count, keep}
use Rattle.records.specs.Records.{all, in_wait}
use Rattle.tracks.specs.Tracks.{nobody}
use Rattle.rules.specs.Book.{Book, state_of}

-- free tracks
unfoldable pub free_tracks : Book → ℕ
free_tracks b = count nobody b.holders

-- programs that waited before, in state 3 or 5, and are scheduled after, or suspended
unfoldable pub awoken : Book → Book → ℕ
unfolding all
awoken b c = length (keep (λ p. in_wait (state_of b p) && (eqb (state_of c p) scheduled || eqb (state_of c p) suspended)) all)

-- programs that were dormant before, and are scheduled after
unfoldable pub roused : Book → Book → ℕ
unfolding all
roused b c = length (keep (λ p. eqb (state_of b p) dormant && eqb (state_of c p) scheduled) all)

-- Its one value is how many more tracks are free after it. b and d are the books before and after, vs the values.
pub record Freed (b d : Book) (vs : List ℕ) : Type 0 where
  pub value : ℕ
  pub answer : vs ≡ value ∷ []
  pub difference : free_tracks b + value ≡ free_tracks d
