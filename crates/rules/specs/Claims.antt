-- What demand 2 says of claims for tracks: the lowest run of that length, or to wait, or to be told, each exactly then.
-- Assumes nothing.
use Rattle.std.specs.Prelude.{ℕ, ◌+◌, ◌≤◌, ◌<◌, ◌≡◌, List}
use Rattle.tracks.specs.Tracks.{FreeRun}
use Rattle.rules.specs.Book.{Book, holder_of}

-- no n free tracks stand together
abbrev pub NoRun : List ℕ → ℕ → Type 0
NoRun xs n = (i : ℕ) → FreeRun xs i n → ⊥

-- Of two books, the second has n tracks from i on in the hands of h, and all others as in the first.
pub record Gained (b d : Book) (h i n : ℕ) : Type 0 where
  pub theirs : (k : ℕ) → i ≤ k → k < i + n → holder_of d k ≡ h
  pub below : (k : ℕ) → k < i → holder_of d k ≡ holder_of b k
  pub above : (k : ℕ) → i + n ≤ k → holder_of d k ≡ holder_of b k
