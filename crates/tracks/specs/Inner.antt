-- What inner functions ask and promise; nothing here need be believed for the calls.
-- Assumes nothing.
use Rattle.std.specs.Prelude.{ℕ, ◌+◌, ◌≤◌, ◌<◌, ◌≡◌, Bool, true, false, List, ◌∷◌, length, get_or, drop, Option, Some, None}
use Rattle.std.proofs.Math.Option as maybe
use Rattle.limits.specs.Limits.{most_tracks}
use Rattle.tracks.specs.declared.Tracks.{Tracks}
use Rattle.tracks.specs.declared.held.Run.{Run}
use Rattle.tracks.specs.Tracks.{nobody, system, places, holders, table_of}
use Rattle.tracks.specs.Runs.{runs_of}

-- a table as the rules know it: told by its count, its system's tracks and its holders
pub record Fit (t : Tracks) : Type 0 where
  pub most : t.count ≤ most_tracks
  pub long : length (holders t) ≡ t.count
  pub formed : t ≡ table_of t.count t.system (holders t)

-- n tracks from i on are tracks of the table
pub record HasTracks (t : Tracks) (i n : ℕ) : Type 0 where
  pub fit : Fit t
  pub within : i + n ≤ t.count

-- T tracks, S of them the system's, are a table
pub record Sizes (T S : ℕ) : Type 0 where
  pub least : 1 ≤ T
  pub most : T ≤ most_tracks
  pub part : S ≤ T

-- what a search found
abbrev pub found_is : Option ℕ → maybe.Option ℕ
found_is (Some i) = maybe.some i
found_is None = maybe.none

-- an answer says whether A holds
pub record Tells (r : Bool) (A : Type 0) : Type 0 where
  pub yes : r ≡ true → A
  pub nay : r ≡ false → A → ⊥

-- r is the byte x
pub record Byte (x r : ℕ) : Type 0 where
  pub same : r ≡ x
  pub small : r < 256

-- r is no less than a and b, and 0 where they are
pub record Larger (a b r : ℕ) : Type 0 where
  pub left : a ≤ r
  pub right : b ≤ r
  pub none : a ≡ 0 → b ≡ 0 → r ≡ 0

-- h is a byte that has no mark
pub record Serves (marks : List ℕ) (h : ℕ) : Type 0 where
  pub small : h < 256
  pub unmarked : get_or marks h 0 ≡ 0

-- the system holds the first S places; who may hold tracks those from S to T; nobody those from T on
abbrev pub SystemHolds : ℕ → List ℕ → Type 0
SystemHolds S hs = (i : ℕ) → i < S → get_or hs i nobody ≡ system

abbrev pub OthersHold : ℕ → ℕ → (ℕ → Type 0) → List ℕ → Type 0
OthersHold S T May hs = (i : ℕ) → i < T → S ≤ i → May (get_or hs i nobody)

abbrev pub NoneHolds : ℕ → List ℕ → Type 0
NoneHolds T hs = (i : ℕ) → i < most_tracks → T ≤ i → get_or hs i nobody ≡ nobody

-- every place is held as it should be
pub record Held (May : ℕ → Type 0) (t : Tracks) : Type 0 where
  pub own : SystemHolds t.system (places t)
  pub others : OthersHold t.system t.count May (places t)
  pub blank : NoneHolds t.count (places t)

-- i is one of T tracks
pub record Within (T i : ℕ) : Type 0 where
  pub most : T ≤ most_tracks
  pub below : i < T

-- g is the run that begins at track i
pub record RunFrom (hs : List ℕ) (i : ℕ) (g : Run) : Type 0 where
  pub low : i ≤ g.last
  pub high : g.last < length hs
  pub runs : runs_of i (drop i hs) ≡ g ∷ runs_of (g.last + 1) (drop (g.last + 1) hs)
