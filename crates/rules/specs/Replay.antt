-- What demand 3 says of the chains: the history replayed with no chain kept
-- notes each program's state, its priority, and when it last entered its chain.
-- Assumes nothing.
use Rattle.std.specs.Prelude.{ℕ, ◌≤◌, ◌<◌, ◌≡◌, ◌≢◌, List, [], get_or}
use Rattle.limits.specs.Limits.{dormant, states}
use Rattle.lists.specs.Lists.{same, count, Ascending}
use Rattle.records.specs.Records.{Known}
use Rattle.rules.specs.Book.{Book, state_of, prio_of}
use Rattle.rules.specs.Keeper.{lists, Entries, State}

-- p comes before q: the lower priority number, and the earlier entry among equals
abbrev pub Before : (ℕ → ℕ) → (ℕ → ℕ) → ℕ → ℕ → Type 0
Before pr en p q = (pr p ≤ pr q) × (pr q ≤ pr p → en p < en q)

-- c is the chain of state s: it lists exactly the programs in that state, once each, in that order
pub record Fits (b : Book) (en : ℕ → ℕ) (s : ℕ) (c : List ℕ) : Type 0 where
  pub member : (z : ℕ) → Known z → count z c ≡ same (state_of b z) s
  pub within : (z : ℕ) → 1 ≤ count z c → Known z
  pub ascends : Ascending (Before (prio_of b) en) c

-- entries that fit the chains of a state: each is below the next one, and no two programs in chains have the same
pub record Accounts (a : State lists) (e : Entries) : Type 0 where
  pub early : (z : ℕ) → e.entry z < e.next
  pub apart : (y z : ℕ) → Known y → Known z → state_of a.book y ≢ dormant → state_of a.book z ≢ dormant
      → e.entry y ≡ e.entry z → y ≡ z
  pub fits : (s : ℕ) → 1 ≤ s → s < states → Fits a.book e.entry s (get_or a.kept s [])

-- p is in state s, and before every other program in it
pub record First (b : Book) (en : ℕ → ℕ) (s p : ℕ) : Type 0 where
  pub known : Known p
  pub there : state_of b p ≡ s
  pub least : (z : ℕ) → Known z → state_of b z ≡ s → z ≢ p → Before (prio_of b) en p z
