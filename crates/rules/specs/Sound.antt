-- Soundness, clause by clause in the outline's order (OUTLINE, "The tables"), of a book and the chains beside it. The two clauses on
-- links and on blank entries speak of the tables alone and stand with them.
-- Assumes nothing.
use Rattle.std.specs.Prelude.{ℕ, ◌+◌, ◌≤◌, ◌<◌, ◌≡◌, ◌≢◌, Bool, true, false, not, ◌&&◌, ◌||◌, List, [], length, get_or, eqb}
use Rattle.limits.specs.Limits.{dormant, scheduled, general, disc, suspended, states, most_programs, most_tracks, most_numbers, last_priority, first_year, last_year}
use Rattle.lists.specs.Lists.{same, count, up_to, Ascending}
use Rattle.clock.specs.Clock.{ceiling, farthest}
use Rattle.records.specs.declared.Why.{Why}
use Rattle.records.specs.declared.Why.TheVariants.{Nothing, Tracks, Son, Lock, Number}
use Rattle.records.specs.Names.{legal}
use Rattle.records.specs.Records.{Known, known, unused, in_wait}
use Rattle.records.specs.Numbers.{globally, number_at}
use Rattle.tracks.specs.Tracks.{system}
use Rattle.rules.specs.Book.{Book, at, state_of, prio_of, why_of, holder_of}
use Rattle.rules.specs.Keeper.{lists, State}

-- the resource numbers of a book
abbrev pub Ours : Book → ℕ → Type 0
Ours b r = (1 ≤ r) × (r ≤ b.numbers)

-- names are legal and distinct
pub record Names (b : Book) : Type 0 where
  pub lawful : (p : ℕ) → Known p → (at b p).used ≡ true → legal (at b p).name ≡ true
  pub distinct : (p q : ℕ) → Known p → Known q → (at b p).used ≡ true → (at b q).used ≡ true → (at b p).name ≡ (at b q).name → p ≡ q

-- unused records hold zeros and no mark, and due and interval are zeros without a timer
pub record Zeros (b : Book) : Type 0 where
  pub empty : (p : ℕ) → Known p → (at b p).used ≡ false → at b p ≡ unused
  pub timeless : (p : ℕ) → Known p → (at b p).due ≡ 0 → (at b p).interval ≡ 0

-- each chain holds just the programs of its state, once, priorities never falling
pub record Chains (b : Book) (m : List (List ℕ)) : Type 0 where
  pub member : (s p : ℕ) → 1 ≤ s → s < states → Known p → count p (get_or m s []) ≡ same (state_of b p) s
  pub within : (s p : ℕ) → 1 ≤ s → s < states → 1 ≤ count p (get_or m s []) → Known p
  pub rising : (s : ℕ) → 1 ≤ s → s < states → Ascending (λ p q. prio_of b p ≤ prio_of b q) (get_or m s [])

-- a why fits the state that p is in: nothing in 0, 1 and 6; tracks in 5, count 1 to
-- T; in 3 a son that is used, not dormant and not p, a resource 1 to R, or any number
abbrev pub suits : Book → ℕ → ℕ → Why → Bool
suits b p s Nothing = eqb s dormant || eqb s scheduled || eqb s suspended
suits b p s (Tracks n) = eqb s disc && up_to 1 b.tracks n
suits b p s (Son k) = eqb s general && known k && (at b k).used && not (eqb (state_of b k) dormant) && not (eqb k p)
suits b p s (Lock r) = eqb s general && up_to 1 b.numbers r
suits b p s Number = eqb s general

-- each why fits its state, and no son is awaited twice
pub record Whys (b : Book) : Type 0 where
  pub fitting : (p : ℕ) → Known p → suits b p (state_of b p) (why_of b p) ≡ true
  pub once : (p q k : ℕ) → Known p → Known q → why_of b p ≡ Son k → why_of b q ≡ Son k → p ≡ q

-- the mark stands only in states 3 and 5
pub record Marks (b : Book) : Type 0 where
  pub waiters : (p : ℕ) → Known p → (at b p).suspend ≡ true → in_wait (state_of b p) ≡ true

-- the system holds just the tracks below S
pub record System (b : Book) : Type 0 where
  pub below : (i : ℕ) → i < b.tracks → i < b.system → holder_of b i ≡ system
  pub just : (i : ℕ) → i < b.tracks → holder_of b i ≡ system → i < b.system

-- programs that hold, own or lock are used
pub record Users (b : Book) : Type 0 where
  pub hold : (i : ℕ) → i < b.tracks → Known (holder_of b i) → (at b (holder_of b i)).used ≡ true
  pub own : (r : ℕ) → Ours b r → Known (number_at b.resources r).owner → (at b (number_at b.resources r).owner).used ≡ true
  pub lock : (r : ℕ) → Ours b r → Known (number_at b.resources r).lock → (at b (number_at b.resources r).lock).used ≡ true

-- a free number has no lock
pub record Unlocked (b : Book) : Type 0 where
  pub clear : (r : ℕ) → Ours b r → (number_at b.resources r).owner ≡ 0 → (number_at b.resources r).lock ≡ 0

-- the limits above hold
pub record Limits (b : Book) : Type 0 where
  pub some : 1 ≤ b.tracks
  pub most : b.tracks ≤ most_tracks
  pub first : b.system ≤ b.tracks
  pub few : b.numbers ≤ most_numbers
  pub time : b.clock ≤ ceiling
  pub earliest : first_year ≤ b.year
  pub latest : b.year ≤ last_year
  pub priority : (p : ℕ) → Known p → prio_of b p ≤ last_priority
  pub holder : (i : ℕ) → i < b.tracks → holder_of b i ≤ system
  pub owner : (r : ℕ) → Ours b r → (number_at b.resources r).owner ≤ globally
  pub locker : (r : ℕ) → Ours b r → (number_at b.resources r).lock ≤ most_programs

-- each due is above the clock and at most clock + 1,474,200,000; intervals are at most 1,474,200,000
pub record Dues (b : Book) : Type 0 where
  pub above : (p : ℕ) → Known p → (at b p).due ≢ 0 → b.clock < (at b p).due
  pub near : (p : ℕ) → Known p → (at b p).due ≢ 0 → (at b p).due ≤ b.clock + farthest
  pub steps : (p : ℕ) → Known p → (at b p).interval ≤ farthest

-- the lists are as long as what they list, and no chain is kept of dormant programs
pub record Shape (a : State lists) : Type 0 where
  pub programs : length a.book.programs ≡ most_programs
  pub holders : length a.book.holders ≡ a.book.tracks
  pub resources : length a.book.resources ≡ a.book.numbers
  pub chains : length a.kept ≡ states
  pub dormant : get_or a.kept dormant [] ≡ []

-- a plain state is sound
pub record Sound (a : State lists) : Type 0 where
  pub shape : Shape a
  pub names : Names a.book
  pub zeros : Zeros a.book
  pub chains : Chains a.book a.kept
  pub whys : Whys a.book
  pub marks : Marks a.book
  pub system : System a.book
  pub users : Users a.book
  pub unlocked : Unlocked a.book
  pub limits : Limits a.book
  pub dues : Dues a.book
