-- The ledger and the book: the arrays behind T tracks and R numbers hold blanks (OUTLINE, "The tables").
-- Assumes nothing.
use Rattle.std.specs.Prelude.{ℕ, ◌≤◌, ◌<◌, ◌≡◌, Bool, true, ◌&&◌, List, [], ◌∷◌, get_or, drop, eqb}
use Rattle.lists.specs.Lists.{every}
use Rattle.records.specs.declared.Resource.{Resource}
use Rattle.records.specs.Numbers.{free, number_at}
use Rattle.records.specs.Numbers as numbers
use Rattle.tracks.specs.Tracks.{nobody}
use Rattle.tracks.specs.Tracks as tracks
use Rattle.rules.specs.Book.{Book}
use Rattle.ledger.specs.declared.Ledger.{Ledger}

-- what stands in the ledger; and the ledger in which a book stands
abbrev pub book_of : Ledger → Book
book_of l = record {
  programs = l.programs;
  clock = l.clock.ticks;
  year = l.clock.year;
  tracks = l.tracks.count;
  system = l.tracks.system;
  numbers = l.numbers.count;
  holders = tracks.holders l.tracks;
  resources = numbers.resources l.numbers;
}

abbrev pub ledger_of : Book → Ledger
ledger_of b = record {
  programs = b.programs;
  clock = record { ticks = b.clock; year = b.year };
  tracks = tracks.table_of b.tracks b.system b.holders;
  numbers = numbers.table_of b.numbers b.resources;
}

-- entries at T and above, or above R, are blank
pub record Blank (l : Ledger) : Type 0 where
  pub tracks : (i : ℕ) → l.tracks.count ≤ i → get_or (tracks.places l.tracks) i nobody ≡ nobody
  pub numbers : (r : ℕ) → l.numbers.count < r → number_at l.numbers.resources r ≡ free

-- all are blank
abbrev pub no_holders : List ℕ → Bool
no_holders xs = every (λ h. eqb h nobody) xs

abbrev pub no_numbers : List Resource → Bool
no_numbers [] = true
no_numbers (x ∷ xs) = eqb x.owner 0 && eqb x.lock 0 && no_numbers xs

unfoldable pub test_blank : Ledger → Bool
test_blank l =
    no_holders (drop l.tracks.count (tracks.places l.tracks)) && no_numbers (drop l.numbers.count l.numbers.resources)
