-- What inner functions ask and promise; nothing here need be believed for the calls.
-- Assumes nothing.
use Rattle.std.specs.Prelude.{ℕ, ◌≤◌, ◌≡◌, cond, List, eqb, Option, Some, None}
use Rattle.std.proofs.Math.Option as maybe
use Rattle.limits.specs.Limits.{most_numbers}
use Rattle.records.specs.declared.Numbers.{Numbers}
use Rattle.records.specs.Numbers.{resources, table_of}

-- a name that was read, or none
abbrev pub named : Option (List ℕ) → maybe.Option (List ℕ)
named (Some nm) = maybe.some nm
named None = maybe.none

-- a number that is found, where 0 says that there is none
abbrev pub unless_0 : ℕ → Option ℕ
unless_0 n = cond (eqb n 0) None (Some n)

-- a table of numbers as it is made: 16 at most, blank behind
pub record Fit (t : Numbers) : Type 0 where
  pub most : t.count ≤ most_numbers
  pub formed : t ≡ table_of t.count (resources t)

-- and r is one of its numbers
pub record Within (t : Numbers) (r : ℕ) : Type 0 where
  pub fit : Fit t
  pub low : 1 ≤ r
  pub high : r ≤ t.count
