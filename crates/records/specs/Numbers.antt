-- Resource numbers 1 to R: free, or owned by a program or globally; an owned one is clear or locked by one program (OUTLINE, "The tables").
-- Assumes nothing.
use Rattle.std.specs.Prelude.{ℕ, ◌-◌, Bool, cond, ◌||◌, List, ◌++◌, get_or, set, take, replicate, eqb}
use Rattle.limits.specs.Limits.{most_numbers}
use Rattle.records.specs.declared.Resource.{Resource}
use Rattle.records.specs.declared.Numbers.{Numbers}

-- the owner of a number that is owned globally; 0 is no owner, and no lock
abbrev pub globally : ℕ
globally = 33

abbrev pub free : Resource
free = record { owner = 0; lock = 0 }

-- numbers 1 to R; and the table of R numbers, blank behind
abbrev pub resources : Numbers → List Resource
resources t = take t.count t.resources

abbrev pub table_of : ℕ → List Resource → Numbers
table_of R xs = record { count = R; resources = xs ++ replicate (most_numbers - R) free }

-- number r, and the table with another in its place
abbrev pub number_at : List Resource → ℕ → Resource
number_at xs r = get_or xs (r - 1) free

abbrev pub with_number : ℕ → ℕ → ℕ → List Resource → List Resource
with_number r o l xs = set xs (r - 1) (record { owner = o; lock = l })

-- a number that p owns or locks, and what is left of it when p ends (OUTLINE, "Ending and waking")
abbrev pub concerns : ℕ → Resource → Bool
concerns p x = eqb x.owner p || eqb x.lock p

abbrev pub without : ℕ → Resource → Resource
without p x = cond (eqb x.owner p) free (cond (eqb x.lock p) (record { owner = x.owner; lock = 0 }) x)
