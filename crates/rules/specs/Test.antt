-- The clauses of soundness as tests that compute. Each says what its clause says (proofs/ of the tables shows it).
-- Assumes nothing.
use Rattle.std.specs.Prelude.{ℕ, ◌+◌, ◌-◌, Bool, true, false, not, ◌&&◌, ◌||◌, List, [], ◌∷◌, get_or, leb, ltb, eqb}
use Rattle.std.specs.Bool.{beq}
use Rattle.limits.specs.Limits.{states, most_programs, most_tracks, most_numbers, last_priority, first_year, last_year}
use Rattle.lists.specs.Lists.{same, count, every, along, from, up_to, alike}
use Rattle.clock.specs.Clock.{ceiling, farthest}
use Rattle.records.specs.declared.Program.{Program}
use Rattle.records.specs.declared.Resource.{Resource}
use Rattle.records.specs.declared.Why.{Why}
use Rattle.records.specs.declared.Why.TheVariants.{Nothing, Tracks, Son, Lock, Number}
use Rattle.records.specs.Names.{legal}
use Rattle.records.specs.Records.{known, missing, unused, in_wait}
use Rattle.records.specs.Numbers.{globally, free}
use Rattle.tracks.specs.Tracks.{nobody, system}
use Rattle.rules.specs.Book.{Book, at, prio_of}
use Rattle.rules.specs.Sound.{suits}

-- a test of every program and its record, every track and its holder, every number
abbrev pub programs : Book → (ℕ → Program → Bool) → Bool
programs b f = along missing f 1 most_programs b.programs

abbrev pub tracks : Book → (ℕ → ℕ → Bool) → Bool
tracks b f = along nobody f 0 b.tracks b.holders

abbrev pub numbers : Book → (Resource → Bool) → Bool
numbers b f = along free (λ r x. f x) 1 b.numbers b.resources

abbrev pub nothing : Why → Bool
nothing Nothing = true
nothing (Tracks n) = false
nothing (Son k) = false
nothing (Lock r) = false
nothing Number = false

-- the son that is awaited, or 0
abbrev pub son_of : Why → ℕ
son_of Nothing = 0
son_of (Tracks n) = 0
son_of (Son k) = k
son_of (Lock r) = 0
son_of Number = 0

-- the record holds zeros and no mark
abbrev pub zeros : Program → Bool
zeros r =
    alike r.name unused.name && eqb r.priority 0 && eqb r.state 0 && nothing r.why && eqb r.due 0 && eqb r.interval 0
    && not r.suspend

unfoldable pub test_names : Book → Bool
test_names b =
    programs b λ p r. not r.used || (legal r.name && programs b λ q s. eqb p q || not s.used || not (alike r.name s.name))

unfoldable pub test_zeros : Book → Bool
test_zeros b = programs b λ p r. (r.used || zeros r) && (not (eqb r.due 0) || eqb r.interval 0)

-- priorities never fall
abbrev pub rising : (ℕ → ℕ) → List ℕ → Bool
rising pr [] = true
rising pr (q ∷ qs) = every (λ r. leb (pr q) (pr r)) qs && rising pr qs

unfoldable pub test_chains : Book → List (List ℕ) → Bool
test_chains b m =
    every (λ s.
    programs b (λ p r. eqb (count p (get_or m s [])) (same r.state s)) && every known (get_or m s []) && rising (prio_of b) (get_or m s []))
    (from 1 (states - 1))

unfoldable pub test_whys : Book → Bool
test_whys b =
    programs b λ p r. suits b p r.state r.why
    && (eqb (son_of r.why) 0 || programs b λ q s. eqb p q || not (eqb (son_of r.why) (son_of s.why)))

unfoldable pub test_marks : Book → Bool
test_marks b = programs b λ p r. not r.suspend || in_wait r.state

unfoldable pub test_system : Book → Bool
test_system b = tracks b λ i h. beq (ltb i b.system) (eqb h system)

-- who is a program is a used one
abbrev pub used : Book → ℕ → Bool
used b p = not (known p) || (at b p).used

unfoldable pub test_users : Book → Bool
test_users b = tracks b (λ i h. used b h) && numbers b (λ x. used b x.owner && used b x.lock)

unfoldable pub test_unlocked : Book → Bool
test_unlocked b = numbers b λ x. not (eqb x.owner 0) || eqb x.lock 0

unfoldable pub test_limits : Book → Bool
test_limits b =
    up_to 1 most_tracks b.tracks && leb b.system b.tracks && leb b.numbers most_numbers && leb b.clock ceiling
    && up_to first_year last_year b.year && programs b (λ p r. leb r.priority last_priority) && tracks b (λ i h. leb h system)
    && numbers b (λ x. leb x.owner globally && leb x.lock most_programs)

unfoldable pub test_dues : Book → Bool
test_dues b =
    programs b λ p r. (eqb r.due 0 || (ltb b.clock r.due && leb r.due (b.clock + farthest))) && leb r.interval farthest
