-- Tables as bytes at fixed places, for a caller in another language.
-- Assumes nothing.
use Rattle.std.specs.Prelude.{ℕ, zero, suc, ◌+◌, ◌*◌, ◌/◌, ◌%◌, Bool, cond, ◌&&◌, List, [], ◌∷◌, ◌++◌, map, length, get_or, take, drop, ltb, eqb}
use Rattle.limits.specs.Limits.{most_programs, most_tracks, most_numbers}
use Rattle.lists.specs.Lists.{hit, from, alike, join}
use Rattle.records.specs.declared.Program.{Program}
use Rattle.records.specs.declared.Resource.{Resource}
use Rattle.records.specs.declared.Why.{Why}
use Rattle.records.specs.declared.Why.TheVariants.{Nothing, Tracks, Son, Lock, Number}
use Rattle.tracks.specs.Tracks.{places, table_at}
use Rattle.chains.specs.Links.{slots}
use Rattle.tables.specs.declared.Tables.{Tables}

-- a number in k bytes, the lowest first; and k bytes as a number
abbrev pub in_bytes : ℕ → ℕ → List ℕ
in_bytes zero n = []
in_bytes (suc k) n = n % 256 ∷ in_bytes k (n / 256)

abbrev pub of_bytes : ℕ → List ℕ → ℕ
of_bytes zero s = 0
of_bytes (suc k) [] = 0
of_bytes (suc k) (b ∷ bs) = b + 256 * of_bytes k bs

-- the number in k bytes at place i
abbrev pub figure_at : ℕ → List ℕ → ℕ → ℕ
figure_at k s i = of_bytes k (drop i s)

-- a why: its kind, and its number
abbrev pub kind_of : Why → ℕ
kind_of Nothing = 0
kind_of (Tracks n) = 1
kind_of (Son k) = 2
kind_of (Lock r) = 3
kind_of Number = 4

abbrev pub count_of : Why → ℕ
count_of Nothing = 0
count_of (Tracks n) = n
count_of (Son k) = k
count_of (Lock r) = r
count_of Number = 0

unfoldable pub why_of : ℕ → ℕ → Why
why_of kind n =
    cond (eqb kind 0) Nothing (cond (eqb kind 1) (Tracks n) (cond (eqb kind 2) (Son (n % 256)) (cond (eqb kind 3) (Lock (n % 256)) Number)))

-- a record in 29 bytes: used, name, priority, state, why, due, interval, mark
unfoldable pub pack_program : Program → List ℕ
pack_program r =
    (hit r.used ∷ r.name) ++ in_bytes 2 r.priority ++ (r.state ∷ kind_of r.why ∷ [])
    ++ in_bytes 2 (count_of r.why) ++ in_bytes 8 r.due ++ in_bytes 8 r.interval ++ (hit r.suspend ∷ [])

unfoldable pub program_at : List ℕ → ℕ → Program
program_at s o = record {
  used = ltb 0 (get_or s o 0);
  name = take 5 (drop (o + 1) s);
  priority = figure_at 2 s (o + 6);
  state = get_or s (o + 8) 0;
  why = why_of (get_or s (o + 9) 0) (figure_at 2 s (o + 10));
  due = figure_at 8 s (o + 12);
  interval = figure_at 8 s (o + 20);
  suspend = ltb 0 (get_or s (o + 28) 0);
}

-- a resource number in 2 bytes: owner, lock
abbrev pub pack_resource : Resource → List ℕ
pack_resource x = x.owner ∷ x.lock ∷ []

abbrev pub resource_at : List ℕ → ℕ → Resource
resource_at s o = record { owner = get_or s o 0; lock = get_or s (o + 1) 0 }

-- where each part of the tables stands, and how many bytes there are
abbrev pub holders_place : ℕ
holders_place = 15

abbrev pub resources_place : ℕ
resources_place = 271

abbrev pub links_place : ℕ
links_place = 303

abbrev pub programs_place : ℕ
programs_place = 343

abbrev pub packed_length : ℕ
packed_length = 1271

-- clock, start year, tracks, system's tracks, numbers; holders; resources; links; records
unfoldable pub packed : Tables → List ℕ
packed t =
    in_bytes 8 t.ledger.clock.ticks ++ in_bytes 2 t.ledger.clock.year ++ in_bytes 2 t.ledger.tracks.count ++ in_bytes 2 t.ledger.tracks.system
    ++ (t.ledger.numbers.count ∷ [])
    ++ places t.ledger.tracks ++ join (map pack_resource t.ledger.numbers.resources) ++ t.links
    ++ join (map pack_program t.ledger.programs)

unfoldable pub unpacked : List ℕ → Tables
unfolding program_at
unpacked s = record {
  ledger = record {
    programs = map (λ i. program_at s (programs_place + 29 * i)) (from 0 most_programs);
    clock = record { ticks = figure_at 8 s 0; year = figure_at 2 s 8 };
    tracks = table_at (figure_at 2 s 10) (figure_at 2 s 12) (take most_tracks (drop holders_place s));
    numbers = record { count = get_or s 14 0; resources = map (λ i. resource_at s (resources_place + 2 * i)) (from 0 most_numbers) };
  };
  links = take slots (drop links_place s);
}

-- bytes are tables in packed form: they are what packing the tables that they say gives
unfoldable pub is_packed : List ℕ → Bool
is_packed s = eqb (length s) packed_length && alike (packed (unpacked s)) s
