-- What inner functions ask and promise; nothing here need be believed for the calls.
-- Assumes nothing.
use Rattle.std.specs.Prelude.{ℕ, ◌-◌, ◌≤◌, ◌+◌, ◌*◌, ◌<◌, ◌%◌, ◌≡◌, Bool, false, ◌&&◌, true, cond, not, ◌||◌, List, length, get_or, take, eqb, leb, ltb, ◌≢◌}
use Rattle.limits.specs.Limits.{dormant, scheduled, general, disc, suspended, most_programs, most_numbers, last_priority, first_year, last_year}
use Rattle.lists.specs.Lists.{count, up_to}
use Rattle.records.specs.declared.Numbers.{Numbers}
use Rattle.records.specs.Records.{Known, known, missing, in_wait}
use Rattle.records.specs.Numbers.{resources, globally, free}
use Rattle.ledger.specs.declared.Release.{Release}
use Rattle.rules.specs.Test.{test_names, test_zeros, test_whys, test_marks, test_system, test_users, test_unlocked, test_limits, test_dues}
use Rattle.rules.specs.Test.{son_of, zeros}
use Rattle.clock.specs.Clock.{ceiling, farthest}
use Rattle.records.specs.declared.Program.{Program}
use Rattle.records.specs.declared.Resource.{Resource}
use Rattle.records.specs.declared.Why.{Why}
use Rattle.records.specs.declared.Why.TheVariants.{Nothing, Tracks, Son, Lock, Number}
use Rattle.records.specs.Names.{legal}
use Rattle.tracks.specs.Tracks.{system}
use Rattle.tracks.specs.Inner.{Sizes}
use Rattle.rules.specs.Book.{Book, at}
use Rattle.ledger.specs.declared.Ledger.{Ledger}
use Rattle.ledger.specs.declared.roll.Roll.{Roll}
use Rattle.ledger.specs.declared.sound.Review.{Review}
use Rattle.ledger.specs.Ledger.{book_of, test_blank}
use Rattle.rules.specs.Plans as rules
use Rattle.rules.specs.Rules.{ends_in}

-- the tests of soundness that do not concern chains
unfoldable pub test_book : Ledger → Bool
test_book l =
    test_names (book_of l) && test_zeros (book_of l) && test_whys (book_of l) && test_marks (book_of l) && test_system (book_of l)
    && test_users (book_of l) && test_unlocked (book_of l) && test_blank l && test_limits (book_of l) && test_dues (book_of l)

-- what a release of the code says, and that it says what one of the rules says: number 0 is none
pub record Releases (x : Release) (y : rules.Release) : Type 0 where
  pub ended : x.ended ≡ y.ended
  pub tracks : x.tracks ≡ y.tracks
  pub cleared : (r : ℕ) → 1 ≤ r → get_or x.cleared (r - 1) false ≡ y.cleared r
  pub dealt : x.dealt ≡ y.dealt

-- the release of p's ending with these numbers, n tracks freed
abbrev pub ending_of : Numbers → ℕ → ℕ → rules.Release
ending_of t p n = ends_in (resources t) t.count p n

-- a list of known programs, each once
pub record Listed (ids : List ℕ) (len : ℕ) : Type 0 where
  pub most : len ≤ most_programs
  pub known : (z : ℕ) → 1 ≤ count z (take len ids) → Known z
  pub once : (z : ℕ) → count z (take len ids) ≤ 1

-- T, S, R, the clock and its start year
pub record Sized (T S R c Y : ℕ) : Type 0 where
  pub tracks : Sizes T S
  pub few : R ≤ most_numbers
  pub time : c ≤ ceiling
  pub earliest : first_year ≤ Y
  pub latest : Y ≤ last_year

-- due and interval, at a clock
unfoldable pub timed : ℕ → ℕ → ℕ → Bool
timed c d i = cond (eqb d 0) (eqb i 0) (ltb c d && leb (d - c) farthest && leb i farthest)

-- a program's mark, by its state
abbrev pub mark_fits : Bool → ℕ → Bool
mark_fits m s = not m || in_wait s

-- a record but its why
unfoldable pub trim : ℕ → Program → Bool
trim c r =
    cond r.used (legal r.name) (zeros r) && leb r.priority last_priority && mark_fits r.suspend r.state
    && timed c r.due r.interval

-- the state that a why is for
abbrev pub state_fits : Why → ℕ → Bool
state_fits Nothing s = eqb s dormant || eqb s scheduled || eqb s suspended
state_fits (Tracks n) s = eqb s disc
state_fits (Son k) s = eqb s general
state_fits (Lock r) s = eqb s general
state_fits Number s = eqb s general

-- what program p waits for, among T tracks and R numbers, but for the son's own record
abbrev pub reason_fits : ℕ → ℕ → ℕ → Why → Bool
reason_fits T R p Nothing = true
reason_fits T R p (Tracks n) = up_to 1 T n
reason_fits T R p (Son k) = known k && not (eqb k p)
reason_fits T R p (Lock r) = up_to 1 R r
reason_fits T R p Number = true

-- a record by itself
unfoldable pub fits : ℕ → ℕ → ℕ → ℕ → Program → Bool
fits c T R p r = trim c r && state_fits r.why r.state && reason_fits T R p r.why

-- a name as a number, another for each, and never 0; and 0 where the record is unused
abbrev pub joined : ℕ → ℕ → ℕ → ℕ → ℕ → ℕ
joined a b c d e = ((((256 + a) * 256 + b) * 256 + c) * 256 + d) * 256 + e

unfoldable pub name_code : List ℕ → ℕ
name_code xs = joined (get_or xs 0 0) (get_or xs 1 0) (get_or xs 2 0) (get_or xs 3 0) (get_or xs 4 0)

unfoldable pub name_key : Program → ℕ
name_key r = cond r.used (name_code r.name) 0

unfoldable pub son_key : Program → ℕ
son_key r = son_of r.why

-- 1 for a used record
unfoldable pub used_key : Program → ℕ
used_key r = cond r.used 1 0

-- keys, one of each record
pub record Keyed (f : Program → ℕ) (ps : List Program) (ks : List ℕ) : Type 0 where
  pub each : (i : ℕ) → i < most_programs → get_or ks i 0 ≡ f (get_or ps i missing)

-- the states of all records, and their priorities
pub record Columns (ps : List Program) (ss qs : List ℕ) : Type 0 where
  pub states : Keyed (λ (r : Program). r.state) ps ss
  pub priorities : Keyed (λ (r : Program). r.priority) ps qs

-- where a key leaves its mark
unfoldable pub slot_of : ℕ → ℕ
slot_of k = k % 251

-- the key at i is 0 or stands nowhere before it; what a mark 0 at its place tells of it; and the keys from `high` on are 0
abbrev pub Fresh : List ℕ → ℕ → Type 0
Fresh ks i = get_or ks i 0 ≢ 0 → (j : ℕ) → j < i → get_or ks j 0 ≢ get_or ks i 0

pub record Marked (ks : List ℕ) (i mark : ℕ) : Type 0 where
  pub within : i < most_programs
  pub unmarked : mark ≡ 0 → Fresh ks i

pub record Ended (ks : List ℕ) (high : ℕ) : Type 0 where
  pub most : high ≤ most_programs
  pub rest : (k : ℕ) → high ≤ k → get_or ks k 0 ≡ 0

-- no two keys are the same, but zeros; and so for the keys of records
abbrev pub Distinct : List ℕ → Type 0
Distinct ks = (i : ℕ) → i < most_programs → get_or ks i 0 ≢ 0 → (j : ℕ) → j < most_programs → i < j → get_or ks j 0 ≢ get_or ks i 0

abbrev pub Apart : (Program → ℕ) → List Program → Type 0
Apart f ps = (i : ℕ) → i < most_programs → f (get_or ps i missing) ≢ 0 → (j : ℕ) → j < most_programs → i < j
    → f (get_or ps j missing) ≢ f (get_or ps i missing)

-- sons: the numbers of programs, none from `high` on; each that is awaited has a state that is not 0, and is awaited once
pub record Sons (ks : List ℕ) (high : ℕ) : Type 0 where
  pub ended : Ended ks high
  pub known : (k : ℕ) → get_or ks k 0 ≤ most_programs

pub record Awaited (ks states : List ℕ) : Type 0 where
  pub live : (i : ℕ) → i < most_programs → get_or ks i 0 ≢ 0 → get_or states (get_or ks i 0 - 1) 0 ≢ 0
  pub once : Distinct ks

-- all records, by themselves and by one another
pub record Roster (c T R : ℕ) (ps : List Program) : Type 0 where
  pub fitting : (i : ℕ) → i < most_programs → fits c T R (i + 1) (get_or ps i missing) ≡ true
  pub names : Apart name_key ps
  pub live : (i : ℕ) → i < most_programs → son_key (get_or ps i missing) ≢ 0 → (get_or ps (son_key (get_or ps i missing) - 1) missing).state ≢ 0
  pub sons : Apart son_key ps

-- what is noted of sound records
pub record Enrolled (c T R : ℕ) (ps : List Program) (x : Roll) : Type 0 where
  pub sound : Roster c T R ps
  pub marked : Keyed used_key ps x.used
  pub columns : Columns ps x.states x.priorities

-- of a ledger that is sound but for its chains, what a walk along these asks of its records
pub record Reviewed (l : Ledger) (x : Review) : Type 0 where
  pub sound : test_book l ≡ true
  pub columns : Columns l.programs x.states x.priorities

-- who may hold no track: a mark for every number but 0, those of used programs, and GLOBAL
unfoldable pub strange : ℕ → ℕ
strange u = cond (eqb u 0) 1 0

pub record Strangers (used marks : List ℕ) : Type 0 where
  pub nobody : get_or marks 0 0 ≡ 0
  pub global : get_or marks globally 0 ≡ 0
  pub program : (k : ℕ) → k < most_programs → get_or marks (k + 1) 0 ≡ strange (get_or used k 0)
  pub other : (h : ℕ) → globally < h → h < 256 → get_or marks h 0 ≡ 1

-- who may hold a track, own a number or lock it: nobody, GLOBAL, or a used program
pub record User (b : Book) (h : ℕ) : Type 0 where
  pub low : h < system
  pub used : Known h → (at b h).used ≡ true

-- a number that nobody owns or locks; and all of them
abbrev pub Bare : Resource → Type 0
Bare x = (x.owner ≡ 0) × (x.lock ≡ 0)

abbrev pub AllBare : List Resource → Type 0
AllBare rs = (i : ℕ) → i < length rs → Bare (get_or rs i free)

-- a number of ours, by who may own or lock it; all of them; those behind; and both
pub record Sits (May : ℕ → Type 0) (x : Resource) : Type 0 where
  pub owner : May x.owner
  pub locker : May x.lock
  pub program : x.lock ≢ globally
  pub clear : x.owner ≡ 0 → x.lock ≡ 0

abbrev pub Seated : ℕ → (ℕ → Type 0) → List Resource → Type 0
Seated R May rs = (i : ℕ) → i < R → Sits May (get_or rs i free)

abbrev pub Unowned : ℕ → List Resource → Type 0
Unowned R rs = (i : ℕ) → i < most_numbers → R ≤ i → Bare (get_or rs i free)

pub record Numbered (R : ℕ) (May : ℕ → Type 0) (rs : List Resource) : Type 0 where
  pub ours : Seated R May rs
  pub rest : Unowned R rs
