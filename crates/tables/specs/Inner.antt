-- What inner functions ask and promise; nothing here need be believed for the calls.
-- Assumes nothing.
use Rattle.std.specs.Prelude.{ℕ, ◌+◌, ◌-◌, ◌≤◌, ◌<◌, ◌≡◌, ◌≢◌, Bool, true, List, [], ◌∷◌, length, get_or, set, take}
use Rattle.limits.specs.Limits as limits
use Rattle.lists.specs.Lists.{count}
use Rattle.clock.specs.Clock.{ceiling}
use Rattle.records.specs.declared.Program.{Program}
use Rattle.records.specs.declared.Numbers.{Numbers}
use Rattle.records.specs.Records.{Known}
use Rattle.records.specs.Inner as numbers
use Rattle.tracks.specs.declared.Tracks.{Tracks}
use Rattle.tracks.specs.Tracks.{holders}
use Rattle.tracks.specs.Inner as tracks
use Rattle.rules.specs.declared.Answer.{Answer}
use Rattle.rules.specs.Book.{state_of, prio_of}
use Rattle.rules.specs.Plans.{Event, Release, from_disc, from_general}
use Rattle.rules.specs.Keeper.{lists, Entries, State, play, view}
use Rattle.rules.specs.Replay.{Accounts}
use Rattle.rules.specs.Sound as rules
use Rattle.chains.specs.declared.Listing.{Listing}
use Rattle.chains.specs.Links.{read}
use Rattle.chains.specs.Inner.{Laid, Lists}
use Rattle.timers.specs.Inner.{CanMoveAll, starters, moved_to, ticks_on, started_on}
use Rattle.decisions.specs.declared.Effect.{Effect}
use Rattle.decisions.specs.Inner.{events_for, reply_for, Apt}
use Rattle.tables.specs.declared.Tables.{Tables}
use Rattle.tables.specs.Tables.{plain, caller_of}
use Rattle.tables.specs.Calls.{Result, laid}
use Rattle.tables.specs.Sound.{sound}

-- Tables in order: the links lay out chains that some entries account for, and the tables of tracks and numbers are as they are made. What
-- a call does leads from such tables to such tables, also where they are not sound between two of its steps.
pub record Orderly (t : Tables) : Type 0 where
  pub laid : Laid t.links (read t.links)
  pub dormant : get_or (read t.links) limits.dormant [] ≡ []
  pub long : length t.ledger.programs ≡ limits.most_programs
  pub states : (z : ℕ) → Known z → state_of (plain t).book z < limits.states
  pub tracks : tracks.Fit t.ledger.tracks
  pub numbers : numbers.Fit t.ledger.numbers
  pub notes : Entries
  pub accounts : Accounts (plain t) notes

-- the tables are in order, and say what a plain state says
pub record Says (r : Tables) (a : State lists) : Type 0 where
  pub orderly : Orderly r
  pub state : plain r ≡ a

-- the tables after some events
abbrev pub Played : Tables → List Event → Tables → Type 0
Played t es r = Says r (play lists es (plain t))

-- another record of p
abbrev pub with_record : ℕ → Program → Tables → Tables
with_record p r t = record {
  ledger = record {
    programs = set t.ledger.programs (p - 1) r;
    clock = t.ledger.clock;
    tracks = t.ledger.tracks;
    numbers = t.ledger.numbers;
  };
  links = t.links;
}

-- p can leave its chain; p, which is in none, can enter that of a state; p's record can be replaced
pub record CanTurn (t : Tables) (p : ℕ) : Type 0 where
  pub orderly : Orderly t
  pub known : Known p

pub record CanJoin (t : Tables) (p s : ℕ) : Type 0 where
  pub orderly : Orderly t
  pub known : Known p
  pub state : s < limits.states
  pub out : state_of (plain t).book p ≡ limits.dormant

pub record CanAmend (t : Tables) (p : ℕ) (r : Program) : Type 0 where
  pub orderly : Orderly t
  pub known : Known p
  pub state : r.state ≡ state_of (plain t).book p
  pub priority : state_of (plain t).book p ≢ limits.dormant → r.priority ≡ prio_of (plain t).book p

-- tables that have passed the test
pub record Ready (t : Tables) : Type 0 where
  pub sound : sound t ≡ true
  pub orderly : Orderly t

-- p can take state s
pub record CanBecome (t : Tables) (p s : ℕ) : Type 0 where
  pub orderly : Orderly t
  pub known : Known p
  pub state : s < limits.states

-- a list of programs that can wake
pub record CanWake (t : Tables) (ids : List ℕ) (len : ℕ) : Type 0 where
  pub orderly : Orderly t
  pub most : len ≤ limits.most_programs
  pub known : (z : ℕ) → 1 ≤ count z (take len ids) → Known z

-- other holders of the same tracks; other numbers, as many
pub record CanHold (t : Tables) (x : Tracks) : Type 0 where
  pub orderly : Orderly t
  pub fit : tracks.Fit x
  pub count : x.count ≡ t.ledger.tracks.count
  pub system : x.system ≡ t.ledger.tracks.system

pub record CanNumber (t : Tables) (x : Numbers) : Type 0 where
  pub orderly : Orderly t
  pub fit : numbers.Fit x
  pub count : x.count ≡ t.ledger.numbers.count

-- whether tables pass the test, and what follows; c is the caller
pub record Tested (t : Tables) (b : Bool) (c : ℕ) : Type 0 where
  pub is : b ≡ sound t
  pub ready : b ≡ true → Ready t
  pub caller : b ≡ true → c ≡ caller_of t

-- two lists of programs that can wake
pub record CanSettle (t : Tables) (ids : List ℕ) (len : ℕ) (ids' : List ℕ) (len' : ℕ) : Type 0 where
  pub first : CanWake t ids len
  pub second : CanWake t ids' len'

-- p, which holds n tracks, can be ended
pub record CanEnd (t : Tables) (p n : ℕ) : Type 0 where
  pub orderly : Orderly t
  pub known : Known p
  pub held : n ≡ count p (holders t.ledger.tracks)

-- the tables after some events, and how many are woken or started by them
pub record Counts (t : Tables) (es : List Event) (c : List ℕ) (r : Tables) (n : ℕ) : Type 0 where
  pub played : Played t es r
  pub number : n ≡ length c

-- those who wake by a release, in two lists of at most 32
pub record Awaits (t : Tables) (y : Release) (d g : Listing) : Type 0 where
  pub disc : Lists d.ids d.len (from_disc (view lists (plain t)) y)
  pub general : Lists g.ids g.len (from_general (view lists (plain t)) y)

pub record Few (m n : ℕ) : Type 0 where
  pub disc : m ≤ limits.most_programs
  pub general : n ≤ limits.most_programs

-- n tracks from i on are there; r is one of the numbers; p and c are programs
pub record CanFill (t : Tables) (i n : ℕ) : Type 0 where
  pub orderly : Orderly t
  pub within : i + n ≤ t.ledger.tracks.count

pub record CanPut (t : Tables) (r : ℕ) : Type 0 where
  pub orderly : Orderly t
  pub low : 1 ≤ r
  pub high : r ≤ t.ledger.numbers.count

pub record CanAwait (p c : ℕ) (t : Tables) : Type 0 where
  pub orderly : Orderly t
  pub known : Known p
  pub caller : Known c

-- timers can move on beyond `now`; what a move of the clock to `now` makes, and how many it starts
pub record CanPass (t : Tables) (now : ℕ) : Type 0 where
  pub orderly : Orderly t
  pub fits : CanMoveAll now t.ledger.programs

pub record Moves (t : Tables) (now : ℕ) (r : Tables) (n : ℕ) : Type 0 where
  pub says : Says r (moved_to now (plain t))
  pub number : n ≡ length (starters now (plain t).book)

-- tables whose clock may move on
pub record CanTickOn (t : Tables) : Type 0 where
  pub ready : Ready t
  pub below : t.ledger.clock.ticks < ceiling

-- tables that have passed the test, and whose plain state is sound
pub record CanTick (t : Tables) : Type 0 where
  pub ready : Ready t
  pub plainly : rules.Sound (plain t)

-- sound tables, whose clock may go on to `end`; what so many ticks make, and how many they start
pub record CanTickTo (t : Tables) (end : ℕ) : Type 0 where
  pub orderly : Orderly t
  pub sound : rules.Sound (plain t)
  pub low : t.ledger.clock.ticks ≤ end
  pub high : end ≤ ceiling

pub record TicksTo (t : Tables) (end : ℕ) (r : Tables) (n : ℕ) : Type 0 where
  pub says : Says r (ticks_on (end - t.ledger.clock.ticks) (plain t))
  pub number : n ≡ started_on (end - t.ledger.clock.ticks) (plain t)

-- what is decided, made of ready tables
pub record CanCarry (t : Tables) (e : Effect) : Type 0 where
  pub ready : Ready t
  pub apt : Apt (view lists (plain t)) e

abbrev pub carried : Tables → Answer → Effect → Result
carried t a e = record {
  number = (reply_for (view lists (plain t)) a e).0;
  values = (reply_for (view lists (plain t)) a e).1;
  tables = laid t (events_for (view lists (plain t)) e);
}

abbrev pub counted : ℕ → Tables → Result
counted n t = record { number = 0; values = n ∷ []; tables = t }
