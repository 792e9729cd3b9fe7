-- What a decision says, and what the functions that decide ask and promise each other. Nothing here need be believed for the calls:
-- what they hand back is said by the rules.
-- Assumes nothing.
use Rattle.std.specs.Prelude.{Result, Ok, Err, ℕ, ◌+◌, ◌*◌, ◌≤◌, ◌<◌, ◌≡◌, Bool, true, false, ◌&&◌, ◌||◌, List, [], ◌∷◌, ◌++◌, map, length, leb, eqb}
use Rattle.lists.specs.Lists.{count, keep, up_to, join}
use Rattle.limits.specs.Limits.{dormant, scheduled, general, suspended, states, most_tracks, most_numbers, most_units, last_priority, first_year, last_year}
use Rattle.clock.specs.Clock.{ceiling, unit}
use Rattle.records.specs.declared.Program.{Program}
use Rattle.records.specs.declared.Resource.{Resource}
use Rattle.records.specs.declared.Numbers.{Numbers}
use Rattle.records.specs.declared.Why.TheVariants as why
use Rattle.records.specs.Records.{Known, all}
use Rattle.records.specs.Numbers.{globally, resources}
use Rattle.records.specs.Inner as numbers
use Rattle.tracks.specs.declared.Tracks.{Tracks}
use Rattle.tracks.specs.Tracks.{nobody, holders, filled, replaced}
use Rattle.tracks.specs.Inner as tracks
use Rattle.rules.specs.declared.Answer.{Answer}
use Rattle.rules.specs.declared.Order as code
use Rattle.rules.specs.declared.Order.TheVariants as order
use Rattle.rules.specs.Answers.{number, values}
use Rattle.rules.specs.Book.{Book, at, state_of}
use Rattle.rules.specs.Requests.{SS, PR, OF}
use Rattle.rules.specs.Plans.{Event, on, becomes, priced, loaded, timed, marked, clocked, held, renewed, Plan, refused, done}
use Rattle.rules.specs.Plans.{releasing, waiting}
use Rattle.rules.specs.Plans.{View, woken, wake, need, either, number_of, values_of, events_of}
use Rattle.rules.specs.Rules.{named, inside, waits, frees, clears, ends, quit, dismissed, order, due_at, ticked, allocated, assigned}
use Rattle.ledger.specs.declared.Ledger.{Ledger}
use Rattle.decisions.specs.declared.Effect.{Effect}
use Rattle.decisions.specs.declared.Effect.TheVariants.{Stay, Renew, Load, Price, Time, Mark, Become, Await, Dismiss, End}
use Rattle.decisions.specs.declared.Effect.TheVariants.{Take, Give, GiveAll, Number, Release, Tick}
use Rattle.decisions.specs.declared.Decision.{Decision}
use Rattle.decisions.specs.declared.naming.Task.{Task}
use Rattle.decisions.specs.declared.naming.Task.TheVariants as task
use Rattle.decisions.specs.declared.numbering.Wanted.{Wanted}
use Rattle.decisions.specs.declared.numbering.Wanted.TheVariants as wants

-- a tick: what happens, and who is started by it
abbrev pub tick_events : Book → List Event
tick_events b = clocked (b.clock + 1) ∷ join (map (λ p. ticked p (at b p)) (keep (due_at b) all))

abbrev pub starts_now : Book → ℕ → Bool
starts_now b p = due_at b p && eqb (state_of b p) dormant

-- what happens, by the effect
abbrev pub events_for : View → Effect → List Event
events_for v Stay = []
events_for v (Renew T S R Y) = renewed T S R Y ∷ []
events_for v (Load p nm n) = on p (loaded nm n) ∷ []
events_for v (Price p n) = on p (priced n) ∷ []
events_for v (Time p d i) = on p (timed d i) ∷ []
events_for v (Mark p) = on p marked ∷ []
events_for v (Become p s w) = on p (becomes s w) ∷ []
events_for v (Await p c) = on p (becomes scheduled why.Nothing) ∷ on c (becomes general (why.Son p)) ∷ []
events_for v (Dismiss p k n) =
    (dismissed k p ++ (held (replaced p nobody v.book.holders) ∷ quit v p ∷ [])) ++ wake (woken v (ends v p n))
events_for v (End p) = on p (becomes dormant why.Nothing) ∷ quit v p ∷ wake (woken v (ends v p 0))
events_for v (Take i n h) = held (filled i n h v.book.holders) ∷ []
events_for v (Give i n) = held (filled i n nobody v.book.holders) ∷ wake (woken v (frees n))
events_for v (GiveAll c n) = held (replaced c nobody v.book.holders) ∷ wake (woken v (frees n))
events_for v (Number r o l) = assigned v r o l ∷ []
events_for v (Release r o l d) = assigned v r o l ∷ wake (woken v (clears r d))
events_for v Tick = tick_events v.book

-- the number and the values: those of the answer, or what the effect tells: how many are woken or started, and 0 for new tables
abbrev pub reply_for : View → Answer → Effect → ℕ × List ℕ
reply_for v a Stay = (number a, values a)
reply_for v a (Renew T S R Y) = (0, 0 ∷ [])
reply_for v a (Load p nm n) = (number a, values a)
reply_for v a (Price p n) = (number a, values a)
reply_for v a (Time p d i) = (number a, values a)
reply_for v a (Mark p) = (number a, values a)
reply_for v a (Become p s w) = (number a, values a)
reply_for v a (Await p c) = (number a, values a)
reply_for v a (Dismiss p k n) = (number a, values a)
reply_for v a (End p) = (0, length (woken v (ends v p 0)) ∷ [])
reply_for v a (Take i n h) = (number a, values a)
reply_for v a (Give i n) = (number a, values a)
reply_for v a (GiveAll c n) = (number a, values a)
reply_for v a (Number r o l) = (number a, values a)
reply_for v a (Release r o l d) = (0, length (woken v (clears r d)) ∷ [])
reply_for v a Tick = (0, length (keep (starts_now v.book) all) ∷ [])

-- T tracks, S of them the system's, R numbers and a clock that starts in year Y are tables
pub record Sizes (T S R Y : ℕ) : Type 0 where
  pub least : 1 ≤ T
  pub most : T ≤ most_tracks
  pub part : S ≤ T
  pub few : R ≤ most_numbers
  pub earliest : first_year ≤ Y
  pub latest : Y ≤ last_year

-- the numbers of an effect are those of programs, tracks and resource numbers
abbrev pub Apt : View → Effect → Type 0
Apt v Stay = Unit {0}
Apt v (Renew T S R Y) = Sizes T S R Y
Apt v (Load p nm n) = Known p
Apt v (Price p n) = Known p
Apt v (Time p d i) = Known p
Apt v (Mark p) = Known p
Apt v (Become p s w) = Known p × (s < states)
Apt v (Await p c) = Known p × Known c
Apt v (Dismiss p k n) = Known p × (n ≡ count p v.book.holders)
Apt v (End p) = Known p
Apt v (Take i n h) = i + n ≤ v.book.tracks
Apt v (Give i n) = i + n ≤ v.book.tracks
Apt v (GiveAll c n) = Unit {0}
Apt v (Number r o l) = (1 ≤ r) × (r ≤ v.book.numbers)
Apt v (Release r o l d) = (1 ≤ r) × (r ≤ v.book.numbers)
Apt v Tick = v.book.clock < ceiling

-- the decision is the plan's
pub record Decides (v : View) (x : Plan) (d : Decision) : Type 0 where
  pub number : (reply_for v d.answer d.effect).0 ≡ number_of x
  pub values : (reply_for v d.answer d.effect).1 ≡ values_of x
  pub events : events_for v d.effect ≡ events_of v x
  pub apt : Apt v d.effect

-- what it comes to where it may be refused: a refusal leaves everything as it is
abbrev pub settled : Result Decision Answer → Decision
settled (Ok d) = d
settled (Err a) = record { answer = a; effect = Stay }

-- a view of a book in which these parts stand
pub record OfTracks (v : View) (x : Tracks) : Type 0 where
  pub size : v.book.tracks ≡ x.count
  pub held : v.book.holders ≡ holders x

pub record OfNumbers (v : View) (x : Numbers) : Type 0 where
  pub size : v.book.numbers ≡ x.count
  pub all : v.book.resources ≡ resources x

pub record OfBook (v : View) (ps : List Program) (x : Tracks) (t : ℕ) : Type 0 where
  pub programs : v.book.programs ≡ ps
  pub tracks : OfTracks v x
  pub clock : v.book.clock ≡ t

pub record OfParts (v : View) (p : ℕ) (r : Program) (x : Tracks) (t : ℕ) : Type 0 where
  pub row : at v.book p ≡ r
  pub tracks : OfTracks v x
  pub clock : v.book.clock ≡ t

pub record CanWait (c s : ℕ) : Type 0 where
  pub known : Known c
  pub state : s < states

pub record CanTake (x : Tracks) (c : ℕ) : Type 0 where
  pub fit : tracks.Fit x
  pub known : Known c

-- resource numbers
pub record CanAllocate (x : Numbers) (c : ℕ) : Type 0 where
  pub fit : numbers.Fit x
  pub known : Known c

pub record Ours (c r : ℕ) : Type 0 where
  pub known : Known c
  pub low : 1 ≤ r
  pub high : r ≤ most_numbers

abbrev pub may_free : ℕ → ℕ → ℕ → Bool
may_free c o l = (eqb o c || eqb o globally) && (eqb l c || eqb l 0)

abbrev pub waiting_of : Wanted → ℕ
waiting_of (wants.Lock w) = w
waiting_of wants.Clear = 0
waiting_of wants.Free = 0

unfoldable pub wanted : View → ℕ → ℕ → Wanted → Resource → Plan
wanted v c r (wants.Lock w) x =
    either (eqb x.lock c) (done (r ∷ []) [])
    (either (eqb x.lock 0) (done (r ∷ []) (assigned v r x.owner c ∷ [])) (waits c w general (why.Lock r)))
wanted v c r wants.Clear x =
    either (eqb x.lock 0) (done (0 ∷ []) [])
    (need (eqb x.lock c) 9 0
    (releasing (length (woken v (clears r false)) ∷ []) (assigned v r x.owner 0 ∷ []) (clears r false)))
wanted v c r wants.Free x =
    need (may_free c x.owner x.lock) 9 0
    (releasing (length (woken v (clears r true)) ∷ []) (assigned v r 0 0 ∷ []) (clears r true))

unfoldable pub of_number : View → ℕ → ℕ → Wanted → Plan
of_number v c r q = need (leb (waiting_of q) 1) 3 0 (allocated v r (wanted v c r q))

-- programs by their names
abbrev pub on_named : Result ℕ Answer → (ℕ → Plan) → Plan
on_named (Ok p) f = f p
on_named (Err a) f = refused (number a) 0

-- a known program, or a refusal whose value is 0
abbrev pub KnownIn : Result ℕ Answer → Type 0
KnownIn (Ok p) = Known p
KnownIn (Err a) = values a ≡ 0 ∷ []

pub record NamedBy (ps : List Program) (nm : List ℕ) (r : Result ℕ Answer) : Type 0 where
  pub says : (v : View) → v.book.programs ≡ ps → (f : ℕ → Plan) → named v nm f ≡ on_named r f
  pub known : KnownIn r

abbrev pub timer_allowed : ℕ → ℕ → ℕ → Bool
timer_allowed res mult off = up_to 1 4 res && leb mult most_units && up_to 1 most_units off

abbrev pub permitted : Task → Bool
permitted (task.Shift a b) = true
permitted task.Suspend = true
permitted (task.Price n) = up_to 1 last_priority n
permitted (task.Dismiss k) = eqb k 1 || eqb k 8
permitted task.Await = true
permitted task.Send = true
permitted (task.Time r m o) = timer_allowed r m o

unfoldable pub going : View → ℕ → ℕ → ℕ → ℕ → Plan
going v p a b n = inside v p a (done (n ∷ []) (on p (becomes b why.Nothing) ∷ []))

unfoldable pub winding : View → ℕ → ℕ → ℕ → ℕ → Plan
winding v p res mult off =
    let due = v.book.clock + off * unit res in
    done (due ∷ []) (on p (timed due (mult * unit res)) ∷ [])

unfoldable pub awaiting : View → ℕ → ℕ → Plan
awaiting v c p = inside v p dormant (waiting general (on p (becomes scheduled why.Nothing) ∷ on c (becomes general (why.Son p)) ∷ []))

abbrev pub performed : View → ℕ → Task → ℕ → Plan
performed v c (task.Shift a b) p = going v p a b 0
performed v c task.Suspend p = order v SS p
performed v c (task.Price n) p = order v (PR n) p
performed v c (task.Dismiss k) p = order v (OF k) p
performed v c task.Await p = awaiting v c p
performed v c task.Send p = going v p dormant scheduled p
performed v c (task.Time r m o) p = winding v p r m o

unfoldable pub asking : View → ℕ → List ℕ → Task → Plan
asking v c nm q = need (permitted q) 3 0 (named v nm (performed v c q))

-- a task for which c may ask
abbrev pub Fits : ℕ → Task → Type 0
Fits c (task.Shift a b) = b < states
Fits c task.Suspend = Unit {0}
Fits c (task.Price n) = Unit {0}
Fits c (task.Dismiss k) = Unit {0}
Fits c task.Await = Known c
Fits c task.Send = Unit {0}
Fits c (task.Time r m o) = Unit {0}

pub record CanAsk (x : Tracks) (t c : ℕ) (q : Task) : Type 0 where
  pub fit : tracks.Fit x
  pub clock : t ≤ ceiling
  pub fits : Fits c q

pub record CanPerform (x : Tracks) (t c p : ℕ) (q : Task) : Type 0 where
  pub can : CanAsk x t c q
  pub known : Known p
  pub allowed : permitted q ≡ true

pub record CanTime (t p r m o : ℕ) : Type 0 where
  pub clock : t ≤ ceiling
  pub known : Known p
  pub allowed : timer_allowed r m o ≡ true

pub record CanPrice (p n : ℕ) : Type 0 where
  pub known : Known p
  pub allowed : up_to 1 last_priority n ≡ true

pub record CanDismiss (x : Tracks) (p : ℕ) : Type 0 where
  pub fit : tracks.Fit x
  pub known : Known p

pub record CanAwait (c p : ℕ) : Type 0 where
  pub caller : Known c
  pub known : Known p

abbrev pub task_of : code.Order → Task
task_of order.Ru = task.Shift dormant scheduled
task_of order.Ss = task.Suspend
task_of order.Go = task.Shift suspended scheduled
task_of (order.Pr n) = task.Price n
task_of (order.Of k) = task.Dismiss k

-- a ledger, and a caller or none
pub record CanCall (l : Ledger) (c : ℕ) : Type 0 where
  pub tracks : tracks.Fit l.tracks
  pub numbers : numbers.Fit l.numbers
  pub clock : l.clock.ticks ≤ ceiling
  pub known : Known c

pub record CanDecide (l : Ledger) (c : ℕ) : Type 0 where
  pub tracks : tracks.Fit l.tracks
  pub numbers : numbers.Fit l.numbers
  pub clock : l.clock.ticks ≤ ceiling
  pub known : 1 ≤ c → Known c
