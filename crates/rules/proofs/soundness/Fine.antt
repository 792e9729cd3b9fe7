-- Soundness with slack, which holds between the events of a request as well: what one record has to say for itself, what is said
-- of two, and what is said of each track and each number. Slack excuses one program from being an awaited son that is used and
-- awake, one from being a user that is used, and lets the bounds of dues differ from those that the clock gives. Without slack it
-- is soundness, which is shown both ways.
-- Assumes nothing.
use Prim.Native.Nat.{ℕ, ◌+◌, ◌≤◌, ◌<◌}
use native.Mathlib.Omega.{arith}
use mathlib.Core.Path.{◌≡◌, refl, subst}
use mathlib.Core.Logic.{◌≢◌}
use mathlib.Core.Bool.{Bool, true, false, ◌&&◌, ◌||◌}
use mathlib.Core.List.{List}
use lib.ListN.{length, get_or}
use lib.Dec.{eqb}
use borrow.Author.Tests.{not-true, eqb-false, ne_eqb}
use Rattle.lists.specs.Lists.{up_to}
use Rattle.clock.specs.Clock.{ceiling, farthest}
use Rattle.records.specs.declared.Program.{Program}
use Rattle.records.specs.declared.Resource.{Resource}
use Rattle.records.specs.declared.Why.{Why}
use Rattle.records.specs.declared.Why.TheVariants.{Nothing, Tracks, Son, Lock, Number}
use Rattle.records.specs.Names.{legal}
use Rattle.records.specs.Records.{Known, known, record_at, unused, in_wait}
use Rattle.records.specs.Numbers.{globally, number_at}
use Rattle.tracks.specs.Tracks.{nobody, system}
use Rattle.rules.specs.Book.{Book, at, state_of, why_of, altered}
use Rattle.rules.specs.Keeper.{lists, State}
use Rattle.rules.specs.Sound.{suits, Sound}
use Rattle.rules.proofs.shared.Starting.{Starts}
use Rattle.rules.proofs.tests.Agree.{suited}
use Rattle.rules.proofs.shared.Places.{known-true, known_is}
use Rattle.rules.proofs.soundness.Chaining.{Ordered}

-- the excused son and user, or 0; the clock; a due is above the low bound and at most the high one
pub record Slack : Type 0 where
  pub son : ℕ
  pub user : ℕ
  pub clock : ℕ
  pub low : ℕ
  pub high : ℕ

abbrev pub exact : ℕ → Slack
exact c = record { son = 0; user = 0; clock = c; low = c; high = c + farthest }

-- a why fits a state, whoever the son is
abbrev pub alone : ℕ → ℕ → ℕ → Why → Bool
alone T R s Nothing = eqb s 0 || eqb s 1 || eqb s 6
alone T R s (Tracks n) = eqb s 5 && up_to 1 T n
alone T R s (Son k) = eqb s 3
alone T R s (Lock r) = eqb s 3 && up_to 1 R r
alone T R s Number = eqb s 3

-- a timer with a due between two bounds
pub record Timer (low high d i : ℕ) : Type 0 where
  pub timeless : d ≡ 0 → i ≡ 0
  pub above : d ≢ 0 → low < d
  pub near : d ≢ 0 → d ≤ high
  pub steps : i ≤ farthest

-- one record, beside T tracks and R numbers
pub record Right (low high T R : ℕ) (r : Program) : Type 0 where
  pub lawful : r.used ≡ true → legal r.name ≡ true
  pub empty : r.used ≡ false → r ≡ unused
  pub priority : r.priority ≤ 32767
  pub timer : Timer low high r.due r.interval
  pub fitting : alone T R r.state r.why ≡ true
  pub waiter : r.suspend ≡ true → in_wait r.state ≡ true

-- another timer, or other bounds
pub right-timed : (l h l' h' T R : ℕ) (r : Program) → Right l h T R r → Timer l' h' r.due r.interval → Right l' h' T R r
right-timed l h l' h' T R r G t =
    record { lawful = G.lawful; empty = G.empty; priority = G.priority; timer = t; fitting = G.fitting; waiter = G.waiter }

-- k is a son that p may await
pub record Sonny (x : ℕ) (ps : List Program) (p k : ℕ) : Type 0 where
  pub known : Known k
  pub other : k ≢ p
  pub used : k ≢ x → (record_at ps k).used ≡ true
  pub awake : k ≢ x → (record_at ps k).state ≢ 0

-- a user is used
abbrev pub Uses : ℕ → List Program → ℕ → Type 0
Uses x ps h = h ≢ x → (record_at ps h).used ≡ true

-- h may hold track i, of which the first S are the system's; users are all U
pub record Holds (U : ℕ → Type 0) (S i h : ℕ) : Type 0 where
  pub below : i < S → h ≡ system
  pub just : h ≡ system → i < S
  pub user : Known h → U h
  pub most : h ≤ system

pub record Tracked (U : ℕ → Type 0) (T S : ℕ) (xs : List ℕ) : Type 0 where
  pub long : length xs ≡ T
  pub each : (i : ℕ) → i < T → Holds U S i (get_or xs i nobody)

-- a number may be so
pub record Owned (U : ℕ → Type 0) (x : Resource) : Type 0 where
  pub owner : Known x.owner → U x.owner
  pub locker : Known x.lock → U x.lock
  pub clear : x.owner ≡ 0 → x.lock ≡ 0
  pub high : x.owner ≤ globally
  pub most : x.lock ≤ 32

pub record Numbered (U : ℕ → Type 0) (R : ℕ) (xs : List Resource) : Type 0 where
  pub long : length xs ≡ R
  pub each : (r : ℕ) → 1 ≤ r → r ≤ R → Owned U (number_at xs r)

pub record Fine (e : Slack) (a : State lists) : Type 0 where
  pub order : Ordered a.book.programs a.kept
  pub right : (p : ℕ) → Known p → Right e.low e.high a.book.tracks a.book.numbers (at a.book p)
  pub distinct : (p q : ℕ) → Known p → Known q → (at a.book p).used ≡ true → (at a.book q).used ≡ true
      → (at a.book p).name ≡ (at a.book q).name → p ≡ q
  pub sons : (p k : ℕ) → Known p → why_of a.book p ≡ Son k → Sonny e.son a.book.programs p k
  pub once : (p q k : ℕ) → Known p → Known q → why_of a.book p ≡ Son k → why_of a.book q ≡ Son k → p ≡ q
  pub tracked : Tracked (Uses e.user a.book.programs) a.book.tracks a.book.system a.book.holders
  pub numbered : Numbered (Uses e.user a.book.programs) a.book.numbers a.book.resources
  pub sized : Starts a.book.tracks a.book.system a.book.numbers a.book.year
  pub now : a.book.clock ≡ e.clock
  pub time : e.clock ≤ ceiling

-- whose record is another than the unused one is used
pub used-if : (e : Slack) (a : State lists) → Fine e a → (p : ℕ) → Known p → (at a.book p ≡ unused → ⊥) → (at a.book p).used ≡ true
used-if e a F p P n = go (at a.book p).used refl
  where
    go : (b : Bool) → (at a.book p).used ≡ b → b ≡ true
    go true i = refl
    go false i = absurd (n ((F.right p P).empty i))

-- records and chains stay; what is said of each record's timer, of sons, tracks, numbers and the clock is said anew
pub fine-anew : (e f : Slack) (a : State lists) (c : ℕ) (hs : List ℕ) (rs : List Resource) → Fine e a
    → ((p : ℕ) → Known p → Right f.low f.high a.book.tracks a.book.numbers (at a.book p))
    → ((p k : ℕ) → Known p → why_of a.book p ≡ Son k → Sonny f.son a.book.programs p k)
    → Tracked (Uses f.user a.book.programs) a.book.tracks a.book.system hs
    → Numbered (Uses f.user a.book.programs) a.book.numbers rs
    → c ≡ f.clock → f.clock ≤ ceiling → Fine f (record { book = altered a.book a.book.programs c hs rs; kept = a.kept })
fine-anew e f a c hs rs F right sons tracked numbered now time = record {
  order = F.order;
  right = right;
  distinct = F.distinct;
  sons = sons;
  once = F.once;
  tracked = tracked;
  numbered = numbered;
  sized = F.sized;
  now = now;
  time = time;
}

-- what is said of whys in two parts
suits-alone : (b : Book) (p s : ℕ) (w : Why) → suits b p s w ≡ true → alone b.tracks b.numbers s w ≡ true
suits-alone b p s Nothing e = e
suits-alone b p s (Tracks n) e = e
suits-alone b p s (Son k) e = (suited b p s k e).general
suits-alone b p s (Lock r) e = e
suits-alone b p s Number e = e

suits-son : (b : Book) (p s k : ℕ) (w : Why) → suits b p s w ≡ true → w ≡ Son k → Sonny 0 b.programs p k
suits-son b p s k w e i =
    let h = suited b p s k (subst (λ (x : Why). suits b p s x ≡ true) i e) in
    record {
      known = known-true k h.known;
      other = eqb-false k p (not-true (eqb k p) h.other);
      used = λ n. h.used;
      awake = λ n. eqb-false (state_of b k) 0 (not-true (eqb (state_of b k) 0) h.awake);
    }

suits-both : (b : Book) (p s : ℕ) (w : Why) → alone b.tracks b.numbers s w ≡ true → ((k : ℕ) → w ≡ Son k → Sonny 0 b.programs p k)
    → suits b p s w ≡ true
suits-both b p s Nothing e f = e
suits-both b p s (Tracks n) e f = e
suits-both b p s (Son k) e f =
    let S = f k refl in
    let n : k ≢ 0 = λ i. omega (arith, i, S.known.0) in
    rw (e, known_is k S.known, S.used n, ne_eqb (state_of b k) 0 (S.awake n), ne_eqb k p S.other)
suits-both b p s (Lock r) e f = e
suits-both b p s Number e f = e

pub sound-fine : (a : State lists) → Sound a → Fine (exact a.book.clock) a
sound-fine a S = record {
  order = record {
    long = S.shape.programs;
    seven = S.shape.chains;
    dormant = S.shape.dormant;
    chain = λ s l m. record {
      member = λ p P. S.chains.member s p l m P;
      within = λ p h. S.chains.within s p l m h;
      rising = S.chains.rising s l m;
    };
  };
  right = λ p P. record {
    lawful = S.names.lawful p P;
    empty = S.zeros.empty p P;
    priority = S.limits.priority p P;
    timer = record { timeless = S.zeros.timeless p P; above = S.dues.above p P; near = S.dues.near p P; steps = S.dues.steps p P };
    fitting = suits-alone a.book p (state_of a.book p) (why_of a.book p) (S.whys.fitting p P);
    waiter = S.marks.waiters p P;
  };
  distinct = S.names.distinct;
  sons = λ p k P e. suits-son a.book p (state_of a.book p) k (why_of a.book p) (S.whys.fitting p P) e;
  once = S.whys.once;
  tracked = record {
    long = S.shape.holders;
    each = λ i l. record {
      below = S.system.below i l;
      just = S.system.just i l;
      user = λ h n. S.users.hold i l h;
      most = S.limits.holder i l;
    };
  };
  numbered = record {
    long = S.shape.resources;
    each = λ r l m. record {
      owner = λ h n. S.users.own r (l, m) h;
      locker = λ h n. S.users.lock r (l, m) h;
      clear = S.unlocked.clear r (l, m);
      high = S.limits.owner r (l, m);
      most = S.limits.locker r (l, m);
    };
  };
  sized = record {
    some = S.limits.some;
    most = S.limits.most;
    first = S.limits.first;
    few = S.limits.few;
    earliest = S.limits.earliest;
    latest = S.limits.latest;
  };
  now = refl;
  time = S.limits.time;
}

pub fine-sound : (c : ℕ) (a : State lists) → Fine (exact c) a → Sound a
fine-sound c a F = record {
  shape = record {
    programs = F.order.long;
    holders = F.tracked.long;
    resources = F.numbered.long;
    chains = F.order.seven;
    dormant = F.order.dormant;
  };
  names = record { lawful = λ p P. (F.right p P).lawful; distinct = F.distinct };
  zeros = record { empty = λ p P. (F.right p P).empty; timeless = λ p P. (F.right p P).timer.timeless };
  chains = record {
    member = λ s p l m P. (F.order.chain s l m).member p P;
    within = λ s p l m h. (F.order.chain s l m).within p h;
    rising = λ s l m. (F.order.chain s l m).rising;
  };
  whys = record {
    fitting = λ p P. suits-both a.book p (state_of a.book p) (why_of a.book p) (F.right p P).fitting (λ k e. F.sons p k P e);
    once = F.once;
  };
  marks = record { waiters = λ p P. (F.right p P).waiter };
  system = record { below = λ i l. (F.tracked.each i l).below; just = λ i l. (F.tracked.each i l).just };
  users = record {
    hold = λ i l h. (F.tracked.each i l).user h (λ e. omega (arith, e, h.0));
    own = λ r o h. (F.numbered.each r o.0 o.1).owner h (λ e. omega (arith, e, h.0));
    lock = λ r o h. (F.numbered.each r o.0 o.1).locker h (λ e. omega (arith, e, h.0));
  };
  unlocked = record { clear = λ r o. (F.numbered.each r o.0 o.1).clear };
  limits = record {
    some = F.sized.some;
    most = F.sized.most;
    earliest = F.sized.earliest;
    latest = F.sized.latest;
    first = F.sized.first;
    few = F.sized.few;
    time = omega (arith, F.now, F.time);
    priority = λ p P. (F.right p P).priority;
    holder = λ i l. (F.tracked.each i l).most;
    owner = λ r o. (F.numbered.each r o.0 o.1).high;
    locker = λ r o. (F.numbered.each r o.0 o.1).most;
  };
  dues = record {
    above = λ p P n. omega (arith, F.now, (F.right p P).timer.above n);
    near = λ p P n. omega (arith, F.now, (F.right p P).timer.near n);
    steps = λ p P. (F.right p P).timer.steps;
  };
}
