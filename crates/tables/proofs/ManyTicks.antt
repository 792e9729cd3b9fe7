-- TICK,n of sound tables: n ticks of the plain state, laid out; and how far the code has come with them.
-- Tick by tick the tables are laid out anew, and read back they are the plain state that was laid out.
-- Assumes nothing.
use Prim.Native.Nat.{ℕ, zero, suc, ◌+◌, ◌-◌, ◌≤◌, ◌<◌}
use native.Mathlib.Omega.{arith}
use native.Mathlib.Decide.{dec_lt}
use mathlib.Core.Path.{◌≡◌, refl, sym, ap, ap₂, ◌∙◌, subst}
use mathlib.Core.Bool.{Bool, true, false}
use mathlib.Core.List.{[], ◌∷◌}
use lib.ListN.{length, get_or}
use lib.Dec.{ltb, leb}
use borrow.Author.Tests.{lt-ltb, le-ltb, le-leb}
use Rattle.limits.specs.Limits.{most_ticks}
use Rattle.lists.specs.Lists.{hit, sum, up_to}
use Rattle.lists.proofs.Tests.{up_to-is}
use Rattle.clock.specs.Clock.{ceiling}
use Rattle.records.specs.Records.{missing}
use Rattle.rules.specs.declared.Answer.TheVariants.{NotAllowed, AtCeiling, NotSound}
use Rattle.rules.specs.Requests.{TICK}
use Rattle.rules.specs.Keeper.{lists, State, after}
use Rattle.rules.specs.Engine.{after_ticks, sum_of_ticks}
use Rattle.rules.specs.Sound as rules
use Rattle.rules.proofs.soundness.SoundRuns.{sound-after}
use Rattle.rules.proofs.shared.ManyTicks.{many-unsound, many-range, many-ceiling, many-made, Accepted, Comes, refuses, makes, comes, many-accepted}
use Rattle.timers.specs.Inner.{starters, moved_to, next_start, sleepers, ticks_on, started_on}
use Rattle.timers.proofs.Moves.{sound-timely, tick-plan, tick-played, tick-starters, tick-value, tick-moved}
use Rattle.timers.proofs.Ticking.{ticks-parts, started-parts, sound-ticks, ticks-moved}
use Rattle.timers.proofs.NextStart.{next_low, next-above, next-idle}
use Rattle.timers.proofs.Sleepers.{sleepers-left, sleepers-most, next-starts}
use Rattle.tables.specs.declared.Tables.{Tables}
use Rattle.tables.specs.Tables.{plain, lay, clock_of, Arrays}
use Rattle.tables.specs.Sound.{sound}
use Rattle.tables.specs.Calls.{Result, told, planned, asked, many_ticks}
use Rattle.tables.specs.Inner.{Orderly, Moves, TicksTo, counted}
use Rattle.tables.proofs.Agree.{sound-clauses, sound-test}
use Rattle.tables.proofs.Orderly.{orderly-lay, sound-orderly}
use Rattle.tables.proofs.Plain.{plain-lay, lay-sound, sound-plain}
use Rattle.tables.proofs.Serving.{asked-sound, served-planned}

-- A TICK of tables that are laid out
tick-of : (t : Tables) → sound t ≡ true → rules.Sound (plain t) → (plain t).book.clock < ceiling
    → asked t TICK
    ≡ record {
      number = 0;
      values = length (starters ((plain t).book.clock + 1) (plain t).book) ∷ [];
      tables = lay (moved_to ((plain t).book.clock + 1) (plain t));
    }
tick-of t e S h =
    let T = sound-timely (plain t) S in
    asked-sound t TICK e ∙ served-planned t TICK ∙ ap (planned t) (tick-plan (plain t) T h)
    ∙ ap₂ (λ (n : ℕ) (a : State lists). record { number = 0; values = n ∷ []; tables = lay a }) (ap length (tick-starters (plain t) T))
    (tick-played (plain t) T)

pub tick-laid : (a : State lists) → rules.Sound a → a.book.clock < ceiling
    → asked (lay a) TICK
    ≡ record { number = 0; values = length (starters (a.book.clock + 1) a.book) ∷ []; tables = lay (after lists a TICK) }
tick-laid a S h =
    let e : plain (lay a) ≡ a = plain-lay a S in
    tick-of (lay a) (sound-test (lay a) (lay-sound a S)) (subst rules.Sound (sym e) S) (omega (arith, ap (λ (x : State lists). x.book.clock) e, h))
    ∙ ap (λ (x : State lists). record {
      number = 0;
      values = length (starters (x.book.clock + 1) x.book) ∷ [];
      tables = lay (moved_to (x.book.clock + 1) x);
    }) e
    ∙ ap (λ (x : State lists). record {
      number = 0;
      values = length (starters (a.book.clock + 1) a.book) ∷ [];
      tables = lay x;
    }) (sym (tick-moved a (sound-timely a S) h))

-- SO MANY TICKS
ticked-clock : (a : State lists) → rules.Sound a → a.book.clock < ceiling → (after lists a TICK).book.clock ≡ a.book.clock + 1
ticked-clock a S h = ap (λ (x : State lists). x.book.clock) (tick-moved a (sound-timely a S) h)

pub ticks-laid : (n : ℕ) (a : State lists) → rules.Sound a → a.book.clock + n ≤ ceiling → after_ticks asked n (lay a) ≡ lay (ticks_on n a)
unfolding after_ticks ticks_on
ticks-laid zero a S h = refl
ticks-laid (suc n) a S h =
    ap (λ (r : Result). after_ticks asked n r.tables) (tick-laid a S (omega arith))
    ∙ ticks-laid n (after lists a TICK) (sound-after a S TICK) (omega (arith, ticked-clock a S (omega arith)))

pub sums-laid : (n : ℕ) (a : State lists) → rules.Sound a → a.book.clock + n ≤ ceiling → sum_of_ticks asked n (lay a) ≡ started_on n a
unfolding sum_of_ticks started_on
sums-laid zero a S h = refl
sums-laid (suc n) a S h =
    let e = tick-laid a S (omega arith) in
    ap (λ (r : Result). sum r.values + sum_of_ticks asked n r.tables) e
    ∙ ap₂ (λ (i j : ℕ). i + j)
    (omega (arith, tick-value a (sound-timely a S) (omega arith)))
    (sums-laid n (after lists a TICK) (sound-after a S TICK) (omega (arith, ticked-clock a S (omega arith))))

-- WHAT TICK,n HANDS BACK, and how the code tells a refusal
module _ (t : Tables) (n : ℕ) where
  pub told-unsound : sound t ≡ false → told (record { answer = NotSound; tables = t }) ≡ many_ticks t n
  told-unsound e = sym (many-unsound sound clock_of asked t n e)

  pub told-range : sound t ≡ true → up_to 1 most_ticks n ≡ false → told (record { answer = NotAllowed; tables = t }) ≡ many_ticks t n
  told-range e r = sym (many-range sound clock_of asked t n e r)

  pub told-ceiling : sound t ≡ true → up_to 1 most_ticks n ≡ true → leb ((plain t).book.clock + n) ceiling ≡ false
      → told (record { answer = AtCeiling; tables = t }) ≡ many_ticks t n
  told-ceiling e r c = sym (many-ceiling sound clock_of asked t n e r c)

  pub ticks-accepted : (many_ticks t n).number ≡ 0 → Accepted sound clock_of asked t n
  ticks-accepted = many-accepted sound clock_of asked t n

module _ (t : Tables) (O : Orderly t) (e : sound t ≡ true) (S : rules.Sound (plain t)) (n : ℕ) (least : 1 ≤ n) (most : n ≤ most_ticks)
    (below : (plain t).book.clock + n ≤ ceiling) where
  pub many-done : many_ticks t n ≡ counted (started_on n (plain t)) (lay (ticks_on n (plain t)))
  many-done =
      many-made sound clock_of asked t n e (up_to-is 1 most_ticks n least most) (le-leb ((plain t).book.clock + n) ceiling below)
      ∙ ap (λ (u : Tables). counted (sum_of_ticks asked n u) (after_ticks asked n u)) (sym (orderly-lay t O))
      ∙ ap₂ counted (sums-laid n (plain t) S below) (ticks-laid n (plain t) S below)

  -- as the code made it
  pub many-ticked : (end : ℕ) → end ≡ t.ledger.clock.ticks + n → (r : Tables) (m : ℕ) → TicksTo t end r m → counted m r ≡ many_ticks t n
  many-ticked end i r m T =
      let k : end - t.ledger.clock.ticks ≡ n = omega arith in
      ap₂ counted (T.number ∙ ap (λ (j : ℕ). started_on j (plain t)) k)
      (sym (orderly-lay r T.says.orderly) ∙ ap lay (T.says.state ∙ ap (λ (j : ℕ). ticks_on j (plain t)) k))
      ∙ sym many-done

-- TICK,n leads from sound tables to sound ones
pub sound-many : (t : Tables) → Arrays t → (n : ℕ) → sound t ≡ true → sound (many_ticks t n).tables ≡ true
sound-many t A n e = go (comes sound clock_of asked t n)
  where
    go : Comes sound clock_of asked t n → sound (many_ticks t n).tables ≡ true
    go (refuses a l h i) = ap (λ (r : Result). sound r.tables) i ∙ e
    go (makes M) =
        let S : rules.Sound (plain t) = sound-plain t A (sound-clauses t e) in
        ap (λ (r : Result). sound r.tables) (many-done t (sound-orderly t A (sound-clauses t e)) e S n M.least M.most M.below)
        ∙ sound-test (lay (ticks_on n (plain t))) (lay-sound (ticks_on n (plain t)) (sound-ticks n (plain t) S))

-- HOW FAR THE CODE HAS COME: the clock of t stands at `now`, and what is left of the ticks makes of t what all of them make of s
pub record Going (s : Tables) (end now : ℕ) (t : Tables) (n : ℕ) : Type 0 where
  pub orderly : Orderly t
  pub sound : rules.Sound (plain t)
  pub clock : t.ledger.clock.ticks ≡ now
  pub high : now ≤ end
  pub left : ticks_on (end - now) (plain t) ≡ ticks_on (end - s.ledger.clock.ticks) (plain s)
  pub number : n + started_on (end - now) (plain t) ≡ started_on (end - s.ledger.clock.ticks) (plain s)
  pub few : n + sleepers (plain t).book ≤ 32

-- so many moves are left, and one more where the clock is not yet there: 33 at most
pub moves_left : ℕ → ℕ → Tables → ℕ
moves_left end now t = sleepers (plain t).book + hit (ltb now end)

pub moves-most : (end now : ℕ) (t : Tables) → moves_left end now t ≤ 33
unfolding moves_left
moves-most end now t = omega (arith, sleepers-most (plain t).book, hit-most (ltb now end))
  where
    hit-most : (b : Bool) → hit b ≤ 1
    hit-most true = omega arith
    hit-most false = omega arith

pub going_start : (s : Tables) (end : ℕ) → Orderly s → rules.Sound (plain s) → s.ledger.clock.ticks ≤ end
    → Going s end s.ledger.clock.ticks s 0
going_start s end O S h = record {
  orderly = O;
  sound = S;
  clock = refl;
  high = h;
  left = refl;
  number = omega arith;
  few = omega (arith, sleepers-most (plain s).book);
}

-- one move
module _ {s : Tables} {end now : ℕ} {t : Tables} {n : ℕ} (G : Going s end now t n) (more : now < end) (top : end ≤ ceiling)
    (next : ℕ) (N : next ≡ next_start end t.ledger.programs) where
  pub next-on : now < next
  next-on =
      omega (
        arith,
        N,
        G.clock,
        next-above now end t.ledger.programs more (λ i l d. above i l d),
      )
    where
      above : (i : ℕ) → i < length t.ledger.programs → ((get_or t.ledger.programs i missing).due ≡ 0 → ⊥)
          → now < (get_or t.ledger.programs i missing).due
      above i l d =
          let e : suc i - 1 ≡ i = omega arith in
          let w = ap (λ (k : ℕ). (get_or t.ledger.programs k missing).due) e in
          omega (arith, G.clock, w, G.sound.dues.above (suc i) (omega arith, omega (arith, G.sound.shape.programs)) (λ z. d (sym w ∙ z)))

  pub next-most : next ≤ end
  next-most = omega (arith, N, next_low end t.ledger.programs)

  abbrev many : ℕ
  many = next - now - 1

  at_next : (plain t).book.clock + suc many ≡ next
  at_next = omega (arith, G.clock, next-on)

  one-move : (ticks_on (suc many) (plain t) ≡ moved_to next (plain t)) × (started_on (suc many) (plain t) ≡ length (starters next (plain t).book))
  one-move =
      let m = ticks-moved many (plain t) G.sound (omega (arith, at_next, next-most, top))
      (next-idle end ((plain t).book.clock + many) t.ledger.programs (omega (arith, N, at_next))) in (
        m.0 ∙ ap (λ (k : ℕ). moved_to k (plain t)) at_next,
        m.1 ∙ ap (λ (k : ℕ). length (starters k (plain t).book)) at_next,
      )

  module _ (u : Tables) (m : ℕ) (M : Moves t next u m) where
    is-ticked : plain u ≡ ticks_on (suc many) (plain t)
    is-ticked = M.says.state ∙ sym one-move.0

    parts : suc many + (end - next) ≡ end - now
    parts = omega (arith, next-on, next-most)

    starts-left : sleepers (plain u).book + m ≡ sleepers (plain t).book
    starts-left =
        omega (arith, sleepers-left next (plain t), ap (λ (a : State lists). sleepers a.book) M.says.state, M.number)

    pub going_on : Going s end next u (n + m)
    going_on = record {
      orderly = M.says.orderly;
      sound = subst rules.Sound (sym is-ticked) (sound-ticks (suc many) (plain t) G.sound);
      clock = ap (λ (a : State lists). a.book.clock) M.says.state;
      high = next-most;
      left = ap (ticks_on (end - next)) is-ticked ∙ sym (ticks-parts (suc many) (end - next) (plain t))
          ∙ ap (λ (k : ℕ). ticks_on k (plain t)) parts ∙ G.left;
      number = omega (
        arith,
        G.number,
        ap (started_on (end - next)) is-ticked,
        started-parts (suc many) (end - next) (plain t),
        ap (λ (k : ℕ). started_on k (plain t)) parts,
        one-move.1,
        M.number,
      );
      few = omega (arith, G.few, starts-left);
    }

    pub going_less : moves_left end next u < moves_left end now t
    unfolding moves_left
    going_less = go (dec_lt next end)
      where
        first : hit (ltb now end) ≡ 1
        first = ap hit (lt-ltb now end more)

        go : Dec (next < end) → sleepers (plain u).book + hit (ltb next end) < sleepers (plain t).book + hit (ltb now end)
        go (yes h) =
            omega (
              arith,
              first,
              ap hit (lt-ltb next end h),
              starts-left,
              M.number,
              ap (λ (k : ℕ). length (starters k (plain t).book)) N,
              next-starts end (plain t).book G.sound.shape.programs (omega (arith, N, h)),
            )
        go (no h) = omega (arith, first, ap hit (le-ltb next end (omega (arith, h))), starts-left)

-- and there
pub going_done : {s : Tables} {end now : ℕ} {t : Tables} {n : ℕ} → Going s end now t n → end ≤ now → TicksTo s end t n
unfolding ticks_on started_on
going_done {s} {end} {now} {t} {n} G h =
    let z : end - now ≡ 0 = omega arith in
    record {
      says = record {
        orderly = G.orderly;
        state = sym (ap (λ (k : ℕ). ticks_on k (plain t)) z) ∙ G.left;
      };
      number = omega (arith, G.number, ap (λ (k : ℕ). started_on k (plain t)) z);
    }
