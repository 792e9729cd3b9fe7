-- A move of the clock as the code makes it: all timers move on, which leaves tables in order; then the programs are passed in their order, and
-- what is left to do is what those from p on have still to do.
-- Assumes nothing.
use Prim.Native.Nat.{ℕ, suc, ◌+◌, ◌-◌, ◌≤◌, ◌<◌}
use native.Mathlib.Omega.{arith}
use native.Mathlib.Decide.{dec_lt}
use native.Mathlib.Numerals.{add-one}
use mathlib.Core.Path.{◌≡◌, refl, sym, ap, ◌∙◌, subst}
use mathlib.Core.Bool.{Bool, true, false, cond}
use mathlib.Core.List.{List, [], ◌∷◌, map}
use lib.ListN.{length, get_or, set, length-map, get_or-eq_default}
use Rattle.lists.specs.Lists.{hit, same, keep, from, join, Ascending}
use Rattle.clock.specs.Clock.{ceiling}
use Rattle.records.specs.declared.Program.{Program}
use Rattle.records.specs.declared.Why.TheVariants.{Nothing}
use Rattle.records.specs.Records.{all, missing, record_at}
use Rattle.rules.specs.Book.{Book, at, state_of, prio_of}
use Rattle.rules.specs.Plans.{Event, on, becomes}
use Rattle.rules.specs.Keeper.{lists, Entries, State, play}
use Rattle.rules.specs.Replay.{Before, Accounts}
use Rattle.rules.specs.Sound.{Dues}
use Rattle.rules.proofs.shared.Parts.{play-append}
use Rattle.chains.specs.Links.{read}
use Rattle.timers.specs.Inner.{falls_due, moved, starts, starters, passed, starting}
use Rattle.timers.proofs.Changing.{changed, changed-next, changed-skip, changed-at, changed-all}
use Rattle.timers.proofs.Striking.{moved-not}
use Rattle.timers.proofs.Starting.{moved-state, moved-priority, passed-at, started-moved}
use Rattle.timers.proofs.Moves.{Timely, tick-played, tick-starters}
use Rattle.decisions.specs.Inner.{tick_events, starts_now}
use Rattle.ledger.specs.declared.Ledger.{Ledger}
use Rattle.tables.specs.declared.Tables.{Tables}
use Rattle.tables.specs.Tables.{plain}
use Rattle.tables.specs.Inner.{Orderly, Says, Ready, Played, CanPass, Moves, Counts}
use Rattle.tables.proofs.Agree.{sound-clauses}
use Rattle.tables.proofs.Turns.{says-as}

-- ALL TIMERS MOVE ON
-- entries account for chains by the states and the priorities alone
accounts-same : (b c : Book) (k : List (List ℕ)) (e : Entries) → state_of b ≡ state_of c → prio_of b ≡ prio_of c
    → Accounts (record { book = b; kept = k }) e → Accounts (record { book = c; kept = k }) e
accounts-same b c k e s p A = record {
  early = A.early;
  apart = λ y z Y Z h i. A.apart y z Y Z (λ w. h (sym (at-state y) ∙ w)) (λ w. i (sym (at-state z) ∙ w));
  fits = λ n l h. let F = A.fits n l h in record {
    member = λ z Z. F.member z Z ∙ ap (λ (x : ℕ). same x n) (at-state z);
    within = F.within;
    ascends = subst (λ (f : ℕ → ℕ). Ascending (Before f e.entry) (get_or k n [])) p F.ascends;
  };
}
  where
    at-state : (z : ℕ) → state_of b z ≡ state_of c z
    at-state z = ap (λ (f : ℕ → ℕ). f z) s

module _ (t : Tables) (O : Orderly t) (now : ℕ) where
  abbrev with : List Program → Tables
  with ps = record {
    ledger = record {
      programs = ps;
      clock = record { ticks = now; year = t.ledger.clock.year };
      tracks = t.ledger.tracks;
      numbers = t.ledger.numbers;
    };
    links = t.links;
  }

  same-states : state_of (plain t).book ≡ state_of (passed now (plain t)).book
  same-states = λ i p.
      sym (ap (λ (r : Program). r.state) (passed-at now t.ledger.programs (p - 1)) ∙ moved-state now (at (plain t).book p)) i

  same-order : prio_of (plain t).book ≡ prio_of (passed now (plain t)).book
  same-order = λ i p.
      sym (ap (λ (r : Program). r.priority) (passed-at now t.ledger.programs (p - 1)) ∙ moved-priority now (at (plain t).book p)) i

  passed-says : Says (with (map (moved now) t.ledger.programs)) (passed now (plain t))
  passed-says = record {
    orderly = record {
      laid = O.laid;
      dormant = O.dormant;
      long = length-map t.ledger.programs (moved now) ∙ O.long;
      states = λ z Z. subst (λ (x : ℕ). x < 7) (ap (λ (f : ℕ → ℕ). f z) same-states) (O.states z Z);
      tracks = O.tracks;
      numbers = O.numbers;
      notes = O.notes;
      accounts = accounts-same (plain t).book (plain (with (map (moved now) t.ledger.programs))).book (read t.links) O.notes
          same-states same-order O.accounts;
    };
    state = refl;
  }

  was-passed : (ps : List Program) → ps ≡ map (moved now) t.ledger.programs → Says (with ps) (passed now (plain t))
  was-passed ps P = subst (λ (qs : List Program). Says (with qs) (passed now (plain t))) (sym P) passed-says

-- one record after another: the first i have their timers moved on
pub record Passing (s : Tables) (now : ℕ) (ps : List Program) (i : ℕ) : Type 0 where
  pub within : i ≤ 32
  pub is : ps ≡ changed (moved now) i s.ledger.programs

module _ (s : Tables) (now : ℕ) where
  -- the same at that time
  abbrev clocked_with : List Program → Ledger
  clocked_with ps = record {
    programs = ps;
    clock = record { ticks = now; year = s.ledger.clock.year };
    tracks = s.ledger.tracks;
    numbers = s.ledger.numbers;
  }

  pub passing-start : Passing s now s.ledger.programs 0
  passing-start = record { within = omega arith; is = refl }

  module _ {ps : List Program} {i : ℕ} (P : Passing s now ps i) where
    -- the record that comes next is still as it was
    pub passing-at : get_or ps i missing ≡ get_or s.ledger.programs i missing
    passing-at = ap (λ (xs : List Program). get_or xs i missing) P.is ∙ changed-at (moved now) i s.ledger.programs

    pub passing-moved : i < 32 → (r : Program) → r ≡ moved now (get_or ps i missing) → Passing s now (set ps i r) (i + 1)
    passing-moved h r e = record {
      within = omega arith;
      is = ap (λ (xs : List Program). set xs i r) P.is
          ∙ changed-next (moved now) i s.ledger.programs (changed (moved now) i s.ledger.programs) r refl (e ∙ ap (moved now) passing-at);
    }

    pub passing-past : i < 32 → length s.ledger.programs ≡ 32 → falls_due now (get_or ps i missing) ≡ false → Passing s now ps (i + 1)
    passing-past h L f = record {
      within = omega arith;
      is = P.is
          ∙ changed-skip (moved now) i s.ledger.programs (omega arith)
          (moved-not now (get_or s.ledger.programs i missing) (ap (falls_due now) (sym passing-at) ∙ f));
    }

    -- all of them, and the clock
    pub passing-done : Orderly s → 32 ≤ i → Says (record { ledger = clocked_with ps; links = s.links }) (passed now (plain s))
    passing-done O h =
        subst (λ (xs : List Program). Says (record { ledger = clocked_with xs; links = s.links }) (passed now (plain s))) (sym P.is)
        (was-passed s O now (changed (moved now) i s.ledger.programs)
        (changed-all (moved now) i s.ledger.programs (omega (arith, O.long, h))))

-- THE PROGRAMS, ONE AFTER ANOTHER
-- those from p on
from_step : (p : ℕ) → p ≤ 32 → from p (33 - p) ≡ p ∷ from (p + 1) (33 - (p + 1))
from_step p h =
    let e : 33 - p ≡ suc (32 - p) = omega arith in
    let f : 32 - p ≡ 33 - (p + 1) = omega arith in
    ap (from p) e ∙ ap (λ (n : ℕ). p ∷ from (suc p) n) f ∙ ap (λ (k : ℕ). p ∷ from k (33 - (p + 1))) (sym (add-one p))

-- and they are all, from the first
from_first : from 1 (33 - 1) ≡ all
unfolding all
from_first = refl

from_last : (p : ℕ) → p ≡ 33 → from p (33 - p) ≡ []
from_last p e = rw e

zero-plus : (n : ℕ) → 0 + n ≡ n
zero-plus n = omega arith

-- what is left of the events, and of the count
each_step : (f : ℕ → List Event) (c : Bool) (p : ℕ) (ks : List ℕ) (a : State lists)
    → play lists (join (map f (cond c (p ∷ ks) ks))) a ≡ play lists (join (map f ks)) (play lists (cond c (f p) []) a)
each_step f true p ks a = play-append lists (f p) (join (map f ks)) a
each_step f false p ks a = refl

count-step : (c : Bool) (p : ℕ) (ks : List ℕ) → length (cond c (p ∷ ks) ks) ≡ hit c + length ks
count-step true p ks = omega arith
count-step false p ks = omega arith

-- of records ps, whether a program starts when the clock goes on to `now`
abbrev starts_in : List Program → ℕ → ℕ → Bool
starts_in ps now p = starts now (record_at ps p)

-- how far the starting has come from tables s: the programs below p are done
pub record Starts (ps : List Program) (now : ℕ) (s t : Tables) (n p : ℕ) : Type 0 where
  pub low : 1 ≤ p
  pub high : p ≤ 33
  pub few : n < p
  pub orderly : Orderly t
  pub left : play lists (starting (keep (starts_in ps now) (from p (33 - p)))) (plain t)
      ≡ play lists (starting (keep (starts_in ps now) all)) (plain s)
  pub number : n + length (keep (starts_in ps now) (from p (33 - p))) ≡ length (keep (starts_in ps now) all)

module _ (ps : List Program) (now : ℕ) (s : Tables) where
  pub starts_first : Orderly s → Starts ps now s s 0 1
  starts_first O = record {
    low = omega arith;
    high = omega arith;
    few = omega arith;
    orderly = O;
    left = ap (λ (xs : List ℕ). play lists (starting (keep (starts_in ps now) xs)) (plain s)) from_first;
    number = zero-plus _ ∙ ap (λ (xs : List ℕ). length (keep (starts_in ps now) xs)) from_first;
  }

  module _ {n p : ℕ} {t : Tables} (T : Starts ps now s t n p) (h : p ≤ 32) where
    abbrev rest : List ℕ
    rest = keep (starts_in ps now) (from (p + 1) (33 - (p + 1)))

    step : (b : Bool) → starts now (record_at ps p) ≡ b → (u : Tables) → Orderly u
        → plain u ≡ play lists (cond b (on p (becomes 1 Nothing) ∷ []) []) (plain t) → (m : ℕ) → m ≡ n + hit b → m ≤ n + 1
        → Starts ps now s u m (p + 1)
    step b e u U S m M few =
        let c : keep (starts_in ps now) (from p (33 - p)) ≡ cond b (p ∷ rest) rest =
        ap (keep (starts_in ps now)) (from_step p h) ∙ ap (λ (x : Bool). cond x (p ∷ rest) rest) e in
        record {
          low = omega (arith, T.low);
          high = omega arith;
          few = omega (arith, T.few);
          orderly = U;
          left = ap (play lists (starting rest)) S ∙ sym (each_step (λ k. on k (becomes 1 Nothing) ∷ []) b p rest (plain t))
              ∙ ap (λ (xs : List ℕ). play lists (starting xs) (plain t)) (sym c) ∙ T.left;
          number = omega (arith, M, T.number, ap length c, count-step b p rest);
        }

    pub starts-it : starts now (record_at ps p) ≡ true → (u : Tables) → Played t (on p (becomes 1 Nothing) ∷ []) u
        → Starts ps now s u (n + 1) (p + 1)
    starts-it e u S = step true e u S.orderly S.state (n + 1) refl (omega arith)

    pub starts-not : starts now (record_at ps p) ≡ false → Starts ps now s t n (p + 1)
    starts-not e = step false e t T.orderly refl n (omega arith) (omega arith)

-- all are done, and before them the timers and the clock
pub starts-done : (s u t : Tables) (now n p : ℕ) → length s.ledger.programs ≡ 32 → Says u (passed now (plain s))
    → Starts s.ledger.programs now u t n p → 32 < p → Moves s now t n
unfolding starters
starts-done s u t now n p L P T l =
    let ps = s.ledger.programs in
    let none = from_last p (omega (arith, T.high)) in
    record {
      says = record {
        orderly = T.orderly;
        state = sym (ap (λ (xs : List ℕ). play lists (starting (keep (starts_in ps now) xs)) (plain t)) none)
            ∙ T.left
            ∙ ap (play lists (starting (keep (starts_in ps now) all))) P.state
            ∙ started-moved now (plain s) L;
      };
      number = omega (arith, T.number, ap (λ (xs : List ℕ). length (keep (starts_in ps now) xs)) none);
    }

-- of sound tables: an interval is far below the largest number
pub can-pass : (t : Tables) → Orderly t → Dues (plain t).book → (now : ℕ) → now ≤ ceiling → CanPass t now
can-pass t O D now h = record { orderly = O; fits = λ i. fits i (dec_lt i 32) }
  where
    fits : (i : ℕ) → Dec (i < 32) → now + (get_or t.ledger.programs i missing).interval ≤ 18446744073709551615
    fits i (yes l) =
        let e : suc i - 1 ≡ i = omega arith in
        omega (
          arith,
          D.steps (suc i) (omega arith, omega arith),
          ap (λ (k : ℕ). (get_or t.ledger.programs k missing).interval) e,
        )
    fits i (no n) =
        omega (arith, ap (λ (r : Program). r.interval) (get_or-eq_default t.ledger.programs missing {n = i} (omega (arith, O.long, n))))

-- A TICK is a move by one
pub tick-made : (t : Tables) → Ready t → (r : Tables) (n : ℕ) → Moves t ((plain t).book.clock + 1) r n
    → Counts t (tick_events (plain t).book) (keep (starts_now (plain t).book) all) r n
tick-made t R r n M =
    let S : Timely (plain t) = record { programs = R.orderly.long; above = (sound-clauses t R.sound).dues.above } in
    record {
      played = says-as (sym (tick-played (plain t) S)) M.says;
      number = M.number ∙ sym (ap length (tick-starters (plain t) S));
    }
