-- What a turn over the records shows: an unused record that holds zeros is sound, and a why fits where state, reason and son do.
-- Assumes nothing.
use Prim.Native.Nat.{ℕ, ◌+◌, ◌-◌, ◌≤◌, ◌<◌}
use native.Mathlib.Omega.{arith}
use mathlib.Core.Path.{◌≡◌, refl, sym, ap, ◌∙◌}
use mathlib.Core.Logic.{◌≢◌}
use mathlib.Core.Bool.{Bool, true, false, cond, not, ◌&&◌}
use mathlib.Core.List.{List, [], ◌∷◌}
use lib.ListN.{length, get_or}
use lib.Dec.{leb, eqb}
use borrow.Author.Tests.{eqb-true, eqb-false, ne_eqb, not-true}
use Rattle.lists.specs.Lists.{alike, up_to}
use Rattle.lists.proofs.Tests.{false-true, clash, both, and}
use Rattle.records.specs.declared.Program.{Program}
use Rattle.records.specs.declared.Why.{Why}
use Rattle.records.specs.declared.Why.TheVariants.{Nothing, Tracks, Son, Lock, Number}
use Rattle.records.specs.Names.{legal}
use Rattle.records.specs.Records.{known, missing, unused}
use Rattle.rules.specs.Book.{Book, at, state_of}
use Rattle.rules.specs.Sound.{suits}
use Rattle.rules.specs.Test.{nothing, son_of, zeros}
use Rattle.rules.proofs.shared.Places.{known-true}
use Rattle.rules.proofs.tests.Agree.{yes_or_no}
use Rattle.ledger.specs.declared.Ledger.{Ledger}
use Rattle.ledger.specs.Ledger.{book_of}
use Rattle.ledger.specs.Inner.{timed, mark_fits, trim, state_fits, reason_fits, fits, name_key, son_key, Apart, Roster}
use Rattle.ledger.proofs.Facts.{Trim, trim-true, trim-is}

-- the record at i
abbrev pub held : Ledger → ℕ → Program
held l i = get_or l.programs i missing

-- the parts of a record's test
pub fits-parts : (c T R p : ℕ) (r : Program) → fits c T R p r ≡ true
    → (trim c r ≡ true) × (state_fits r.why r.state ≡ true) × (reason_fits T R p r.why ≡ true)
unfolding fits
fits-parts c T R p r e =
    let b = both (trim c r && state_fits r.why r.state) (reason_fits T R p r.why) e in
    let a = both (trim c r) (state_fits r.why r.state) b.0 in
    (a.0, a.1, b.1)

pub fits-is : (c T R p : ℕ) (r : Program) → trim c r ≡ true → state_fits r.why r.state ≡ true → reason_fits T R p r.why ≡ true
    → fits c T R p r ≡ true
unfolding fits
fits-is c T R p r t s w = and (and t s) w

pub trim-fails : (c T R p : ℕ) (r : Program) → trim c r ≡ false → false ≡ fits c T R p r
unfolding fits
trim-fails c T R p r e = sym (ap (λ (x : Bool). x && state_fits r.why r.state && reason_fits T R p r.why) e)

-- five zeros
pub unnamed : (xs : List ℕ) → length xs ≡ 5
    → (eqb (get_or xs 0 0) 0 && eqb (get_or xs 1 0) 0 && eqb (get_or xs 2 0) 0 && eqb (get_or xs 3 0) 0 && eqb (get_or xs 4 0) 0)
    ≡ alike xs unused.name
unnamed [] h = absurd (omega arith)
unnamed (a ∷ []) h = absurd (omega arith)
unnamed (a ∷ b ∷ []) h = absurd (omega arith)
unnamed (a ∷ b ∷ c ∷ []) h = absurd (omega arith)
unnamed (a ∷ b ∷ c ∷ d ∷ []) h = absurd (omega arith)
unnamed (a ∷ b ∷ c ∷ d ∷ e ∷ []) h = five (eqb a 0) (eqb b 0) (eqb c 0) (eqb d 0) (eqb e 0)
  where
    five : (a b c d e : Bool) → (a && b && c && d && e) ≡ (a && (b && (c && (d && (e && true)))))
    five false b c d e = refl
    five true false c d e = refl
    five true true false d e = refl
    five true true true false e = refl
    five true true true true false = refl
    five true true true true true = refl
unnamed (a ∷ b ∷ c ∷ d ∷ e ∷ f ∷ xs) h = absurd (omega arith)

-- no why
nothing_is : (w : Why) → nothing w ≡ true → w ≡ Nothing
nothing_is Nothing e = refl
nothing_is (Tracks n) e = false-true e
nothing_is (Son k) e = false-true e
nothing_is (Lock r) e = false-true e
nothing_is Number e = false-true e

-- what holds zeros
pub record Zeros (r : Program) : Type 0 where
  pub priority : r.priority ≡ 0
  pub state : r.state ≡ 0
  pub why : r.why ≡ Nothing
  pub due : r.due ≡ 0
  pub interval : r.interval ≡ 0
  pub unmarked : r.suspend ≡ false

zeros-true : (r : Program) → zeros r ≡ true → Zeros r
zeros-true r e =
    let b6 = both (alike r.name unused.name && eqb r.priority 0 && eqb r.state 0 && nothing r.why && eqb r.due 0
    && eqb r.interval 0) (not r.suspend) e in
    let b5 = both (alike r.name unused.name && eqb r.priority 0 && eqb r.state 0 && nothing r.why && eqb r.due 0)
    (eqb r.interval 0) b6.0 in
    let b4 = both (alike r.name unused.name && eqb r.priority 0 && eqb r.state 0 && nothing r.why)
    (eqb r.due 0) b5.0 in
    let b3 = both (alike r.name unused.name && eqb r.priority 0 && eqb r.state 0) (nothing r.why) b4.0 in
    let b2 = both (alike r.name unused.name && eqb r.priority 0) (eqb r.state 0) b3.0 in
    record {
      priority = eqb-true r.priority 0 (both (alike r.name unused.name) (eqb r.priority 0) b2.0).1;
      state = eqb-true r.state 0 b2.1;
      why = nothing_is r.why b3.1;
      due = eqb-true r.due 0 b4.1;
      interval = eqb-true r.interval 0 b5.1;
      unmarked = not-true r.suspend b6.1;
    }

-- the test of an unused record is that it holds zeros
zeros-fit : (c T R p : ℕ) (r : Program) → r.used ≡ false → zeros r ≡ true → fits c T R p r ≡ true
zeros-fit c T R p r u e =
    let z = zeros-true r e in
    fits-is c T R p r
    (trim-is c r (record {
      named = λ v. clash v u;
      empty = λ v. e;
      priority = omega (arith, z.priority);
      waiter = λ m. clash m z.unmarked;
      timed = record {
        timeless = λ n. z.interval;
        above = λ n. absurd (n z.due);
        near = λ n. absurd (n z.due);
        steps = omega (arith, z.interval);
      };
    }))
    (ap (λ (x : Why). state_fits x r.state) z.why ∙ ap (state_fits Nothing) z.state)
    (ap (reason_fits T R p) z.why)

zeros-miss : (c T R p : ℕ) (r : Program) → r.used ≡ false → zeros r ≡ false → false ≡ fits c T R p r
unfolding trim
zeros-miss c T R p r u e =
    trim-fails c T R p r (ap (λ (x : Bool). x && leb r.priority 32767 && mark_fits r.suspend r.state
    && timed c r.due r.interval)
    (ap (λ (x : Bool). cond x (legal r.name) (zeros r)) u ∙ e))

pub unused-fits : (c T R p : ℕ) (r : Program) → r.used ≡ false → zeros r ≡ fits c T R p r
unused-fits c T R p r u =
    yes_or_no (zeros r) (λ e. e ∙ sym (zeros-fit c T R p r u e)) (λ e. e ∙ zeros-miss c T R p r u e)

pub unused-zeros : (c T R p : ℕ) (r : Program) → r.used ≡ false → fits c T R p r ≡ true → Zeros r
unused-zeros c T R p r u e = zeros-true r (unused-fits c T R p r u ∙ e)

-- so whoever has a state is used
stated-used : (c T R p : ℕ) (r : Program) → fits c T R p r ≡ true → r.state ≢ 0 → r.used ≡ true
stated-used c T R p r e n = yes_or_no r.used (λ u. u) (λ u. absurd (n (unused-zeros c T R p r u e).state))

-- a son is a program
pub son-most : (T R p : ℕ) (w : Why) → reason_fits T R p w ≡ true → son_of w ≤ 32
son-most T R p Nothing e = omega arith
son-most T R p (Tracks n) e = omega arith
son-most T R p (Son k) e = (known-true k (both (known k) (not (eqb k p)) e).0).1
son-most T R p (Lock r) e = omega arith
son-most T R p Number e = omega arith

-- a why fits where state, reason and son do, and back
suits_of : (b : Book) (p s : ℕ) (w : Why) → state_fits w s ≡ true → reason_fits b.tracks b.numbers p w ≡ true
    → (son_of w ≢ 0 → ((at b (son_of w)).used ≡ true) × (state_of b (son_of w) ≢ 0)) → suits b p s w ≡ true
suits_of b p s Nothing e r f = e
suits_of b p s (Tracks n) e r f = and e r
suits_of b p s (Son k) e r f =
    let q = both (known k) (not (eqb k p)) r in
    let K = known-true k q.0 in
    let g = f (λ z. omega (arith, K.0)) in
    and (and (and (and e q.0) g.0) (ap not (ne_eqb (state_of b k) 0 g.1))) q.1
suits_of b p s (Lock n) e r f = and e r
suits_of b p s Number e r f = e

son-parts : (b : Book) (p s k : ℕ) → suits b p s (Son k) ≡ true
    → ((eqb s 3 ≡ true) × (known k ≡ true)) × (((at b k).used ≡ true) × (state_of b k ≢ 0)) × (not (eqb k p) ≡ true)
son-parts b p s k e =
    let b4 = both (eqb s 3 && known k && (at b k).used && not (eqb (state_of b k) 0)) (not (eqb k p)) e in
    let b3 = both (eqb s 3 && known k && (at b k).used) (not (eqb (state_of b k) 0)) b4.0 in
    let b2 = both (eqb s 3 && known k) (at b k).used b3.0 in
    (both (eqb s 3) (known k) b2.0, (b2.1, eqb-false (state_of b k) 0 (not-true (eqb (state_of b k) 0) b3.1)), b4.1)

suits-fits : (b : Book) (p s : ℕ) (w : Why) → suits b p s w ≡ true
    → (state_fits w s ≡ true) × (reason_fits b.tracks b.numbers p w ≡ true)
suits-fits b p s Nothing e = (e, refl)
suits-fits b p s (Tracks n) e = both (eqb s 5) (up_to 1 b.tracks n) e
suits-fits b p s (Son k) e = let q = son-parts b p s k e in (q.0.0, and q.0.1 q.2)
suits-fits b p s (Lock n) e = both (eqb s 3) (up_to 1 b.numbers n) e
suits-fits b p s Number e = (e, refl)

suits-son : (b : Book) (p s : ℕ) (w : Why) → suits b p s w ≡ true → son_of w ≢ 0 → ((at b (son_of w)).used ≡ true) × (state_of b (son_of w) ≢ 0)
suits-son b p s Nothing e n = absurd (n refl)
suits-son b p s (Tracks k) e n = absurd (n refl)
suits-son b p s (Son k) e n = (son-parts b p s k e).1
suits-son b p s (Lock k) e n = absurd (n refl)
suits-son b p s Number e n = absurd (n refl)

-- what the roster says of a record: it is sound but for its why, and that fits
module _ (l : Ledger) (S : Roster l.clock.ticks l.tracks.count l.numbers.count l.programs) (i : ℕ) (h : i < 32) where
  parts : (trim l.clock.ticks (held l i) ≡ true) × (state_fits (held l i).why (held l i).state ≡ true)
      × (reason_fits l.tracks.count l.numbers.count (i + 1) (held l i).why ≡ true)
  parts = fits-parts l.clock.ticks l.tracks.count l.numbers.count (i + 1) (held l i) (S.fitting i h)

  pub roster-trim : Trim l.clock.ticks (held l i)
  roster-trim = trim-true l.clock.ticks (held l i) parts.0

  pub roster-suits : suits (book_of l) (i + 1) (held l i).state (held l i).why ≡ true
  unfolding son_key
  roster-suits =
      suits_of (book_of l) (i + 1) (held l i).state (held l i).why parts.1 parts.2 (λ n. (son-used (S.live i h n), S.live i h n))
    where
      son : ℕ
      son = son_of (held l i).why - 1

      son-used : (held l son).state ≢ 0 → (held l son).used ≡ true
      son-used =
          stated-used l.clock.ticks l.tracks.count l.numbers.count (son + 1) (held l son)
          (S.fitting son (omega (arith, son-most l.tracks.count l.numbers.count (i + 1) (held l i).why parts.2)))

-- and back
pub roster-of : (l : Ledger) → ((i : ℕ) → i < 32 → Trim l.clock.ticks (held l i))
    → ((i : ℕ) → i < 32 → suits (book_of l) (i + 1) (held l i).state (held l i).why ≡ true) → Apart name_key l.programs
    → Apart son_key l.programs
    → Roster l.clock.ticks l.tracks.count l.numbers.count l.programs
unfolding son_key
roster-of l t w names sons = record {
  fitting = λ i h. let f = suits-fits (book_of l) (i + 1) (held l i).state (held l i).why (w i h) in
      fits-is l.clock.ticks l.tracks.count l.numbers.count (i + 1) (held l i) (trim-is l.clock.ticks (held l i) (t i h))
      f.0 f.1;
  names = names;
  live = λ i h n. (suits-son (book_of l) (i + 1) (held l i).state (held l i).why (w i h) n).1;
  sons = sons;
}
