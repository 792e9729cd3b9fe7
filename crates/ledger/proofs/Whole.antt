-- What the code tests and the tests of soundness are the same: each part of the one is made of clauses of the other.
-- Assumes nothing.
use Prim.Native.Nat.{ℕ, suc, ◌+◌, ◌-◌, ◌≤◌, ◌<◌}
use native.Mathlib.Omega.{arith}
use native.Mathlib.Decide.{dec_le}
use mathlib.Core.Path.{◌≡◌, sym, ap, ◌∙◌, subst}
use mathlib.Core.Logic.{◌≢◌}
use mathlib.Core.Bool.{true, false, not, ◌&&◌, ◌||◌}
use lib.ListN.{length, get_or, get_or-eq_default}
use lib.Seq.{get_or-take}
use lib.Dec.{eqb}
use borrow.Author.Tests.{eq-eqb, eqb-true}
use Rattle.lists.proofs.Tests.{both, and, unless, implies, otherwise, or}
use Rattle.records.specs.declared.Program.{Program}
use Rattle.records.specs.declared.Resource.{Resource}
use Rattle.records.specs.declared.Why.{Why}
use Rattle.records.specs.declared.Why.TheVariants.{Son}
use Rattle.records.specs.Records.{Known}
use Rattle.records.specs.Numbers.{free, number_at}
use Rattle.tracks.specs.Tracks.{nobody, system, places}
use Rattle.tracks.specs.Inner.{Held}
use Rattle.rules.specs.Book.{at, state_of, why_of, holder_of}
use Rattle.rules.specs.Sound.{Ours, suits, Names, Whys, Marks, System, Users, Unlocked, Limits, Dues}
use Rattle.rules.specs.Test.{son_of, zeros, test_names, test_zeros, test_whys, test_marks, test_system, test_users, test_unlocked}
use Rattle.rules.specs.Test.{test_limits, test_dues}
use Rattle.rules.proofs.tests.Agree.{program-in, program-is, yes_or_no, names-clause, names-test, whys-clause}
use Rattle.rules.proofs.tests.Agree.{whys-test, marks-clause, marks-test, dues-clause, dues-test, son-known}
use Rattle.rules.proofs.tests.AgreeTables.{system-clause, system-test, users-clause, users-test, unlocked-clause}
use Rattle.rules.proofs.tests.AgreeTables.{unlocked-test, limits-clause, limits-test}
use Rattle.ledger.specs.declared.Ledger.{Ledger}
use Rattle.ledger.specs.Ledger.{book_of, Blank, test_blank}
use Rattle.ledger.specs.Inner.{test_book, Sized, Roster, name_code, name_key, son_key, Apart, User, Sits, Numbered}
use Rattle.ledger.proofs.Agree.{blank-clause, blank-test}
use Rattle.ledger.proofs.Turns.{held, roster-trim, roster-suits, roster-of}
use Rattle.ledger.proofs.Codes.{code-name, used-key, code-some, key-used, key-son, apart-one}
use Rattle.ledger.proofs.Facts.{Trim}

-- what the code tests
pub record Passed (l : Ledger) : Type 0 where
  pub sizes : Sized l.tracks.count l.tracks.system l.numbers.count l.clock.ticks l.clock.year
  pub roster : Roster l.clock.ticks l.tracks.count l.numbers.count l.programs
  pub places : Held (User (book_of l)) l.tracks
  pub counts : Numbered l.numbers.count (User (book_of l)) l.numbers.resources

-- what soundness asks
record Clauses (l : Ledger) : Type 0 where
  names : Names (book_of l)
  zeros : test_zeros (book_of l) ≡ true
  whys : Whys (book_of l)
  marks : Marks (book_of l)
  system : System (book_of l)
  users : Users (book_of l)
  unlocked : Unlocked (book_of l)
  blank : Blank l
  limits : Limits (book_of l)
  dues : Dues (book_of l)

clauses-of : (l : Ledger) → test_book l ≡ true → Clauses l
unfolding test_book
clauses-of l e =
    let b = book_of l in
    let b9 = both (test_names b && test_zeros b && test_whys b && test_marks b && test_system b && test_users b && test_unlocked b && test_blank l
    && test_limits b) (test_dues b) e in
    let b8 = both (test_names b && test_zeros b && test_whys b && test_marks b && test_system b && test_users b && test_unlocked b && test_blank l)
    (test_limits b) b9.0 in
    let b7 = both (test_names b && test_zeros b && test_whys b && test_marks b && test_system b && test_users b && test_unlocked b)
    (test_blank l) b8.0 in
    let b6 = both (test_names b && test_zeros b && test_whys b && test_marks b && test_system b && test_users b) (test_unlocked b) b7.0 in
    let b5 = both (test_names b && test_zeros b && test_whys b && test_marks b && test_system b) (test_users b) b6.0 in
    let b4 = both (test_names b && test_zeros b && test_whys b && test_marks b) (test_system b) b5.0 in
    let b3 = both (test_names b && test_zeros b && test_whys b) (test_marks b) b4.0 in
    let b2 = both (test_names b && test_zeros b) (test_whys b) b3.0 in
    let b1 = both (test_names b) (test_zeros b) b2.0 in
    record {
      names = names-clause b b1.0;
      zeros = b1.1;
      whys = whys-clause b b2.1;
      marks = marks-clause b b3.1;
      system = system-clause b b4.1;
      users = users-clause b b5.1;
      unlocked = unlocked-clause b b6.1;
      blank = blank-clause l b7.1;
      limits = limits-clause b b8.1;
      dues = dues-clause b b9.1;
    }

test_of : (l : Ledger) → Clauses l → test_book l ≡ true
unfolding test_book
test_of l c =
    let b = book_of l in
    and (and (and (and (and (and (and (and (and
    (names-test b c.names)
    c.zeros)
    (whys-test b c.whys))
    (marks-test b c.marks))
    (system-test b c.system))
    (users-test b c.users))
    (unlocked-test b c.unlocked))
    (blank-test l c.blank))
    (limits-test b c.limits))
    (dues-test b c.dues)

-- what holds of every program's place holds of every place
places-from : (F : ℕ → Type 0) → ((p : ℕ) → Known p → F (p - 1)) → (i : ℕ) → i < 32 → F i
places-from F f i h = let e : i + 1 - 1 ≡ i = omega arith in subst F e (f (i + 1) (omega arith, omega arith))

-- holders and numbers stand in the arrays
holder-at : (l : Ledger) (i : ℕ) → i < l.tracks.count → holder_of (book_of l) i ≡ get_or (places l.tracks) i nobody
holder-at l i h = get_or-take l.tracks.count (places l.tracks) i nobody h

number_of : (l : Ledger) (r : ℕ) → Ours (book_of l) r → number_at (book_of l).resources r ≡ get_or l.numbers.resources (r - 1) free
number_of l r o = get_or-take l.numbers.count l.numbers.resources (r - 1) free (omega arith)

-- from what soundness asks to what the code tests
module _ (l : Ledger) (c : Clauses l) where
  tidy : (p : ℕ) → Known p → (((at (book_of l) p).used || zeros (at (book_of l) p)) ≡ true)
      × ((not (eqb (at (book_of l) p).due 0) || eqb (at (book_of l) p).interval 0) ≡ true)
  unfolding test_zeros
  tidy p P =
      both ((at (book_of l) p).used || zeros (at (book_of l) p)) (not (eqb (at (book_of l) p).due 0) || eqb (at (book_of l) p).interval 0)
      (program-in (book_of l) (λ p r. (r.used || zeros r) && (not (eqb r.due 0) || eqb r.interval 0)) c.zeros p P)

  trim-in : (p : ℕ) → Known p → Trim l.clock.ticks (at (book_of l) p)
  trim-in p P = let r = at (book_of l) p in record {
    named = c.names.lawful p P;
    empty = otherwise r.used (zeros r) (tidy p P).0;
    priority = c.limits.priority p P;
    waiter = c.marks.waiters p P;
    timed = record {
      timeless = λ z. eqb-true r.interval 0 (unless (eqb r.due 0) (eqb r.interval 0) (tidy p P).1 (eq-eqb r.due 0 z));
      above = c.dues.above p P;
      near = c.dues.near p P;
      steps = c.dues.steps p P;
    };
  }

  suits-in : (p : ℕ) → Known p → suits (book_of l) (p - 1 + 1) (state_of (book_of l) p) (why_of (book_of l) p) ≡ true
  suits-in p P =
      let e : p ≡ p - 1 + 1 = omega arith in
      subst (λ (q : ℕ). suits (book_of l) q (state_of (book_of l) p) (why_of (book_of l) p) ≡ true) e (c.whys.fitting p P)

  -- keys are apart that tell their programs
  apart_in : (f : Program → ℕ)
      → ((p q : ℕ) → Known p → Known q → f (at (book_of l) p) ≢ 0 → f (at (book_of l) q) ≡ f (at (book_of l) p) → p ≡ q)
      → Apart f l.programs
  apart_in f one i h n j k m e =
      let a : i + 1 - 1 ≡ i = omega arith in
      let b : j + 1 - 1 ≡ j = omega arith in
      let x = ap (λ (y : ℕ). f (held l y)) a in
      omega (
        arith,
        one (i + 1) (j + 1) (omega arith, omega arith) (omega arith, omega arith) (λ z. n (sym x ∙ z))
            (ap (λ (y : ℕ). f (held l y)) b ∙ e ∙ sym x),
      )

  names_in : Apart name_key l.programs
  names_in = apart_in name_key (λ p q P Q n e.
      let u = key-used (at (book_of l) p) n in
      let w = key-used (at (book_of l) q) (λ z. n (sym e ∙ z)) in
      c.names.distinct p q P Q u w
      (code-name (at (book_of l) p).name (at (book_of l) q).name (c.names.lawful p P u) (c.names.lawful q Q w)
      (sym (used-key (at (book_of l) p) u) ∙ sym e ∙ used-key (at (book_of l) q) w)))

  sons-in : Apart son_key l.programs
  unfolding son_key
  sons-in = apart_in son_key (λ p q P Q n e.
      c.whys.once p q (son_of (why_of (book_of l) p)) P Q (key-son (why_of (book_of l) p) n)
      (key-son (why_of (book_of l) q) (λ z. n (sym e ∙ z)) ∙ ap Son e))

  places-in : Held (User (book_of l)) l.tracks
  places-in = record {
    own = λ i k. let a : i < l.tracks.count = omega (arith, c.limits.first) in sym (holder-at l i a) ∙ c.system.below i a k;
    others = λ i a b. subst (User (book_of l)) (holder-at l i a)
        (record { low = other i a b (dec_le (suc (holder_of (book_of l) i)) system); used = c.users.hold i a });
    blank = λ i h k. c.blank.tracks i k;
  }
    where
      other : (i : ℕ) → i < l.tracks.count → l.tracks.system ≤ i → Dec (holder_of (book_of l) i < system) → holder_of (book_of l) i < system
      other i a b (yes y) = y
      other i a b (no y) = absurd (omega (arith, c.system.just i a (omega (arith, y, c.limits.holder i a))))

  numbers-in : Numbered l.numbers.count (User (book_of l)) l.numbers.resources
  numbers-in = record {
    ours = λ i a.
        let o : Ours (book_of l) (i + 1) = (omega arith, omega arith) in
        let e : i + 1 - 1 ≡ i = omega arith in
        subst (Sits (User (book_of l))) (number_of l (i + 1) o ∙ ap (λ (k : ℕ). get_or l.numbers.resources k free) e)
        (record {
          owner = record { low = omega (arith, c.limits.owner (i + 1) o); used = c.users.own (i + 1) o };
          locker = record { low = omega (arith, c.limits.locker (i + 1) o); used = c.users.lock (i + 1) o };
          program = λ z. omega (arith, c.limits.locker (i + 1) o);
          clear = c.unlocked.clear (i + 1) o;
        });
    rest = λ i h k.
        let e : i + 1 - 1 ≡ i = omega arith in
        let f = ap (λ (k : ℕ). get_or l.numbers.resources k free) (sym e) ∙ c.blank.numbers (i + 1) (omega arith) in
        (ap (λ (y : Resource). y.owner) f, ap (λ (y : Resource). y.lock) f);
  }

  passed : Passed l
  passed = record {
    sizes = record {
      tracks = record { least = c.limits.some; most = c.limits.most; part = c.limits.first };
      few = c.limits.few;
      time = c.limits.time;
      earliest = c.limits.earliest;
      latest = c.limits.latest;
    };
    roster = roster-of l (places-from (λ i. Trim l.clock.ticks (held l i)) trim-in)
        (places-from (λ i. suits (book_of l) (i + 1) (held l i).state (held l i).why ≡ true) suits-in) names_in sons-in;
    places = places-in;
    counts = numbers-in;
  }

-- and back, for arrays of their lengths
module _ (l : Ledger) (H : length (places l.tracks) ≡ 256) (N : length l.numbers.resources ≡ 16) (t : Passed l) where
  is-trim : (p : ℕ) → Known p → Trim l.clock.ticks (at (book_of l) p)
  is-trim p P = roster-trim l t.roster (p - 1) (omega arith)

  fitting : (p : ℕ) → Known p → suits (book_of l) p (state_of (book_of l) p) (why_of (book_of l) p) ≡ true
  fitting p P =
      let e : p - 1 + 1 ≡ p = omega arith in
      subst (λ (q : ℕ). suits (book_of l) q (state_of (book_of l) p) (why_of (book_of l) p) ≡ true) e
      (roster-suits l t.roster (p - 1) (omega arith))

  names_of : Names (book_of l)
  names_of = record {
    lawful = λ p P. (is-trim p P).named;
    distinct = λ p q P Q u w n.
        let k = used-key (at (book_of l) p) u in
        let one : p - 1 ≡ q - 1 = apart-one name_key l.programs t.roster.names (p - 1) (q - 1) (omega arith) (omega arith)
        (λ z. code-some (at (book_of l) p).name (sym k ∙ z))
        (k ∙ ap name_code n ∙ sym (used-key (at (book_of l) q) w)) in
        omega arith;
  }

  zeros_of : test_zeros (book_of l) ≡ true
  unfolding test_zeros
  zeros_of =
      program-is (book_of l) (λ p r. (r.used || zeros r) && (not (eqb r.due 0) || eqb r.interval 0)) (λ p P.
      let r = is-trim p P in
      and (or (at (book_of l) p).used (zeros (at (book_of l) p)) r.empty)
      (implies (eqb (at (book_of l) p).due 0) (eqb (at (book_of l) p).interval 0)
      (λ z. eq-eqb (at (book_of l) p).interval 0 (r.timed.timeless (eqb-true (at (book_of l) p).due 0 z)))))

  whys-of : Whys (book_of l)
  unfolding son_key
  whys-of = record {
    fitting = fitting;
    once = λ p q k P Q h j.
        let K : Known k = son-known (book_of l) p (state_of (book_of l) p) k
        (subst (λ (w : Why). suits (book_of l) p (state_of (book_of l) p) w ≡ true) h (fitting p P)) in
        let sp : son_of (why_of (book_of l) p) ≡ k = ap son_of h in
        let sq : son_of (why_of (book_of l) q) ≡ k = ap son_of j in
        let one : p - 1 ≡ q - 1 =
        apart-one son_key l.programs t.roster.sons (p - 1) (q - 1) (omega arith) (omega arith) (λ z. omega (arith, K.0))
        (sp ∙ sym sq) in
        omega arith;
  }

  -- a track is the system's, or held by one who may
  system-of : System (book_of l)
  system-of = record { below = λ i h k. holder-at l i h ∙ t.places.own i k; just = λ i h k. go i h k (dec_le (suc i) l.tracks.system) }
    where
      go : (i : ℕ) → i < l.tracks.count → holder_of (book_of l) i ≡ system → Dec (i < l.tracks.system) → i < l.tracks.system
      go i h k (yes y) = y
      go i h k (no y) = absurd (omega (arith, (t.places.others i h (omega (arith, y))).low, holder-at l i h))

  holder_in : (i : ℕ) → i < l.tracks.count
      → (holder_of (book_of l) i ≤ system) × (Known (holder_of (book_of l) i) → (at (book_of l) (holder_of (book_of l) i)).used ≡ true)
  holder_in i h = go (dec_le (suc i) l.tracks.system)
    where
      go : Dec (i < l.tracks.system)
          → (holder_of (book_of l) i ≤ system) × (Known (holder_of (book_of l) i) → (at (book_of l) (holder_of (book_of l) i)).used ≡ true)
      go (yes y) = let e = holder-at l i h ∙ t.places.own i y in (omega arith, λ P. absurd (omega (arith, P.1)))
      go (no y) =
          let u = subst (User (book_of l)) (sym (holder-at l i h)) (t.places.others i h (omega (arith, y))) in
          (omega (arith, u.low), u.used)

  number : (r : ℕ) → Ours (book_of l) r → Sits (User (book_of l)) (number_at (book_of l).resources r)
  number r o = subst (Sits (User (book_of l))) (sym (number_of l r o)) (t.counts.ours (r - 1) (omega arith))

  blank_of : Blank l
  blank_of = record { tracks = λ i h. tracks i h (dec_le (suc i) 256); numbers = λ r h. numbers r h (dec_le r 16) }
    where
      tracks : (i : ℕ) → l.tracks.count ≤ i → Dec (i < 256) → get_or (places l.tracks) i nobody ≡ nobody
      tracks i h (yes y) = t.places.blank i y h
      tracks i h (no y) = get_or-eq_default (places l.tracks) nobody {n = i} (omega (arith, y))

      numbers : (r : ℕ) → l.numbers.count < r → Dec (r ≤ 16) → number_at l.numbers.resources r ≡ free
      numbers r h (yes y) = let e = t.counts.rest (r - 1) (omega arith) (omega arith) in λ i. record { owner = e.0 i; lock = e.1 i }
      numbers r h (no y) = get_or-eq_default l.numbers.resources free {n = r - 1} (omega (arith, y))

  limits_of : Limits (book_of l)
  limits_of = record {
    some = t.sizes.tracks.least;
    most = t.sizes.tracks.most;
    first = t.sizes.tracks.part;
    few = t.sizes.few;
    time = t.sizes.time;
    earliest = t.sizes.earliest;
    latest = t.sizes.latest;
    priority = λ p P. (is-trim p P).priority;
    holder = λ i h. (holder_in i h).0;
    owner = λ r o. omega (arith, (number r o).owner.low);
    locker = λ r o. omega (arith, (number r o).locker.low, (number r o).program);
  }

  pub book-yes : true ≡ test_book l
  book-yes = sym (test_of l (record {
    names = names_of;
    zeros = zeros_of;
    whys = whys-of;
    marks = record { waiters = λ p P. (is-trim p P).waiter };
    system = system-of;
    users = record {
      hold = λ i h. (holder_in i h).1;
      own = λ r o. (number r o).owner.used;
      lock = λ r o. (number r o).locker.used;
    };
    unlocked = record { clear = λ r o. (number r o).clear };
    blank = blank_of;
    limits = limits_of;
    dues = record {
      above = λ p P. (is-trim p P).timed.above;
      near = λ p P. (is-trim p P).timed.near;
      steps = λ p P. (is-trim p P).timed.steps;
    };
  }))

pub book-no : (l : Ledger) → (Passed l → ⊥) → false ≡ test_book l
book-no l f = yes_or_no (test_book l) (λ e. absurd (f (passed l (clauses-of l e)))) sym
