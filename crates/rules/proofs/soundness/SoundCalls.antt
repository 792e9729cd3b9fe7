-- Every call of the running program keeps soundness, each for its own reason: the tracks that it takes were nobody's, those that it gives
-- were its own or everybody's, the son that it awaits was dormant so that nobody awaited it, the timer that it sets is within bounds, the
-- number that it alters is one of ours.
-- Assumes nothing.
use Prim.Native.Nat.{ℕ, ◌+◌, ◌*◌, ◌≤◌}
use native.Mathlib.Omega.{arith}
use mathlib.Core.Path.{◌≡◌, refl, sym, ap, ◌∙◌}
use mathlib.Core.Logic.{◌≢◌}
use mathlib.Core.Bool.{Bool, true, false, cond, ◌&&◌, ◌||◌}
use mathlib.Core.List.{[], ◌∷◌}
use lib.ListN.{drop}
use lib.Dec.{leb, ltb, eqb}
use borrow.Author.Tests.{leb-true, ltb-true}
use Rattle.lists.specs.Lists.{count, first, from, up_to}
use Rattle.lists.proofs.Laws.{first-in, from_in}
use Rattle.lists.proofs.Tests.{both, up_to-true, up_to-is}
use Rattle.clock.specs.Clock.{unit, farthest}
use Rattle.records.specs.declared.Program.{Program}
use Rattle.records.specs.declared.Resource.{Resource}
use Rattle.records.specs.declared.Why.TheVariants.{Nothing, Tracks, Son, Lock, Number}
use Rattle.records.specs.Records.{Known, in_state}
use Rattle.records.specs.Numbers.{globally, number_at, with_number}
use Rattle.tracks.specs.Tracks.{nobody, everybody, system, run, lowest, filled, replaced}
use Rattle.tracks.proofs.Holders.{Runs, runs-drop, lowest-runs}
use Rattle.rules.specs.Book.{at, state_of, why_of}
use Rattle.rules.specs.Requests.{Call, EXEC4, EXEC15, EXEC5, EXEC16, EXEC5ALL, EXEC6, EXEC7, EXEC11, EXEC9}
use Rattle.rules.specs.Requests.{EXEC10, EXEC12, ALLOC, LOCK, CLEAR, FREE}
use Rattle.rules.specs.Plans.{becomes, timed, on, numbered}
use Rattle.rules.specs.Rules.{takes, gives, call, frees, clears, ends_in, ends}
use Rattle.rules.specs.Keeper.{lists, State, step, play, view}
use Rattle.rules.specs.Sound.{Sound}
use Rattle.rules.proofs.shared.Deeds.{Turned, turned-each, step-turned}
use Rattle.rules.proofs.soundness.Fine.{Sonny, Tracked, Owned, Numbered, Fine}
use Rattle.rules.proofs.soundness.Apt.{tracked-map, fine-on, fine-held, fine-numbered}
use Rattle.rules.proofs.soundness.Making.{Childless, nothing-childless, apt-state, apt-timed}
use Rattle.rules.proofs.soundness.Passing.{Passes, nobody-passes, tracked-filled, tracked-replaced, owned-free, numbered-with}
use Rattle.rules.proofs.soundness.Waking.{Callable}
use Rattle.rules.proofs.soundness.Ending.{end-fine}
use Rattle.rules.proofs.shared.Walk.{by-need, by-either, by-found, by-inside, by-allocated}
use Rattle.rules.proofs.soundness.Keeping.{Keeps, Caller, strict, refusing, InUse, before, keeps, keeps-named}
use Rattle.rules.proofs.soundness.Keeping.{become-fine, keeps-waits, held-wake, numbered-wake}

-- whys other than a son
tracks-childless : (n : ℕ) → Childless (Tracks n)
tracks-childless n k e = let o : ◌≡◌ {A = ℕ} 0 1 = cc in omega arith

lock-childless : (r : ℕ) → Childless (Lock r)
lock-childless r k e = let o : ◌≡◌ {A = ℕ} 0 1 = cc in omega arith

number-childless : Childless Number
number-childless k e = let o : ◌≡◌ {A = ℕ} 0 1 = cc in omega arith

-- units
unit-each : (Q : ℕ → Type 0) → Q 1 → Q 100 → Q 6_000 → Q 360_000 → (n : ℕ) → Q (unit n)
unit-each Q h k l m n = go (eqb n 1) (eqb n 2) (eqb n 3)
  where
    go : (x y z : Bool) → Q (cond x 1 (cond y 100 (cond z 6_000 360_000)))
    go true y z = h
    go false true z = k
    go false false true = l
    go false false false = m

unit-far : (m n : ℕ) → m ≤ 4095 → m * unit n ≤ farthest
unit-far m n l = unit-each (λ u. m * u ≤ farthest) (omega arith) (omega arith) (omega arith) (omega arith) n

unit-some : (m n : ℕ) → 1 ≤ m → 1 ≤ m * unit n
unit-some m n l = unit-each (λ u. 1 ≤ m * u) (omega arith) (omega arith) (omega arith) (omega arith) n

module _ (a : State lists) (S : Sound a) where
  passes : (p : ℕ) → Caller a p → Passes (InUse a) p
  passes p C = (λ h n. C.used, omega (arith, C.known.1))

  all-passes : Passes (InUse a) everybody
  all-passes = (λ h. absurd (omega (arith, h.1)), omega arith)

  -- EXEC 4 and 15
  keeps-takes : (p : ℕ) → Caller a p → (h n w : ℕ) → Passes (InUse a) h → Keeps a (takes (view lists a) p h n w)
  unfolding takes step
  keeps-takes p C h n w k =
      by-need (refusing a S) (up_to 1 a.book.tracks n && leb w 1) 3 0 _ refl λ e.
      let N = (both (up_to 1 a.book.tracks n) (leb w 1) e).0 in
      let l = up_to-true 1 a.book.tracks n N in
      by-found (refusing a S) (lowest n 0 a.book.holders) _ _
      (λ i j.
      let R : Runs nobody i n a.book.holders = lowest-runs n a.book.holders i l.0 j in
      keeps a S _
      (fine-held (strict a) (filled i n h a.book.holders) a (before a S)
      (tracked-filled (InUse a) a.book.tracks a.book.system a.book.holders nobody i n h (before a S).tracked R
      (λ v. omega arith) k)))
      (keeps-waits a S p C w 5 (Tracks n) N (tracks-childless n) (λ v. omega arith))

  -- EXEC 5 and 16
  keeps-gives : (h n start : ℕ) → h ≢ system → Keeps a (gives (view lists a) h n start)
  unfolding gives
  keeps-gives h n start d =
      by-need (refusing a S) (leb 1 n && leb (start + n) a.book.tracks) 3 0 _ refl λ e.
      by-need (refusing a S) (run h n (drop start a.book.holders)) 9 0 _ refl λ f.
      let l = leb-true 1 n (both (leb 1 n) (leb (start + n) a.book.tracks) e).0 in
      keeps a S _ (held-wake a S (filled start n nobody a.book.holders) (frees n)
      (tracked-filled (InUse a) a.book.tracks a.book.system a.book.holders h start n nobody (before a S).tracked
      (runs-drop h start n a.book.holders l f) d (nobody-passes (InUse a))))

  all-given : (p : ℕ) → Caller a p → Tracked (InUse a) a.book.tracks a.book.system (replaced p nobody a.book.holders)
  all-given p C =
      tracked-replaced p (omega (arith, C.known.1)) (tracked-map (λ h H u n. u) (before a S).tracked)

  -- EXEC 9: the son, dormant till now, is scheduled, and its father waits
  father-fine : (p q : ℕ) → Caller a p → Callable a.book.programs q → state_of a.book q ≡ 0
      → Fine (strict a) (play lists (on q (becomes 1 Nothing) ∷ on p (becomes 3 (Son q)) ∷ []) a)
  father-fine p q C Q z =
      fine-on (strict a) p C.known (becomes 3 (Son q)) b B
      (apt-state (strict a) b B p C.known used 3 (Son q) refl (λ k e. sonny k (cc)) (λ k w e W n i. only k w (cc) W i)
      (λ m v i. omega arith))
    where
      F : Fine (strict a) a
      F = before a S

      b : State lists
      b = step lists (on q (becomes 1 Nothing)) a

      B : Fine (strict a) b
      B = become-fine a S q Q 1 Nothing refl nothing-childless (λ i. omega arith)

      T : Turned q (in_state 1 Nothing (at a.book q)) a.book.programs b.book.programs
      T = step-turned lists q Q.0 (becomes 1 Nothing) a F.order.long

      other : q ≢ p
      other i = omega (arith, z, C.runs, ap (state_of a.book) i)

      used : (at b.book p).used ≡ true
      used = ap (λ (r : Program). r.used) (T.rest p C.known (λ i. other (sym i))) ∙ C.used

      sonny : (k : ℕ) → q ≡ k → Sonny 0 b.book.programs p k
      sonny k e = rw (← e) (record {
        known = Q.0;
        other = other;
        used = λ n. ap (λ (r : Program). r.used) T.here ∙ Q.1;
        awake = λ n i. omega (arith, ap (λ (r : Program). r.state) T.here, i);
      })

      only : (k w : ℕ) → q ≡ k → Known w → why_of b.book w ≡ Son k → ⊥
      only k w e W =
          turned-each T (λ w r. r.why ≡ Son k → ⊥) (nothing-childless k)
          (λ w W n i. (F.sons w q W (i ∙ ap Son (sym e))).awake (λ j. omega (arith, j, Q.0.0)) z) w W

  -- EXEC 12
  timer-fine : (q : ℕ) → Callable a.book.programs q → (res mult off : ℕ) → mult ≤ 4095 → 1 ≤ off → off ≤ 4095
      → Fine (strict a) (play lists (on q (timed (a.book.clock + off * unit res) (mult * unit res)) ∷ []) a)
  timer-fine q Q res mult off l m n =
      fine-on (strict a) q Q.0 (timed (a.book.clock + off * unit res) (mult * unit res)) a (before a S)
      (apt-timed (strict a) a (before a S) q Q.0 Q.1 (a.book.clock + off * unit res) (mult * unit res) (record {
        timeless = λ i. absurd (omega (arith, i, unit-some off res m));
        above = λ i. omega (arith, unit-some off res m);
        near = λ i. omega (arith, unit-far off res n);
        steps = unit-far mult res l;
      }))

  -- one number is another's
  number-fine : (r o l : ℕ) → 1 ≤ r → r ≤ a.book.numbers → Owned (InUse a) (record { owner = o; lock = l })
      → Numbered (InUse a) a.book.numbers (with_number r o l a.book.resources)
  number-fine r o l h k u = numbered-with (InUse a) a.book.numbers a.book.resources r o l (before a S).numbered h k u

  owned-new : (p : ℕ) → Caller a p → (g : Bool) → Owned (InUse a) (record { owner = cond g globally p; lock = 0 })
  owned-new p C true = record {
    owner = λ h. absurd (omega (arith, h.1));
    locker = λ h. absurd (omega (arith, h.0));
    clear = λ e. refl;
    high = omega arith;
    most = omega arith;
  }
  owned-new p C false = record {
    owner = λ h n. C.used;
    locker = λ h. absurd (omega (arith, h.0));
    clear = λ e. refl;
    high = omega (arith, C.known.1);
    most = omega arith;
  }

  -- the owner stays; the lock is the caller's, or goes
  module _ (r : ℕ) (h : 1 ≤ r) (k : r ≤ a.book.numbers) where
    owned-locked : (p : ℕ) → Caller a p → 1 ≤ (number_at a.book.resources r).owner
        → Owned (InUse a) (record { owner = (number_at a.book.resources r).owner; lock = p })
    owned-locked p C l =
        let O = (before a S).numbered.each r h k in
        record { owner = O.owner; locker = λ v n. C.used; clear = λ e. absurd (omega (arith, e)); high = O.high; most = C.known.1 }

    owned-cleared : Owned (InUse a) (record { owner = (number_at a.book.resources r).owner; lock = 0 })
    owned-cleared =
        let O = (before a S).numbered.each r h k in
        record { owner = O.owner; locker = λ v. absurd (omega (arith, v.0)); clear = λ e. refl; high = O.high; most = omega arith }

  pub keeps-call : (p : ℕ) → Caller a p → (q : Call) → Keeps a (call (view lists a) p q)
  unfolding call step ends_in
  keeps-call p C (EXEC4 n w) = keeps-takes p C p n w (passes p C)
  keeps-call p C (EXEC15 n w) = keeps-takes p C everybody n w all-passes
  keeps-call p C (EXEC5 n start) = keeps-gives p n start (λ e. omega (arith, e, C.known.1))
  keeps-call p C (EXEC16 n start) = keeps-gives everybody n start (λ e. omega arith)
  keeps-call p C EXEC5ALL =
      keeps a S _ (held-wake a S (replaced p nobody a.book.holders) (frees (count p a.book.holders)) (all-given p C))
  keeps-call p C EXEC6 = keeps a S _ (end-fine a.book.clock a (before a S) (ends (view lists a) p 0) C.known C.used)
  keeps-call p C EXEC7 = keeps a S _ (become-fine a S p (C.known, C.used) 6 Nothing refl nothing-childless (λ e. omega arith))
  keeps-call p C EXEC11 = keeps a S _ (before a S)
  keeps-call p C (EXEC9 nm) = keeps-named a S nm _ λ q Q. by-inside (refusing a S) _ q 0 _ λ z. keeps a S _ (father-fine p q C Q z)
  keeps-call p C (EXEC10 nm) =
      keeps-named a S nm _ λ q Q. by-inside (refusing a S) _ q 0 _ λ z.
      keeps a S _ (become-fine a S q Q 1 Nothing refl nothing-childless (λ e. omega arith))
  keeps-call p C (EXEC12 nm res mult off) =
      by-need (refusing a S) (up_to 1 4 res && leb mult 4095 && up_to 1 4095 off) 3 0 _ refl λ e. keeps-named a S nm _ λ q Q.
      let h = both (up_to 1 4 res && leb mult 4095) (up_to 1 4095 off) e in
      let m = leb-true mult 4095 (both (up_to 1 4 res) (leb mult 4095) h.0).1 in
      let o = up_to-true 1 4095 off h.1 in
      keeps a S _ (timer-fine q Q res mult off m o.0 o.1)
  keeps-call p C (ALLOC g w) =
      let f : ℕ → Bool = λ r. eqb (number_at a.book.resources r).owner 0 in
      let r : ℕ = first f (from 1 a.book.numbers) in
      by-need (refusing a S) (leb w 1) 3 0 _ refl λ e. by-either (refusing a S) (ltb 0 r) _ _
      (λ l.
      let h = from_in r 1 a.book.numbers (first-in f (from 1 a.book.numbers) (ltb-true 0 r l)) in
      keeps a S _ (fine-numbered (strict a) (with_number r (cond g globally p) 0 a.book.resources) a (before a S)
      (number-fine r (cond g globally p) 0 h.0 (omega (arith, h.1)) (owned-new p C g))))
      (keeps-waits a S p C w 3 Number refl number-childless (λ v. omega arith))
  keeps-call p C (LOCK r w) =
      by-need (refusing a S) (leb w 1) 3 0 _ refl λ e. by-allocated (refusing a S) _ r _ λ h k l.
      let x : Resource = number_at a.book.resources r in
      by-either (refusing a S) (eqb x.lock p) _ _ (λ v. keeps a S _ (before a S))
      (by-either (refusing a S) (eqb x.lock 0) _ _
      (λ v. keeps a S _ (fine-numbered (strict a) (with_number r x.owner p a.book.resources) a (before a S)
      (number-fine r x.owner p h k (owned-locked r h k p C l))))
      (keeps-waits a S p C w 3 (Lock r) (up_to-is 1 a.book.numbers r h k) (lock-childless r) (λ v. omega arith)))
  keeps-call p C (CLEAR r) =
      by-allocated (refusing a S) _ r _ λ h k l.
      let x : Resource = number_at a.book.resources r in
      by-either (refusing a S) (eqb x.lock 0) _ _ (λ v. keeps a S _ (before a S))
      (by-need (refusing a S) (eqb x.lock p) 9 0 _ refl λ v.
      keeps a S _ (numbered-wake a S (with_number r x.owner 0 a.book.resources) (clears r false)
      (number-fine r x.owner 0 h k (owned-cleared r h k))))
  keeps-call p C (FREE r) =
      by-allocated (refusing a S) _ r _ λ h k l.
      let x : Resource = number_at a.book.resources r in
      by-need (refusing a S) ((eqb x.owner p || eqb x.owner globally) && (eqb x.lock p || eqb x.lock 0)) 9 0 _ refl λ v.
      keeps a S _ (numbered-wake a S (with_number r 0 0 a.book.resources) (clears r true) (number-fine r 0 0 h k (owned-free (InUse a))))
