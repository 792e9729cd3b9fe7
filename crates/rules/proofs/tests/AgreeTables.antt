-- The tests of chains, tracks, numbers and limits say what their clauses say, both ways.
-- Assumes nothing.
use Prim.Native.Nat.{ℕ, ◌≤◌, ◌<◌}
use native.Mathlib.Omega.{arith}
use mathlib.Core.Path.{◌≡◌, refl, sym, ◌∙◌, subst}
use mathlib.Core.Bool.{Bool, true, false, not, ◌&&◌, ◌||◌, beq}
use mathlib.Core.List.{List, [], ◌∷◌}
use lib.ListN.{get_or}
use lib.Dec.{leb, ltb, eqb}
use borrow.Author.Tests.{eq-eqb, ne_eqb, eqb-true, leb-true, le-leb, ltb-true, lt-ltb}
use Rattle.lists.specs.Lists.{same, count, every, from, up_to, Ascending}
use Rattle.lists.proofs.Laws.{count-from, from_in}
use Rattle.lists.proofs.Tests.{false-true, clash, both, and, unless, implies, every_in, every-is, up_to-true, up_to-is}
use Rattle.clock.specs.Clock.{ceiling}
use Rattle.records.specs.declared.Program.{Program}
use Rattle.records.specs.Records.{Known, known}
use Rattle.records.specs.Numbers.{globally, number_at}
use Rattle.tracks.specs.Tracks.{system}
use Rattle.rules.specs.Book.{Book, at, state_of, prio_of, holder_of}
use Rattle.rules.specs.Sound.{Ours, Chains, System, Users, Unlocked, Limits}
use Rattle.rules.specs.Test.{programs, tracks, numbers, rising, used, test_chains, test_system, test_users, test_unlocked, test_limits}
use Rattle.rules.proofs.shared.Places.{known-true, known_is}
use Rattle.rules.proofs.tests.Agree.{program-in, program-is, track-in, track-is, number_in, number_is, yes_or_no}

-- chains
rising-true : (pr : ℕ → ℕ) (c : List ℕ) → rising pr c ≡ true → Ascending (λ p q. pr p ≤ pr q) c
rising-true pr [] e = tt
rising-true pr (q ∷ qs) e =
    let b = both (every (λ r. leb (pr q) (pr r)) qs) (rising pr qs) e in
    (λ r h. leb-true (pr q) (pr r) (every_in (λ r. leb (pr q) (pr r)) qs b.0 r h), rising-true pr qs b.1)

rising-is : (pr : ℕ → ℕ) (c : List ℕ) → Ascending (λ p q. pr p ≤ pr q) c → rising pr c ≡ true
rising-is pr [] A = refl
rising-is pr (q ∷ qs) A = and (every-is (λ r. leb (pr q) (pr r)) qs (λ r h. le-leb (pr q) (pr r) (A.0 r h))) (rising-is pr qs A.1)

listed : List (List ℕ) → ℕ → ℕ → Program → Bool
listed m s p r = eqb (count p (get_or m s [])) (same r.state s)

chain : Book → List (List ℕ) → ℕ → Bool
unfolding listed
chain b m s = programs b (listed m s) && every known (get_or m s []) && rising (prio_of b) (get_or m s [])

pub chains-clause : (b : Book) (m : List (List ℕ)) → test_chains b m ≡ true → Chains b m
unfolding test_chains chain listed
chains-clause b m e = record {
  member = λ s p l h P. eqb-true (count p (get_or m s [])) (same (state_of b p) s) (program-in b (listed m s) (fore s l h).0 p P);
  within = λ s p l h k. known-true p (every_in known (get_or m s []) (fore s l h).1 p k);
  rising = λ s l h. rising-true (prio_of b) (get_or m s []) (here s l h).1;
}
  where
    here : (s : ℕ) → 1 ≤ s → s < 7
        → ((programs b (listed m s) && every known (get_or m s [])) ≡ true) × (rising (prio_of b) (get_or m s []) ≡ true)
    here s l h = both (programs b (listed m s) && every known (get_or m s [])) (rising (prio_of b) (get_or m s []))
        (every_in (chain b m) (from 1 6) e s (omega (arith, count-from s 1 6 l (omega arith))))

    fore : (s : ℕ) → 1 ≤ s → s < 7 → (programs b (listed m s) ≡ true) × (every known (get_or m s []) ≡ true)
    fore s l h = both (programs b (listed m s)) (every known (get_or m s [])) (here s l h).0

pub chains-test : (b : Book) (m : List (List ℕ)) → Chains b m → test_chains b m ≡ true
unfolding test_chains chain listed
chains-test b m C =
    every-is (chain b m) (from 1 6) (λ s k.
    let l : 1 ≤ s = (from_in s 1 6 k).0 in
    let h : s < 7 = omega (arith, (from_in s 1 6 k).1) in
    and
    (and
    (program-is b (listed m s) (λ p P. eq-eqb (count p (get_or m s [])) (same (state_of b p) s) (C.member s p l h P)))
    (every-is known (get_or m s []) (λ p i. known_is p (C.within s p l h i))))
    (rising-is (prio_of b) (get_or m s []) (C.rising s l h)))

-- the system's tracks
beq-true : (x y : Bool) → beq x y ≡ true → x ≡ y
beq-true true true e = refl
beq-true true false e = false-true e
beq-true false true e = false-true e
beq-true false false e = refl

beq-is : (x : Bool) → beq x x ≡ true
beq-is true = refl
beq-is false = refl

pub system-clause : (b : Book) → test_system b ≡ true → System b
unfolding test_system
system-clause b e = record {
  below = λ i h k. eqb-true (holder_of b i) system (sym (here i h) ∙ lt-ltb i b.system k);
  just = λ i h k. ltb-true i b.system (here i h ∙ eq-eqb (holder_of b i) system k);
}
  where
    here : (i : ℕ) → i < b.tracks → ltb i b.system ≡ eqb (holder_of b i) system
    here i h = beq-true (ltb i b.system) (eqb (holder_of b i) system)
        (track-in b (λ i h. beq (ltb i b.system) (eqb h system)) e i h)

pub system-test : (b : Book) → System b → test_system b ≡ true
unfolding test_system
system-test b S =
    track-is b (λ i h. beq (ltb i b.system) (eqb h system)) (λ i h.
    subst (λ (x : Bool). beq (ltb i b.system) x ≡ true) (one i h) (beq-is (ltb i b.system)))
  where
    one : (i : ℕ) → i < b.tracks → ltb i b.system ≡ eqb (holder_of b i) system
    one i h = yes_or_no (ltb i b.system)
        (λ k. k ∙ sym (eq-eqb (holder_of b i) system (S.below i h (ltb-true i b.system k))))
        (λ k. k ∙ sym (ne_eqb (holder_of b i) system (λ w. clash (lt-ltb i b.system (S.just i h w)) k)))

-- holders, owners and lockers
used-true : (b : Book) (p : ℕ) → used b p ≡ true → Known p → (at b p).used ≡ true
used-true b p e P = unless (known p) (at b p).used e (known_is p P)

used-is : (b : Book) (p : ℕ) → (Known p → (at b p).used ≡ true) → used b p ≡ true
used-is b p h = implies (known p) (at b p).used (λ k. h (known-true p k))

pub users-clause : (b : Book) → test_users b ≡ true → Users b
unfolding test_users
users-clause b e = record {
  hold = λ i h. used-true b (holder_of b i) (track-in b (λ i h. used b h) parts.0 i h);
  own = λ r h. used-true b (number_at b.resources r).owner (here r h).0;
  lock = λ r h. used-true b (number_at b.resources r).lock (here r h).1;
}
  where
    parts : (tracks b (λ i h. used b h) ≡ true) × (numbers b (λ x. used b x.owner && used b x.lock) ≡ true)
    parts = both (tracks b (λ i h. used b h)) (numbers b (λ x. used b x.owner && used b x.lock)) e

    here : (r : ℕ) → Ours b r → (used b (number_at b.resources r).owner ≡ true) × (used b (number_at b.resources r).lock ≡ true)
    here r h = both (used b (number_at b.resources r).owner) (used b (number_at b.resources r).lock)
        (number_in b (λ x. used b x.owner && used b x.lock) parts.1 r h)

pub users-test : (b : Book) → Users b → test_users b ≡ true
unfolding test_users
users-test b U =
    and (track-is b (λ i h. used b h) (λ i h. used-is b (holder_of b i) (U.hold i h)))
    (number_is b (λ x. used b x.owner && used b x.lock) (λ r h.
    and (used-is b (number_at b.resources r).owner (U.own r h)) (used-is b (number_at b.resources r).lock (U.lock r h))))

-- free numbers
pub unlocked-clause : (b : Book) → test_unlocked b ≡ true → Unlocked b
unfolding test_unlocked
unlocked-clause b e = record {
  clear = λ r h z. eqb-true (number_at b.resources r).lock 0
      (unless (eqb (number_at b.resources r).owner 0) (eqb (number_at b.resources r).lock 0)
      (number_in b (λ x. not (eqb x.owner 0) || eqb x.lock 0) e r h) (eq-eqb (number_at b.resources r).owner 0 z));
}

pub unlocked-test : (b : Book) → Unlocked b → test_unlocked b ≡ true
unfolding test_unlocked
unlocked-test b U =
    number_is b (λ x. not (eqb x.owner 0) || eqb x.lock 0) (λ r h.
    implies (eqb (number_at b.resources r).owner 0) (eqb (number_at b.resources r).lock 0) (λ z.
    eq-eqb (number_at b.resources r).lock 0 (U.clear r h (eqb-true (number_at b.resources r).owner 0 z))))

-- the limits
pub limits-clause : (b : Book) → test_limits b ≡ true → Limits b
unfolding test_limits
limits-clause b e =
    let sized = up_to 1 256 b.tracks && leb b.system b.tracks && leb b.numbers 16 in
    let begun = sized && leb b.clock ceiling && up_to 1970 2099 b.year in
    let placed = begun && programs b (λ p r. leb r.priority 32767) in
    let b6 = both (placed && tracks b (λ i h. leb h system)) (numbers b (λ x. leb x.owner globally && leb x.lock 32)) e in
    let b5 = both placed (tracks b (λ i h. leb h system)) b6.0 in
    let b4 = both begun (programs b (λ p r. leb r.priority 32767)) b5.0 in
    let by = both (sized && leb b.clock ceiling) (up_to 1970 2099 b.year) b4.0 in
    let b3 = both sized (leb b.clock ceiling) by.0 in
    let b2 = both (up_to 1 256 b.tracks && leb b.system b.tracks) (leb b.numbers 16) b3.0 in
    let b1 = both (up_to 1 256 b.tracks) (leb b.system b.tracks) b2.0 in
    record {
      some = (up_to-true 1 256 b.tracks b1.0).0;
      most = (up_to-true 1 256 b.tracks b1.0).1;
      first = leb-true b.system b.tracks b1.1;
      few = leb-true b.numbers 16 b2.1;
      time = leb-true b.clock ceiling b3.1;
      earliest = (up_to-true 1970 2099 b.year by.1).0;
      latest = (up_to-true 1970 2099 b.year by.1).1;
      priority = λ p P. leb-true (prio_of b p) 32767 (program-in b (λ p r. leb r.priority 32767) b4.1 p P);
      holder = λ i h. leb-true (holder_of b i) system (track-in b (λ i h. leb h system) b5.1 i h);
      owner = λ r h. leb-true (number_at b.resources r).owner globally
          (both (leb (number_at b.resources r).owner globally) (leb (number_at b.resources r).lock 32)
          (number_in b (λ x. leb x.owner globally && leb x.lock 32) b6.1 r h)).0;
      locker = λ r h. leb-true (number_at b.resources r).lock 32
          (both (leb (number_at b.resources r).owner globally) (leb (number_at b.resources r).lock 32)
          (number_in b (λ x. leb x.owner globally && leb x.lock 32) b6.1 r h)).1;
    }

pub limits-test : (b : Book) → Limits b → test_limits b ≡ true
unfolding test_limits
limits-test b L =
    and (and (and (and (and (and (and
    (up_to-is 1 256 b.tracks L.some L.most)
    (le-leb b.system b.tracks L.first))
    (le-leb b.numbers 16 L.few))
    (le-leb b.clock ceiling L.time))
    (up_to-is 1970 2099 b.year L.earliest L.latest))
    (program-is b (λ p r. leb r.priority 32767) (λ p P. le-leb (prio_of b p) 32767 (L.priority p P))))
    (track-is b (λ i h. leb h system) (λ i h. le-leb (holder_of b i) system (L.holder i h))))
    (number_is b (λ x. leb x.owner globally && leb x.lock 32) (λ r h.
    and (le-leb (number_at b.resources r).owner globally (L.owner r h)) (le-leb (number_at b.resources r).lock 32 (L.locker r h))))
