-- Each test of soundness says what its clause says, both ways: a test of every program, track or number is taken
-- apart into the clause's words "for every".
-- Assumes nothing.
use Prim.Native.Nat.{ℕ, ◌+◌, ◌-◌, ◌≤◌, ◌<◌}
use native.Mathlib.Omega.{arith}
use mathlib.Core.Path.{◌≡◌, refl, sym, ap, ◌∙◌, subst}
use mathlib.Core.Logic.{◌≢◌}
use mathlib.Core.Bool.{Bool, true, false, not, ◌&&◌, ◌||◌}
use mathlib.Core.List.{List}
use lib.ListN.{get_or}
use lib.Dec.{leb, ltb, eqb}
use borrow.Author.Tests.{not-true, eq-eqb, ne_eqb, eqb-true, eqb-false, leb-true, le-leb, ltb-true, lt-ltb}
use Rattle.lists.specs.Lists.{alike}
use Rattle.lists.proofs.Tests.{false-true, clash, both, and, unless, implies, otherwise, or, along-in, along-is, alike-true, alike_refl}
use Rattle.clock.specs.Clock.{farthest}
use Rattle.records.specs.declared.Program.{Program}
use Rattle.records.specs.declared.Resource.{Resource}
use Rattle.records.specs.declared.Why.{Why}
use Rattle.records.specs.declared.Why.TheVariants.{Nothing, Tracks, Son, Lock, Number}
use Rattle.records.specs.Names.{legal}
use Rattle.records.specs.Records.{Known, known, missing, unused, in_wait}
use Rattle.records.specs.Numbers.{free, number_at}
use Rattle.tracks.specs.Tracks.{nobody}
use Rattle.rules.specs.Book.{Book, at, state_of, why_of, holder_of}
use Rattle.rules.specs.Sound.{Ours, Names, Zeros, suits, Whys, Marks, Dues}
use Rattle.rules.specs.Test.{programs, tracks, numbers, nothing, son_of, zeros, test_names, test_zeros, test_whys, test_marks}
use Rattle.rules.specs.Test.{test_dues}
use Rattle.rules.proofs.shared.Places.{known-true}

-- every program, track and number
pub program-in : (b : Book) (f : ℕ → Program → Bool) → programs b f ≡ true → (p : ℕ) → Known p → f p (at b p) ≡ true
program-in b f e p P =
    ap (λ (x : ℕ). f x (at b p)) (omega arith) ∙ along-in missing f 1 32 b.programs e (p - 1) (omega arith)

pub program-is : (b : Book) (f : ℕ → Program → Bool) → ((p : ℕ) → Known p → f p (at b p) ≡ true) → programs b f ≡ true
program-is b f h =
    along-is missing f 1 32 b.programs
    (λ k l. ap (λ (x : ℕ). f (k + 1) (get_or b.programs x missing)) (omega arith) ∙ h (k + 1) (omega arith, omega arith))

pub track-in : (b : Book) (f : ℕ → ℕ → Bool) → tracks b f ≡ true → (i : ℕ) → i < b.tracks → f i (holder_of b i) ≡ true
track-in b f e i h = ap (λ (x : ℕ). f x (holder_of b i)) (omega arith) ∙ along-in nobody f 0 b.tracks b.holders e i h

pub track-is : (b : Book) (f : ℕ → ℕ → Bool) → ((i : ℕ) → i < b.tracks → f i (holder_of b i) ≡ true) → tracks b f ≡ true
track-is b f h = along-is nobody f 0 b.tracks b.holders (λ i l. ap (λ (x : ℕ). f x (holder_of b i)) (omega arith) ∙ h i l)

pub number_in : (b : Book) (f : Resource → Bool) → numbers b f ≡ true → (r : ℕ) → Ours b r → f (number_at b.resources r) ≡ true
number_in b f e r h = along-in free (λ r x. f x) 1 b.numbers b.resources e (r - 1) (omega arith)

pub number_is : (b : Book) (f : Resource → Bool) → ((r : ℕ) → Ours b r → f (number_at b.resources r) ≡ true) → numbers b f ≡ true
number_is b f h =
    along-is free (λ r x. f x) 1 b.numbers b.resources
    (λ k l. ap (λ (x : ℕ). f (get_or b.resources x free)) (omega arith) ∙ h (k + 1) (omega arith, omega arith))

-- a test is passed or failed
pub yes_or_no : (a : Bool) {A : Type 0} → (a ≡ true → A) → (a ≡ false → A) → A
yes_or_no true f g = f refl
yes_or_no false f g = g refl

-- names
distinctly : ℕ → Program → ℕ → Program → Bool
distinctly p r q s = eqb p q || not s.used || not (alike r.name s.name)

distinct-true : (b : Book) (p q : ℕ) → distinctly p (at b p) q (at b q) ≡ true → (at b q).used ≡ true → (at b p).name ≡ (at b q).name → p ≡ q
unfolding distinctly
distinct-true b p q e u n = yes_or_no (eqb p q) (eqb-true p q) (λ w.
    let z : not (at b q).used ≡ false = ap not u in
    let k : alike (at b p).name (at b q).name ≡ true =
    subst (λ (x : List ℕ). alike (at b p).name x ≡ true) n (alike_refl (at b p).name) in
    let m : not (alike (at b p).name (at b q).name) ≡ true =
    otherwise (eqb p q || not (at b q).used) (not (alike (at b p).name (at b q).name)) e (rw (w, z)) in
    clash m (ap not k))

distinct-is : (b : Book) (p q : ℕ) → ((at b q).used ≡ true → (at b p).name ≡ (at b q).name → p ≡ q) → distinctly p (at b p) q (at b q) ≡ true
unfolding distinctly
distinct-is b p q h =
    or (eqb p q || not (at b q).used) (not (alike (at b p).name (at b q).name))
    (λ e. yes_or_no (alike (at b p).name (at b q).name)
    (λ k. go (eqb p q) (at b q).used refl refl e k)
    (λ k. ap not k))
  where
    go : (x y : Bool) → eqb p q ≡ x → (at b q).used ≡ y → (x || not y) ≡ false → alike (at b p).name (at b q).name ≡ true
        → not (alike (at b p).name (at b q).name) ≡ true
    go true y i j e k = false-true (sym e)
    go false false i j e k = false-true (sym e)
    go false true i j e k = absurd (eqb-false p q i (h j (alike-true (at b p).name (at b q).name k)))

named-well : Book → ℕ → Program → Bool
unfolding distinctly
named-well b p r = legal r.name && programs b (distinctly p r)

pub names-clause : (b : Book) → test_names b ≡ true → Names b
unfolding test_names named-well distinctly
names-clause b e = record {
  lawful = λ p P u. (here p P u).0;
  distinct = λ p q P Q u w n. distinct-true b p q (program-in b (distinctly p (at b p)) (here p P u).1 q Q) w n;
}
  where
    here : (p : ℕ) → Known p → (at b p).used ≡ true → (legal (at b p).name ≡ true) × (programs b (distinctly p (at b p)) ≡ true)
    here p P u =
        both (legal (at b p).name) (programs b (distinctly p (at b p)))
        (unless (at b p).used (named-well b p (at b p)) (program-in b (λ p r. not r.used || named-well b p r) e p P) u)

pub names-test : (b : Book) → Names b → test_names b ≡ true
unfolding test_names named-well distinctly
names-test b N =
    program-is b (λ p r. not r.used || named-well b p r) (λ p P.
    implies (at b p).used (named-well b p (at b p)) (λ u.
    and (N.lawful p P u) (program-is b (distinctly p (at b p)) (λ q Q. distinct-is b p q (λ w n. N.distinct p q P Q u w n)))))

-- zeros
nothing-true : (w : Why) → nothing w ≡ true → w ≡ Nothing
nothing-true Nothing e = refl
nothing-true (Tracks n) e = false-true e
nothing-true (Son k) e = false-true e
nothing-true (Lock r) e = false-true e
nothing-true Number e = false-true e

zeros-true : (r : Program) → zeros r ≡ true → r.used ≡ false → r ≡ unused
zeros-true r e u =
    let b6 =
    both (alike r.name unused.name && eqb r.priority 0 && eqb r.state 0 && nothing r.why && eqb r.due 0 && eqb r.interval 0)
    (not r.suspend) e in
    let b5 = both (alike r.name unused.name && eqb r.priority 0 && eqb r.state 0 && nothing r.why && eqb r.due 0)
    (eqb r.interval 0) b6.0 in
    let b4 = both (alike r.name unused.name && eqb r.priority 0 && eqb r.state 0 && nothing r.why)
    (eqb r.due 0) b5.0 in
    let b3 = both (alike r.name unused.name && eqb r.priority 0 && eqb r.state 0) (nothing r.why) b4.0 in
    let b2 = both (alike r.name unused.name && eqb r.priority 0) (eqb r.state 0) b3.0 in
    let b1 = both (alike r.name unused.name) (eqb r.priority 0) b2.0 in
    let e1 = alike-true r.name unused.name b1.0 in
    let e2 = eqb-true r.priority 0 b1.1 in
    let e3 = eqb-true r.state 0 b2.1 in
    let e4 = nothing-true r.why b3.1 in
    let e5 = eqb-true r.due 0 b4.1 in
    let e6 = eqb-true r.interval 0 b5.1 in
    let e7 = not-true r.suspend b6.1 in
    λ i. record { used = u i; name = e1 i; priority = e2 i; state = e3 i; why = e4 i; due = e5 i; interval = e6 i; suspend = e7 i }

tidy : Program → Bool
tidy r = (r.used || zeros r) && (not (eqb r.due 0) || eqb r.interval 0)

pub zeros-clause : (b : Book) → test_zeros b ≡ true → Zeros b
unfolding test_zeros tidy
zeros-clause b e = record {
  empty = λ p P u. zeros-true (at b p) (otherwise (at b p).used (zeros (at b p)) (here p P).0 u) u;
  timeless = λ p P z.
      eqb-true (at b p).interval 0 (unless (eqb (at b p).due 0) (eqb (at b p).interval 0) (here p P).1 (eq-eqb (at b p).due 0 z));
}
  where
    here : (p : ℕ) → Known p → (((at b p).used || zeros (at b p)) ≡ true) × ((not (eqb (at b p).due 0) || eqb (at b p).interval 0) ≡ true)
    here p P = both ((at b p).used || zeros (at b p)) (not (eqb (at b p).due 0) || eqb (at b p).interval 0)
        (program-in b (λ p r. tidy r) e p P)

pub zeros-test : (b : Book) → Zeros b → test_zeros b ≡ true
unfolding test_zeros tidy
zeros-test b Z =
    program-is b (λ p r. tidy r) (λ p P.
    and
    (or (at b p).used (zeros (at b p)) (λ u. ap zeros (Z.empty p P u)))
    (implies (eqb (at b p).due 0) (eqb (at b p).interval 0)
    (λ z. eq-eqb (at b p).interval 0 (Z.timeless p P (eqb-true (at b p).due 0 z)))))

-- whys
awaits-one : ℕ → Program → ℕ → Program → Bool
awaits-one p r q s = eqb p q || not (eqb (son_of r.why) (son_of s.why))

waits-well : Book → ℕ → Program → Bool
unfolding awaits-one
waits-well b p r = suits b p r.state r.why && (eqb (son_of r.why) 0 || programs b (awaits-one p r))

-- what suits of a son
pub record Suited (b : Book) (p s k : ℕ) : Type 0 where
  pub general : eqb s 3 ≡ true
  pub known : known k ≡ true
  pub used : (at b k).used ≡ true
  pub awake : not (eqb (state_of b k) 0) ≡ true
  pub other : not (eqb k p) ≡ true

pub suited : (b : Book) (p s k : ℕ) → suits b p s (Son k) ≡ true → Suited b p s k
suited b p s k e =
    let h₄ = both (eqb s 3 && known k && (at b k).used && not (eqb (state_of b k) 0)) (not (eqb k p)) e in
    let h₃ = both (eqb s 3 && known k && (at b k).used) (not (eqb (state_of b k) 0)) h₄.0 in
    let h₂ = both (eqb s 3 && known k) (at b k).used h₃.0 in
    let h₁ = both (eqb s 3) (known k) h₂.0 in
    record { general = h₁.0; known = h₁.1; used = h₂.1; awake = h₃.1; other = h₄.1 }

pub son-known : (b : Book) (p s k : ℕ) → suits b p s (Son k) ≡ true → Known k
son-known b p s k e = known-true k (suited b p s k e).known

-- who has a son number has that son
son-why : (w : Why) (k : ℕ) → 1 ≤ k → son_of w ≡ k → w ≡ Son k
son-why Nothing k h e = absurd (omega arith)
son-why (Tracks n) k h e = absurd (omega arith)
son-why (Son j) k h e = ap Son e
son-why (Lock r) k h e = absurd (omega arith)
son-why Number k h e = absurd (omega arith)

pub whys-clause : (b : Book) → test_whys b ≡ true → Whys b
unfolding test_whys waits-well awaits-one
whys-clause b e = record {
  fitting = λ p P. (here p P).0;
  once = λ p q k P Q h j.
      let K : Known k = son-known b p (state_of b p) k (subst (λ (w : Why). suits b p (state_of b p) w ≡ true) h (here p P).0) in
      let sp : son_of (why_of b p) ≡ k = ap son_of h in
      let sq : son_of (why_of b q) ≡ k = ap son_of j in
      let n : eqb (son_of (why_of b p)) 0 ≡ false = ne_eqb (son_of (why_of b p)) 0 (λ w. omega (arith, K.0)) in
      let t : awaits-one p (at b p) q (at b q) ≡ true =
      program-in b (awaits-one p (at b p))
      (otherwise (eqb (son_of (why_of b p)) 0) (programs b (awaits-one p (at b p))) (here p P).1 n) q Q in
      yes_or_no (eqb p q) (eqb-true p q) (λ w.
      clash (otherwise (eqb p q) (not (eqb (son_of (why_of b p)) (son_of (why_of b q)))) t w)
      (ap not (eq-eqb (son_of (why_of b p)) (son_of (why_of b q)) (sp ∙ sym sq))));
}
  where
    here : (p : ℕ) → Known p
        → (suits b p (state_of b p) (why_of b p) ≡ true) × ((eqb (son_of (why_of b p)) 0 || programs b (awaits-one p (at b p))) ≡ true)
    here p P =
        both (suits b p (state_of b p) (why_of b p)) (eqb (son_of (why_of b p)) 0 || programs b (awaits-one p (at b p)))
        (program-in b (waits-well b) e p P)

pub whys-test : (b : Book) → Whys b → test_whys b ≡ true
unfolding test_whys waits-well awaits-one
whys-test b W =
    program-is b (waits-well b) (λ p P.
    and (W.fitting p P)
    (or (eqb (son_of (why_of b p)) 0) (programs b (awaits-one p (at b p))) (λ n.
    let l : 1 ≤ son_of (why_of b p) = omega (arith, eqb-false (son_of (why_of b p)) 0 n) in
    program-is b (awaits-one p (at b p)) (λ q Q.
    or (eqb p q) (not (eqb (son_of (why_of b p)) (son_of (why_of b q)))) (λ w.
    ap not (ne_eqb (son_of (why_of b p)) (son_of (why_of b q)) (λ s.
    eqb-false p q w
    (W.once p q (son_of (why_of b p)) P Q (son-why (why_of b p) (son_of (why_of b p)) l refl)
    (son-why (why_of b q) (son_of (why_of b p)) l (sym s))))))))))

-- marks
marked-well : Program → Bool
marked-well r = not r.suspend || in_wait r.state

pub marks-clause : (b : Book) → test_marks b ≡ true → Marks b
unfolding test_marks marked-well
marks-clause b e =
    record { waiters = λ p P u. unless (at b p).suspend (in_wait (state_of b p)) (program-in b (λ p r. marked-well r) e p P) u }

pub marks-test : (b : Book) → Marks b → test_marks b ≡ true
unfolding test_marks marked-well
marks-test b M = program-is b (λ p r. marked-well r) (λ p P. implies (at b p).suspend (in_wait (state_of b p)) (M.waiters p P))

-- dues
in-time : Book → Program → Bool
in-time b r = ltb b.clock r.due && leb r.due (b.clock + farthest)

timed-well : Book → Program → Bool
unfolding in-time
timed-well b r = (eqb r.due 0 || in-time b r) && leb r.interval farthest

pub dues-clause : (b : Book) → test_dues b ≡ true → Dues b
unfolding test_dues timed-well in-time
dues-clause b e = record {
  above = λ p P n. ltb-true b.clock (at b p).due (timely p P n).0;
  near = λ p P n. leb-true (at b p).due (b.clock + farthest) (timely p P n).1;
  steps = λ p P. leb-true (at b p).interval farthest (here p P).1;
}
  where
    here : (p : ℕ) → Known p → ((eqb (at b p).due 0 || in-time b (at b p)) ≡ true) × (leb (at b p).interval farthest ≡ true)
    here p P = both (eqb (at b p).due 0 || in-time b (at b p)) (leb (at b p).interval farthest)
        (program-in b (λ p r. timed-well b r) e p P)

    timely : (p : ℕ) → Known p → (at b p).due ≢ 0 → (ltb b.clock (at b p).due ≡ true) × (leb (at b p).due (b.clock + farthest) ≡ true)
    timely p P n =
        both (ltb b.clock (at b p).due) (leb (at b p).due (b.clock + farthest))
        (otherwise (eqb (at b p).due 0) (in-time b (at b p)) (here p P).0 (ne_eqb (at b p).due 0 n))

pub dues-test : (b : Book) → Dues b → test_dues b ≡ true
unfolding test_dues timed-well in-time
dues-test b D =
    program-is b (λ p r. timed-well b r) (λ p P.
    and
    (or (eqb (at b p).due 0) (in-time b (at b p)) (λ n.
    and (lt-ltb b.clock (at b p).due (D.above p P (eqb-false (at b p).due 0 n)))
    (le-leb (at b p).due (b.clock + farthest) (D.near p P (eqb-false (at b p).due 0 n)))))
    (le-leb (at b p).interval farthest (D.steps p P)))
