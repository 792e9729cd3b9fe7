-- The states of programs after events by which programs take one of some states: the waking of a list, by which they take state 1 or 6, and
-- a tick, by which they take state 1. Such events name, in a list, those who do; after them a program is in one of these states if it is in
-- that list, and else in the state that it was in. And what a deed of one program does to the states.
-- Assumes nothing.
use Prim.Native.Nat.{ℕ, ◌≤◌}
use native.Mathlib.Omega.{arith}
use native.Mathlib.Decide.{ℕ_discrete}
use mathlib.Core.Path.{◌≡◌, refl, ap, ◌∙◌}
use mathlib.Core.Logic.{◌≢◌}
use mathlib.Core.Bool.{Bool, true, false, cond, ◌||◌}
use mathlib.Core.List.{List, [], ◌∷◌, ◌++◌, map}
use lib.ListN.{length}
use lib.Dec.{eqb}
use Rattle.lists.specs.Lists.{same, count, keep, join}
use Rattle.lists.proofs.Laws.{same_refl, same-eq}
use Rattle.records.specs.declared.Program.{Program}
use Rattle.records.specs.declared.Resource.{Resource}
use Rattle.records.specs.declared.Why.TheVariants.{Nothing}
use Rattle.records.specs.Records.{Known}
use Rattle.rules.specs.Book.{Book, at, state_of}
use Rattle.rules.specs.Plans.{Deed, becomes, Event, on, clocked, numbered, wake}
use Rattle.rules.specs.Rules.{ticked}
use Rattle.rules.specs.Keeper.{Keeper, State, step, play}
use Rattle.rules.proofs.shared.Deeds.{made, turned-each, step-turned}

-- a deed of p
module _ (K : Keeper) (p : ℕ) (P : Known p) (d : Deed) (t : State K) (L : length t.book.programs ≡ 32) where
  state-here : state_of (step K (on p d) t).book p ≡ (made d (at t.book p)).state
  state-here = ap (λ r. r.state) (step-turned K p P d t L).here

  state-there : (x : ℕ) → Known x → x ≢ p → state_of (step K (on p d) t).book x ≡ state_of t.book x
  state-there x X n = ap (λ r. r.state) ((step-turned K p P d t L).rest x X n)

  state-stays : ((r : Program) → (made d r).state ≡ r.state) → (x : ℕ) → Known x → state_of (step K (on p d) t).book x ≡ state_of t.book x
  state-stays f = turned-each (step-turned K p P d t L) (λ x r. r.state ≡ state_of t.book x) (f (at t.book p)) (λ x X n. refl)

-- events by which just those of a list take one of the states U, and none another state
pub data Rise (U : ℕ → Bool) : List Event → List ℕ → Type 0 where
  none : Rise U [] []
  rises : {p : ℕ} {d : Deed} {es : List Event} {c : List ℕ} → Known p → ((r : Program) → U (made d r).state ≡ true) → Rise U es c
      → Rise U (on p d ∷ es) (p ∷ c)
  stays : {p : ℕ} {d : Deed} {es : List Event} {c : List ℕ} → Known p → ((r : Program) → (made d r).state ≡ r.state) → Rise U es c
      → Rise U (on p d ∷ es) c
  clocks : {n : ℕ} {es : List Event} {c : List ℕ} → Rise U es c → Rise U (clocked n ∷ es) c
  numbers : {r : List Resource} {es : List Event} {c : List ℕ} → Rise U es c → Rise U (numbered r ∷ es) c

-- the states that the woken take, and the one that a tick gives
abbrev pub up : ℕ → Bool
up s = eqb s 1 || eqb s 6

abbrev pub runs : ℕ → Bool
runs s = eqb s 1

sent-up : (mark : Bool) → up (cond mark 6 1) ≡ true
sent-up true = refl
sent-up false = refl

pub wake-rises : (c : List ℕ) → ((x : ℕ) → 1 ≤ count x c → Known x) → Rise up (wake c) c
wake-rises [] f = none
wake-rises (q ∷ qs) f =
    rises (f q (omega (arith, same_refl q))) (λ r. sent-up r.suspend) (wake-rises qs (λ x h. f x (omega arith)))

pub tick-rises : (b : Book) (c : List ℕ) → ((x : ℕ) → 1 ≤ count x c → Known x)
    → Rise runs (join (map (λ p. ticked p (at b p)) c)) (keep (λ p. eqb (state_of b p) 0) c)
tick-rises b [] f = none
tick-rises b (q ∷ qs) f = stays Q (λ r. refl) (go (eqb (state_of b q) 0) (tick-rises b qs (λ x h. f x (omega arith))))
  where
    Q : Known q
    Q = f q (omega (arith, same_refl q))

    go : (t : Bool) → Rise runs (join (map (λ p. ticked p (at b p)) qs)) (keep (λ p. eqb (state_of b p) 0) qs)
        → Rise runs (cond t (on q (becomes 1 Nothing) ∷ []) [] ++ join (map (λ p. ticked p (at b p)) qs))
        (cond t (q ∷ keep (λ p. eqb (state_of b p) 0) qs) (keep (λ p. eqb (state_of b p) 0) qs))
    go true r = rises Q (λ r. refl) r
    go false r = r

-- the states after them
module _ (K : Keeper) (U : ℕ → Bool) (x : ℕ) (X : Known x) where
  pub rise-out : {es : List Event} {c : List ℕ} → Rise U es c → (t : State K) → length t.book.programs ≡ 32 → count x c ≡ 0
      → state_of (play K es t).book x ≡ state_of t.book x
  unfolding step
  rise-out none t L n = refl
  rise-out (rises {p} {d} P f r) t L n =
      rise-out r (step K (on p d) t) (step-turned K p P d t L).long (omega arith)
      ∙ state-there K p P d t L x X (λ e. omega (arith, same_refl x, ap (same x) e))
  rise-out (stays {p} {d} P f r) t L n = rise-out r (step K (on p d) t) (step-turned K p P d t L).long n ∙ state-stays K p P d t L f x X
  rise-out (clocks {n = m} r) t L n = rise-out r (step K (clocked m) t) L n
  rise-out (numbers {r = m} r) t L n = rise-out r (step K (numbered m) t) L n

  pub rise-in : {es : List Event} {c : List ℕ} → Rise U es c → (t : State K) → length t.book.programs ≡ 32 → 1 ≤ count x c
      → U (state_of (play K es t).book x) ≡ true
  unfolding step
  rise-in none t L n = absurd (omega arith)
  rise-in (rises {p} {d} {es} {c} P f r) t L n = go (ℕ_discrete (count x c) 0) (rise-in r u M)
    where
      u : State K
      u = step K (on p d) t

      M : length u.book.programs ≡ 32
      M = (step-turned K p P d t L).long

      go : Dec (count x c ≡ 0) → (1 ≤ count x c → U (state_of (play K es u).book x) ≡ true) → U (state_of (play K es u).book x) ≡ true
      go (no z) ih = ih (omega (arith, z))
      go (yes z) ih =
          ap U (rise-out r u M z ∙ ap (state_of u.book) (same-eq x p (omega arith)) ∙ state-here K p P d t L) ∙ f (at t.book p)
  rise-in (stays {p} {d} P f r) t L n = rise-in r (step K (on p d) t) (step-turned K p P d t L).long n
  rise-in (clocks {n = m} r) t L n = rise-in r (step K (clocked m) t) L n
  rise-in (numbers {r = m} r) t L n = rise-in r (step K (numbered m) t) L n
