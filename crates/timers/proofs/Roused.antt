-- How many programs so many ticks start is a difference of the states before and after: who was dormant and is scheduled. Each starts once at
-- most, since who is not dormant keeps its state.
-- Assumes nothing.
use Prim.Native.Nat.{ℕ, zero, suc, ◌+◌, ◌-◌, ◌≤◌, ◌<◌}
use native.Mathlib.Omega.{arith}
use mathlib.Core.Path.{◌≡◌, refl, sym, ap, ◌∙◌}
use mathlib.Core.Logic.{◌≢◌}
use mathlib.Core.Bool.{Bool, true, false, cond, ◌&&◌}
use lib.ListN.{length}
use lib.Dec.{eqb}
use borrow.Author.Tests.{eq-eqb, ne_eqb, eqb-true}
use Rattle.lists.specs.Lists.{hit, keep}
use Rattle.lists.proofs.Tests.{both}
use Rattle.clock.specs.Clock.{ceiling}
use Rattle.records.specs.declared.Program.{Program}
use Rattle.records.specs.Records.{all}
use Rattle.rules.specs.Book.{Book, at, state_of}
use Rattle.rules.specs.Requests.{TICK}
use Rattle.rules.specs.Keeper.{lists, State, after}
use Rattle.rules.specs.Sound.{Sound}
use Rattle.rules.specs.Counts.{roused}
use Rattle.rules.proofs.soundness.SoundRuns.{sound-after}
use Rattle.timers.specs.Inner.{falls_due, starts, struck, starters, moved_to, ticks_on, started_on}
use Rattle.timers.proofs.Striking.{struck-by, struck-not, starts_by, starts-not}
use Rattle.timers.proofs.Moves.{keep-none, moved_at, sound-timely, tick-value, tick-moved}
use Rattle.timers.proofs.Sleepers.{keep-sum}

-- the state of a record after a move: scheduled where it starts, and else as it was
struck-state : (now : ℕ) (r : Program) → (struck now r).state ≡ cond (starts now r) 1 r.state
struck-state now r = go (falls_due now r) refl (eqb r.state 0) refl
  where
    by : (x : Bool) → starts now r ≡ x → cond x 1 r.state ≡ cond (starts now r) 1 r.state
    by x e = ap (λ (b : Bool). cond b 1 r.state) (sym e)

    go : (f : Bool) → falls_due now r ≡ f → (s : Bool) → eqb r.state 0 ≡ s → (struck now r).state ≡ cond (starts now r) 1 r.state
    go true e true s = ap (λ (x : Program). x.state) (struck-by now r e s) ∙ by true (starts_by now r e s)
    go true e false s = ap (λ (x : Program). x.state) (struck-by now r e s) ∙ by false (starts_by now r e s)
    go false e t s = ap (λ (x : Program). x.state) (struck-not now r e) ∙ by false (starts-not now r e)

-- who starts is dormant
starts-asleep : (now : ℕ) (r : Program) → starts now r ≡ true → eqb r.state 0 ≡ true
unfolding starts
starts-asleep now r e = (both (falls_due now r) (eqb r.state 0) e).1

moved-state : (now : ℕ) (a : State lists) (p : ℕ) → state_of (moved_to now a).book p ≡ cond (starts now (at a.book p)) 1 (state_of a.book p)
moved-state now a p = ap (λ (r : Program). r.state) (moved_at now a.book.programs (p - 1)) ∙ struck-state now (at a.book p)

-- a tick
module _ (a : State lists) (S : Sound a) (below : a.book.clock < ceiling) (p : ℕ) where
  tick-state : state_of (after lists a TICK).book p ≡ cond (starts (a.book.clock + 1) (at a.book p)) 1 (state_of a.book p)
  tick-state =
      ap (λ (x : State lists). state_of x.book p) (tick-moved a (sound-timely a S) below) ∙ moved-state (a.book.clock + 1) a p

  tick-keeps : state_of a.book p ≢ 0 → state_of (after lists a TICK).book p ≡ state_of a.book p
  tick-keeps n = tick-state ∙ go (starts (a.book.clock + 1) (at a.book p)) refl
    where
      go : (b : Bool) → starts (a.book.clock + 1) (at a.book p) ≡ b → cond b 1 (state_of a.book p) ≡ state_of a.book p
      go true e = absurd (n (eqb-true (state_of a.book p) 0 (starts-asleep (a.book.clock + 1) (at a.book p) e)))
      go false e = refl

-- who is not dormant keeps its state
pub ticks-keep : (n : ℕ) (a : State lists) → Sound a → a.book.clock + n ≤ ceiling → (p : ℕ) → state_of a.book p ≢ 0
    → state_of (ticks_on n a).book p ≡ state_of a.book p
unfolding ticks_on
ticks-keep zero a S h p k = refl
ticks-keep (suc n) a S h p k =
    let e = tick-keeps a S (omega arith) p k in
    let c : (after lists a TICK).book.clock ≡ a.book.clock + 1 =
    ap (λ (x : State lists). x.book.clock) (tick-moved a (sound-timely a S) (omega arith)) in
    ticks-keep n (after lists a TICK) (sound-after a S TICK) (omega (arith, c)) p (λ z. k (sym e ∙ z)) ∙ e

-- of the states s before, t after the first tick and u at the end, where b tells whether the program started with that tick
split : (s t u : ℕ) (b : Bool) → (b ≡ true → eqb s 0 ≡ true) → t ≡ cond b 1 s → (t ≢ 0 → u ≡ t)
    → hit b + hit (eqb t 0 && eqb u 1) ≡ hit (eqb s 0 && eqb u 1)
split s t u true f e k =
    let i : u ≡ 1 = k (λ z. omega (arith, e)) ∙ e in
    (λ j. 1 + hit (ne_eqb t 0 (λ z. omega (arith, e)) j && eqb u 1)) ∙ sym (λ j. hit (f refl j && eq-eqb u 1 i j))
split s t u false f e k = (λ j. 0 + hit (eqb (e j) 0 && eqb u 1)) ∙ omega arith

-- who was dormant and is scheduled
roused-keep : (b c : Book) → roused b c ≡ length (keep (λ p. eqb (state_of b p) 0 && eqb (state_of c p) 1) all)
unfolding roused all
roused-keep b c = refl

-- HOW MANY THEY START
pub started-roused : (n : ℕ) (a : State lists) → Sound a → a.book.clock + n ≤ ceiling
    → started_on n a ≡ roused a.book (ticks_on n a).book
unfolding ticks_on started_on starters
started-roused zero a S h = sym (roused-keep a.book a.book ∙ ap length (keep-none (λ p. eqb (state_of a.book p) 0 && eqb (state_of a.book p) 1) all (λ z. neither (state_of a.book z))))
  where
    neither : (s : ℕ) → (eqb s 0 && eqb s 1) ≡ false
    neither s = go (eqb s 0) refl
      where
        go : (b : Bool) → eqb s 0 ≡ b → (b && eqb s 1) ≡ false
        go true e = ne_eqb s 1 (λ i. omega (arith, eqb-true s 0 e))
        go false e = refl
started-roused (suc n) a S h =
    let c : (after lists a TICK).book.clock ≡ a.book.clock + 1 =
    ap (λ (x : State lists). x.book.clock) (tick-moved a (sound-timely a S) (omega arith)) in
    let A : Sound (after lists a TICK) = sound-after a S TICK in
    omega (
      arith,
      roused-keep a.book (ticks_on n (after lists a TICK)).book,
      roused-keep (after lists a TICK).book (ticks_on n (after lists a TICK)).book,
      tick-value a (sound-timely a S) (omega arith),
      started-roused n (after lists a TICK) A (omega (arith, c)),
      keep-sum (λ p. starts (a.book.clock + 1) (at a.book p))
          (λ p. eqb (state_of (after lists a TICK).book p) 0 && eqb (state_of (ticks_on n (after lists a TICK)).book p) 1)
          (λ p. eqb (state_of a.book p) 0 && eqb (state_of (ticks_on n (after lists a TICK)).book p) 1) all
          (λ p. split (state_of a.book p) (state_of (after lists a TICK).book p) (state_of (ticks_on n (after lists a TICK)).book p)
          (starts (a.book.clock + 1) (at a.book p)) (starts-asleep (a.book.clock + 1) (at a.book p)) (tick-state a S (omega arith) p)
          (ticks-keep n (after lists a TICK) A (omega (arith, c)) p)),
    )
