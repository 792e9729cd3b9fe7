-- The tick keeps soundness. Between its events a due may lie at the new clock itself, or one tick further than allowed before: those
-- programs are still to come, each once, with their records untouched. When all have come no due lies at the clock.
-- Assumes nothing.
use Prim.Native.Nat.{ℕ, ◌+◌, ◌≤◌, ◌<◌}
use native.Mathlib.Omega.{arith}
use native.Mathlib.Decide.{ℕ_discrete}
use mathlib.Core.Path.{◌≡◌, refl, sym, ap, ◌∙◌}
use mathlib.Core.Logic.{◌≢◌}
use mathlib.Core.Bool.{Bool, true, false, cond}
use mathlib.Core.List.{List, [], ◌∷◌, ◌++◌, map}
use lib.Dec.{eqb}
use borrow.Author.Tests.{eqb-true, eqb-false}
use Rattle.lists.specs.Lists.{same, count, keep, join}
use Rattle.lists.proofs.Laws.{same_refl, same-ne, count-keep, keep-in, keep-le}
use Rattle.clock.specs.Clock.{ceiling, farthest}
use Rattle.records.specs.declared.Program.{Program}
use Rattle.records.specs.declared.Why.TheVariants.{Nothing}
use Rattle.records.specs.Records.{Known, all, in_state, with_timer}
use Rattle.rules.specs.Book.{Book, at, state_of}
use Rattle.rules.specs.Plans.{becomes, timed, on, clocked}
use Rattle.rules.specs.Rules.{due_at, ticked}
use Rattle.rules.specs.Keeper.{lists, State, step, play}
use Rattle.rules.proofs.shared.Places.{all_one, all_once, all_in}
use Rattle.rules.proofs.shared.Deeds.{Turned, step-turned}
use Rattle.rules.proofs.soundness.Fine.{Slack, exact, Timer, right-timed, Fine, used-if, fine-anew}
use Rattle.rules.proofs.soundness.Apt.{fine-on}
use Rattle.rules.proofs.soundness.Making.{apt-scheduled, apt-timed}

-- the clock stands at c + 1, and the dues are still as at c
abbrev ticking : ℕ → Slack
ticking c = record { son = 0; user = 0; clock = c + 1; low = c; high = c + 1 + farthest }

tick-start : (a : State lists) → Fine (exact a.book.clock) a → a.book.clock < ceiling
    → Fine (ticking a.book.clock) (step lists (clocked (a.book.clock + 1)) a)
unfolding step
tick-start a F l =
    fine-anew (exact a.book.clock) (ticking a.book.clock) a (a.book.clock + 1) a.book.holders a.book.resources F
    (λ z Z. let t = (F.right z Z).timer in right-timed _ _ _ _ _ _ _ (F.right z Z) (record {
      timeless = t.timeless;
      above = t.above;
      near = λ n. omega (arith, t.near n);
      steps = t.steps;
    })) F.sons F.tracked F.numbered refl (omega arith)

tick-end : (c : ℕ) (a : State lists) → Fine (ticking c) a → ((z : ℕ) → Known z → (at a.book z).due ≢ c + 1) → Fine (exact (c + 1)) a
tick-end c a F f =
    fine-anew (ticking c) (exact (c + 1)) a a.book.clock a.book.holders a.book.resources F
    (λ z Z. let t = (F.right z Z).timer in right-timed _ _ _ _ _ _ _ (F.right z Z) (record {
      timeless = t.timeless;
      above = λ n. omega (arith, t.above n, f z Z);
      near = λ n. omega (arith, t.near n);
      steps = t.steps;
    })) F.sons F.tracked F.numbered F.now F.time

-- the programs of l are still to come; b is the book before
record Midway (c : ℕ) (b : Book) (l : List ℕ) (t : State lists) : Type 0 where
  fine : Fine (ticking c) t
  known : (z : ℕ) → 1 ≤ count z l → Known z
  due : (z : ℕ) → 1 ≤ count z l → (at b z).due ≡ c + 1
  once : (z : ℕ) → count z l ≤ 1
  still : (z : ℕ) → 1 ≤ count z l → at t.book z ≡ at b z
  moved : (z : ℕ) → Known z → count z l ≡ 0 → (at t.book z).due ≢ c + 1

module _ (c : ℕ) (b : Book) where
  -- p has come
  midway-next : (p : ℕ) (l : List ℕ) (t u : State lists) → Midway c b (p ∷ l) t → Fine (ticking c) u → (at u.book p).due ≢ c + 1
      → ((z : ℕ) → Known z → z ≢ p → at u.book z ≡ at t.book z) → Midway c b l u
  midway-next p l t u M F d O = record {
    fine = F;
    known = λ z h. M.known z (omega arith);
    due = λ z h. M.due z (omega arith);
    once = λ z. omega (arith, M.once z);
    still = λ z h. O z (M.known z (omega arith)) (λ e. omega (arith, M.once z, same_refl z, ap (same z) e)) ∙ M.still z (omega arith);
    moved = λ z Z h. go z Z h (ℕ_discrete z p);
  }
    where
      go : (z : ℕ) → Known z → count z l ≡ 0 → Dec (z ≡ p) → (at u.book z).due ≢ c + 1
      go z Z h (yes e) w = d (ap (λ (x : ℕ). (at u.book x).due) (sym e) ∙ w)
      go z Z h (no n) w = M.moved z Z (omega (arith, same-ne z p n)) (ap (λ (r : Program). r.due) (sym (O z Z n)) ∙ w)

  -- p's timer moves on, or goes
  next : ℕ → ℕ
  next p = cond (eqb (at b p).interval 0) 0 ((at b p).due + (at b p).interval)

  next-timer : (p : ℕ) → (at b p).due ≡ c + 1 → (at b p).interval ≤ farthest → Timer c (c + 1 + farthest) (next p) (at b p).interval
  unfolding next
  next-timer p d l = go (eqb (at b p).interval 0) refl
    where
      go : (x : Bool) → eqb (at b p).interval 0 ≡ x
          → Timer c (c + 1 + farthest) (cond x 0 ((at b p).due + (at b p).interval)) (at b p).interval
      go true e = record {
        timeless = λ i. eqb-true (at b p).interval 0 e;
        above = λ n. absurd (n refl);
        near = λ n. absurd (n refl);
        steps = l;
      }
      go false e = record { timeless = λ i. absurd (omega arith); above = λ n. omega arith; near = λ n. omega arith; steps = l }

  next-moved : (p : ℕ) → (at b p).due ≡ c + 1 → next p ≢ c + 1
  unfolding next
  next-moved p d = go (eqb (at b p).interval 0) refl
    where
      go : (x : Bool) → eqb (at b p).interval 0 ≡ x → cond x 0 ((at b p).due + (at b p).interval) ≢ c + 1
      go true e i = omega arith
      go false e i = eqb-false (at b p).interval 0 e (omega arith)

  tick-all : (l : List ℕ) (t : State lists) → Midway c b l t → Midway c b [] (play lists (join (map (λ p. ticked p (at b p)) l)) t)
  unfolding next
  tick-all [] t M = M
  tick-all (p ∷ l) t M = go (eqb (state_of b p) 0) (tick-all l)
    where
      P : Known p
      P = M.known p (omega (arith, same_refl p))

      d : (at b p).due ≡ c + 1
      d = M.due p (omega (arith, same_refl p))

      s : at t.book p ≡ at b p
      s = M.still p (omega (arith, same_refl p))

      used : (at t.book p).used ≡ true
      used = used-if (ticking c) t M.fine p P (λ i. omega (arith, d, ap (λ (r : Program). r.due) (sym s ∙ i)))

      t₁ : State lists
      t₁ = step lists (on p (timed (next p) (at b p).interval)) t

      T₁ : Turned p (with_timer (next p) (at b p).interval (at t.book p)) t.book.programs t₁.book.programs
      T₁ = step-turned lists p P (timed (next p) (at b p).interval) t M.fine.order.long

      F₁ : Fine (ticking c) t₁
      F₁ =
          fine-on (ticking c) p P (timed (next p) (at b p).interval) t M.fine
          (apt-timed (ticking c) t M.fine p P used (next p) (at b p).interval
          (next-timer p d (omega (arith, (M.fine.right p P).timer.steps, ap (λ (r : Program). r.interval) s))))

      t₂ : State lists
      t₂ = step lists (on p (becomes 1 Nothing)) t₁

      T₂ : Turned p (in_state 1 Nothing (at t₁.book p)) t₁.book.programs t₂.book.programs
      T₂ = step-turned lists p P (becomes 1 Nothing) t₁ T₁.long

      F₂ : Fine (ticking c) t₂
      F₂ = fine-on (ticking c) p P (becomes 1 Nothing) t₁ F₁
          (apt-scheduled (ticking c) t₁ F₁ p P (ap (λ (r : Program). r.used) T₁.here ∙ used))

      here₁ : (at t₁.book p).due ≢ c + 1
      here₁ i = next-moved p d (ap (λ (r : Program). r.due) (sym T₁.here) ∙ i)

      go : (x : Bool) → ((u : State lists) → Midway c b l u → Midway c b [] (play lists (join (map (λ p. ticked p (at b p)) l)) u))
          → Midway c b [] (play lists (cond x (on p (becomes 1 Nothing) ∷ []) [] ++ join (map (λ p. ticked p (at b p)) l)) t₁)
      go true ih =
          ih t₂ (midway-next p l t t₂ M F₂ (λ i. here₁ (ap (λ (r : Program). r.due) (sym T₂.here) ∙ i))
          (λ z Z n. T₂.rest z Z n ∙ T₁.rest z Z n))
      go false ih = ih t₁ (midway-next p l t t₁ M F₁ here₁ T₁.rest)

tick-begin : (a : State lists) → Fine (exact a.book.clock) a → a.book.clock < ceiling
    → Midway a.book.clock a.book (keep (due_at a.book) all) (step lists (clocked (a.book.clock + 1)) a)
unfolding due_at step
tick-begin a F l = record {
  fine = tick-start a F l;
  known = λ z h. all_in z (keep-in (due_at a.book) z all h).1;
  due = λ z h. eqb-true (at a.book z).due (a.book.clock + 1) (keep-in (due_at a.book) z all h).0;
  once = λ z. omega (arith, keep-le (due_at a.book) z all, all_once z);
  still = λ z h. refl;
  moved = λ z Z h. go z Z h (due_at a.book z) refl;
}
  where
    go : (z : ℕ) → Known z → count z (keep (due_at a.book) all) ≡ 0 → (x : Bool) → due_at a.book z ≡ x
        → (at a.book z).due ≢ a.book.clock + 1
    go z Z h true e =
        absurd (omega (arith, all_one z Z, count-keep (due_at a.book) z all ∙ ap (λ (x : Bool). cond x (count z all) 0) e))
    go z Z h false e = eqb-false (at a.book z).due (a.book.clock + 1) e

pub tick-fine : (a : State lists) → Fine (exact a.book.clock) a → a.book.clock < ceiling
    → Fine (exact (a.book.clock + 1))
    (play lists (clocked (a.book.clock + 1) ∷ join (map (λ p. ticked p (at a.book p)) (keep (due_at a.book) all))) a)
tick-fine a F l =
    let M = tick-all a.book.clock a.book (keep (due_at a.book) all) (step lists (clocked (a.book.clock + 1)) a)
    (tick-begin a F l) in
    tick-end a.book.clock _ M.fine (λ z Z. M.moved z Z refl)
