-- TICK,n read as n calls: where it is accepted, n TICKs may stand in its place in any run. It is the definition that n ticks follow one another;
-- that each of them is accepted is that none passes the ceiling.
-- Assumes nothing.
use Prim.Native.Nat.{ℕ, zero, suc, ◌+◌, ◌≤◌}
use native.Mathlib.Omega.{arith}
use mathlib.Core.Path.{◌≡◌, refl, sym, ap, ◌∙◌}
use mathlib.Core.Bool.{Bool, true, false}
use mathlib.Core.List.{List, [], ◌∷◌, ◌++◌, map}
use lib.ListN.{replicate}
use Rattle.lists.specs.Lists.{sum, join}
use Rattle.clock.specs.Clock.{ceiling}
use Rattle.rules.specs.Requests.{TICK}
use Rattle.rules.specs.Keeper.{lists, entries, State, after}
use Rattle.rules.specs.Engine.{Handed, beside, Engine, after_ticks, sum_of_ticks, ticked_in}
use Rattle.rules.specs.Sound.{Sound}
use Rattle.rules.proofs.soundness.SoundRuns.{sound-after}
use Rattle.rules.proofs.shared.ManyTicks.{Accepted, many-accepted}
use Rattle.timers.proofs.Moves.{sound-timely, tick-moved}
use Rattle.tables.specs.declared.Tables.{Tables}
use Rattle.tables.specs.Tables.{plain, lay, Arrays}
use Rattle.tables.specs.Sound.{sound}
use Rattle.tables.specs.Calls.{Result}
use Rattle.tables.proofs.ManyTicks.{tick-laid}
use Rattle.page.specs.Paging.{linked}
use Rattle.console.specs.Console.{keyed_in}
use Rattle.history.specs.Runs.{Made, Beginning, begins, lent_to, step, run, outcomes}
use Rattle.history.specs.Demand.{replaying, told_of, first_entries, notes_of, AsksTicks, ticks-call, ticks-line, singly, ReadSingly}
use Rattle.history.proofs.Demand3.{Kept, along, run-kept, run-told, kept-first, kept-begun}

sum-append : (xs ys : List ℕ) → sum (xs ++ ys) ≡ sum xs + sum ys
sum-append [] ys = omega arith
sum-append (x ∷ xs) ys = omega (arith, sum-append xs ys)

module _ (E : Engine) where
  run-append : (cs ds : List Made) (t : E.Form) → run E t (cs ++ ds) ≡ run E (run E t cs) ds
  unfolding run
  run-append [] ds t = refl
  run-append (c ∷ cs) ds t = run-append cs ds (step E t c).tables

  outcomes-append : (cs ds : List Made) (t : E.Form) → outcomes E t (cs ++ ds) ≡ outcomes E t cs ++ outcomes E (run E t cs) ds
  unfolding run outcomes
  outcomes-append [] ds t = refl
  outcomes-append (c ∷ cs) ds t = ap (λ (ws : List (Handed E.Form)). step E t c ∷ ws) (outcomes-append cs ds (step E t c).tables)

  -- n single ticks
  ticks-run : (n : ℕ) (t : E.Form) → run E t (singly n) ≡ after_ticks E.asked n t
  unfolding run step after_ticks
  ticks-run zero t = refl
  ticks-run (suc n) t = ticks-run n (E.asked t TICK).tables

  ticks-sum : (n : ℕ) (t : E.Form)
      → sum (join (map (λ (w : Handed E.Form). w.values) (outcomes E t (singly n)))) ≡ sum_of_ticks E.asked n t
  unfolding outcomes step sum_of_ticks
  ticks-sum zero t = refl
  ticks-sum (suc n) t =
      sum-append (E.asked t TICK).values (join (map (λ (w : Handed E.Form). w.values) (outcomes E (E.asked t TICK).tables (singly n))))
      ∙ ap (λ (k : ℕ). sum (E.asked t TICK).values + k) (ticks-sum n (E.asked t TICK).tables)

  -- an accepted TICK,n, by a call or by a line
  accepted-step : (t : E.Form) (c : Made) (n : ℕ) → AsksTicks n c → (step E t c).number ≡ 0
      → Accepted E.sound E.clock E.asked t n × (step E t c ≡ beside (lent_to c) (ticked_in E t n))
  unfolding step keyed_in
  accepted-step t c n ticks-call z = (many-accepted E.sound E.clock E.asked t n z, refl)
  accepted-step t c n (ticks-line bytes buf l) z = go (E.sound t) refl
    where
      go : (b : Bool) → E.sound t ≡ b
          → Accepted E.sound E.clock E.asked t n × (keyed_in E t bytes buf ≡ beside buf (ticked_in E t n))
      go true e =
          let k : keyed_in E t bytes buf ≡ beside buf (ticked_in E t n) = rw (e, keyed_in, l) in
          (many-accepted E.sound E.clock E.asked t n (sym (ap (λ (w : Handed E.Form). w.number) k) ∙ z), k)
      go false e =
          absurd (omega (arith, z, (let k : (keyed_in E t bytes buf).number ≡ 14 = rw (e, keyed_in) in k)))

  -- n TICKs in its place
  module _ (t : E.Form) (cs : List Made) (c : Made) (n : ℕ) (ds : List Made) (a : AsksTicks n c) (z : (step E (run E t cs) c).number ≡ 0) where
    is_made : step E (run E t cs) c
        ≡ record {
          number = 0;
          values = sum_of_ticks E.asked n (run E t cs) ∷ [];
          tables = after_ticks E.asked n (run E t cs);
          buffer = lent_to c;
        }
    is_made = let s = accepted-step (run E t cs) c n a z in s.1 ∙ ap (beside (lent_to c)) s.0.made

    left : (step E (run E t cs) c).tables ≡ run E (run E t cs) (singly n)
    left = ap (λ (w : Handed E.Form). w.tables) is_made ∙ sym (ticks-run n (run E t cs))

    read_as : map (λ (w : Handed E.Form). w.number) (outcomes E (run E t cs) (singly n)) ≡ replicate n 0 → ReadSingly E t cs c n ds
    unfolding run outcomes
    read_as h = record {
      each = h;
      value = ap (λ (w : Handed E.Form). w.values) is_made ∙ ap (λ (k : ℕ). k ∷ []) (sym (ticks-sum n (run E t cs)));
      leaves = left;
      goes_on = run-append cs (c ∷ ds) t ∙ ap (λ (u : E.Form). run E u ds) left
          ∙ sym (run-append (singly n) ds (run E t cs)) ∙ sym (run-append cs (singly n ++ ds) t);
      told = outcomes-append cs (c ∷ ds) t
          ∙ ap (λ (u : E.Form). outcomes E t cs ++ (step E (run E t cs) c ∷ outcomes E u ds)) (left ∙ sym (run-append cs (singly n) t));
      told-singly = outcomes-append cs (singly n ++ ds) t
          ∙ ap (λ (ws : List (Handed E.Form)). outcomes E t cs ++ ws) (outcomes-append (singly n) ds (run E t cs))
          ∙ ap (λ (u : E.Form). outcomes E t cs ++ (outcomes E (run E t cs) (singly n) ++ outcomes E u ds)) (sym (run-append cs (singly n) t));
    }

-- each tick is accepted, of tables that are laid out
each_laid : (n : ℕ) (a : State lists) → Sound a → a.book.clock + n ≤ ceiling
    → map (λ (w : Handed Tables). w.number) (outcomes linked (lay a) (singly n)) ≡ replicate n 0
unfolding outcomes step
each_laid zero a S h = refl
each_laid (suc n) a S h =
    let T = tick-laid a S (omega arith) in
    let c : (after lists a TICK).book.clock ≡ a.book.clock + 1 =
    ap (λ (x : State lists). x.book.clock) (tick-moved a (sound-timely a S) (omega arith)) in
    ap (λ (r : Result). r.number ∷ map (λ (w : Handed Tables). w.number) (outcomes linked r.tables (singly n))) T
    ∙ ap (λ (xs : List ℕ). 0 ∷ xs) (each_laid n (after lists a TICK) (sound-after a S TICK) (omega (arith, c)))

-- numbers, of what each call was told
numbers-told : {S : Type 0} (ws : List (Handed S))
    → map (λ (w : Handed (Unit {0})). w.number) (map told_of ws) ≡ map (λ (w : Handed S). w.number) ws
numbers-told [] = refl
numbers-told (w ∷ ws) = ap (λ (xs : List ℕ). w.number ∷ xs) (numbers-told ws)

-- in any run from tables and notes that go together
module _ (t : Tables) (m : State entries) (K : Kept t m) (cs : List Made) (c : Made) (n : ℕ) (ds : List Made) (a : AsksTicks n c)
    (z : (step linked (run linked t cs) c).number ≡ 0) where
  there : Kept (run linked t cs) (run replaying m cs)
  there = run-kept cs t m K

  each-accepted : map (λ (w : Handed Tables). w.number) (outcomes linked (run linked t cs) (singly n)) ≡ replicate n 0
  each-accepted =
      ap (λ (u : Tables). map (λ (w : Handed Tables). w.number) (outcomes linked u (singly n))) (sym there.laid)
      ∙ each_laid n (plain (run linked t cs)) there.plainly (accepted-step linked (run linked t cs) c n a z).0.below

  singly-kept : ReadSingly linked t cs c n ds
  singly-kept = read_as linked t cs c n ds a z each-accepted

  -- the replay is told the same
  replay-kept : ReadSingly replaying m cs c n ds
  replay-kept =
      read_as replaying m cs c n ds a
      (sym (ap (λ (w : Handed (Unit {0})). w.number) (along (run linked t cs) (run replaying m cs) there c).told) ∙ z)
      (sym (numbers-told (outcomes replaying (run replaying m cs) (singly n)))
      ∙ sym (ap (map (λ (w : Handed (Unit {0})). w.number)) (run-told (singly n) (run linked t cs) (run replaying m cs) there))
      ∙ numbers-told (outcomes linked (run linked t cs) (singly n)) ∙ each-accepted)

-- TICK,n READ AS n CALLS: from any sound tables on; and in any run that begins with FRESH or with a reading, and its replay
pub singly-sound : (t : Tables) → Arrays t → sound t ≡ true → (cs : List Made) (c : Made) (n : ℕ) (ds : List Made) → AsksTicks n c
    → (step linked (run linked t cs) c).number ≡ 0 → ReadSingly linked t cs c n ds
singly-sound t A s = singly-kept t (first_entries (plain t)) (kept-first t A s)

module _ (b : Beginning) (cs : List Made) (c : Made) (n : ℕ) (ds : List Made) (a : AsksTicks n c)
    (z : (step linked (run linked (begins b) cs) c).number ≡ 0) where
  pub singly-begun : ReadSingly linked (begins b) cs c n ds
  singly-begun = singly-kept (begins b) (notes_of b) (kept-begun b) cs c n ds a z

  pub singly-replayed : ReadSingly replaying (notes_of b) cs c n ds
  singly-replayed = replay-kept (begins b) (notes_of b) (kept-begun b) cs c n ds a z
