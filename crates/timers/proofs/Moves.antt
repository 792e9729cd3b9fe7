-- A tick is a move of the clock by one; a move in which nobody starts, and a move behind it, are one move.
-- The idea: the rule's events treat the programs whose timers are due one after another, which comes to the records put at their places and the
-- dormant among them put into the scheduled chain; of sound states no due lies at or below the clock, so due now is due by now.
-- Assumes nothing.
use Prim.Native.Nat.{ℕ, suc, ◌+◌, ◌-◌, ◌≤◌, ◌<◌}
use native.Mathlib.Omega.{arith}
use native.Mathlib.Decide.{ℕ_discrete}
use mathlib.Core.Path.{◌≡◌, refl, sym, ap, ap₂, ◌∙◌}
use mathlib.Core.Logic.{◌≢◌}
use mathlib.Core.Bool.{Bool, true, false, cond, ◌&&◌}
use mathlib.Core.List.{List, [], ◌∷◌, map}
use lib.ListN.{length, get_or, length-map, get_or-map}
use lib.Seq.{ext_get_or, set-set}
use lib.Dec.{eqb}
use borrow.Author.Tests.{lt-ltb, eq-eqb, ne_eqb, eqb-true}
use Rattle.lists.specs.Lists.{sum, count, keep, join}
use Rattle.lists.proofs.Laws.{same_refl, keep-in, keep-le, count-keep}
use Rattle.clock.specs.Clock.{ceiling}
use Rattle.records.specs.declared.Program.{Program}
use Rattle.records.specs.declared.Why.TheVariants.{Nothing}
use Rattle.records.specs.Records.{Known, all, missing, in_state, with_timer}
use Rattle.rules.specs.Book.{Book, at, state_of, prio_of, put, altered}
use Rattle.rules.specs.Requests.{TICK}
use Rattle.rules.specs.Plans.{Plan, on, becomes, timed, clocked, done, values_of, events_of}
use Rattle.rules.specs.Rules.{plan, due_at, ticked}
use Rattle.rules.specs.Keeper.{lists, State, act, step, play, view, asks, after}
use Rattle.rules.specs.Sound.{Sound}
use Rattle.rules.proofs.shared.Paths.{need-met}
use Rattle.rules.proofs.shared.Places.{all_one, all_once, all_in, at_same}
use Rattle.rules.proofs.shared.Deeds.{step-put}
use Rattle.timers.specs.Inner.{falls_due, due_beyond, starts, struck, starters, enter_all, moved_to, NoStart}
use Rattle.timers.proofs.Beyond.{beyond-none, beyond-now}
use Rattle.timers.proofs.Striking.{falls-is, falls-not, struck-by, struck-not, struck-priority}
use Rattle.timers.proofs.Striking.{missing-stays, struck-again, starts-again}
use Rattle.timers.proofs.InTurn.{set_all, same-prios, prios-put, joined, scheduled-put, in-turn, put_in, put-out, length-put}

-- those that pass one test and then another; tests that agree on a list keep the same of it; one that nobody passes keeps none
pub keep-keep : (f g : ℕ → Bool) (c : List ℕ) → keep g (keep f c) ≡ keep (λ p. f p && g p) c
keep-keep f g [] = refl
keep-keep f g (q ∷ qs) = go (f q) (keep-keep f g qs)
  where
    go : (b : Bool) → keep g (keep f qs) ≡ keep (λ p. f p && g p) qs
        → keep g (cond b (q ∷ keep f qs) (keep f qs)) ≡ cond (b && g q) (q ∷ keep (λ p. f p && g p) qs) (keep (λ p. f p && g p) qs)
    go true ih = ap (λ (xs : List ℕ). cond (g q) (q ∷ xs) xs) ih
    go false ih = ih

pub keep-agree : (f g : ℕ → Bool) (c : List ℕ) → ((z : ℕ) → 1 ≤ count z c → f z ≡ g z) → keep f c ≡ keep g c
keep-agree f g [] h = refl
keep-agree f g (q ∷ qs) h =
    ap₂ (λ (b : Bool) (xs : List ℕ). cond b (q ∷ xs) xs) (h q (omega (arith, same_refl q))) (keep-agree f g qs (λ z k. h z (omega arith)))

pub keep-none : (f : ℕ → Bool) (c : List ℕ) → ((z : ℕ) → f z ≡ false) → keep f c ≡ []
keep-none f [] h = refl
keep-none f (q ∷ qs) h = ap₂ (λ (b : Bool) (xs : List ℕ). cond b (q ∷ xs) xs) (h q) (keep-none f qs h)

-- A TICK
-- due now is due by now
due-now : (c : ℕ) (r : Program) → (r.due ≢ 0 → c < r.due) → eqb r.due (c + 1) ≡ falls_due (c + 1) r
due-now c r above = go (ℕ_discrete r.due (c + 1))
  where
    go : Dec (r.due ≡ c + 1) → eqb r.due (c + 1) ≡ falls_due (c + 1) r
    go (yes e) = eq-eqb r.due (c + 1) e ∙ sym (falls-is (c + 1) r (omega arith) (omega arith))
    go (no n) = ne_eqb r.due (c + 1) n ∙ sym (falls-not (c + 1) r (λ h. omega (arith, n, above (λ z. omega arith))))

-- what the rule makes of the record of a program that is due
abbrev pub next : Program → Program
next r = with_timer (cond (eqb r.interval 0) 0 (r.due + r.interval)) r.interval r

abbrev pub stroke : Program → Program
stroke r = cond (eqb r.state 0) (in_state 1 Nothing (next r)) (next r)

due-next : (d i : ℕ) → due_beyond d d i ≡ cond (eqb i 0) 0 (d + i)
due-next d i = go (ℕ_discrete i 0)
  where
    go : Dec (i ≡ 0) → due_beyond d d i ≡ cond (eqb i 0) 0 (d + i)
    go (yes e) = beyond-none d d i e ∙ sym (ap (λ (b : Bool). cond b 0 (d + i)) (eq-eqb i 0 e))
    go (no n) = beyond-now d i (omega (arith, n)) ∙ sym (ap (λ (b : Bool). cond b 0 (d + i)) (ne_eqb i 0 n))

stroke-struck : (now : ℕ) (r : Program) → 1 ≤ now → r.due ≡ now → stroke r ≡ struck now r
stroke-struck now r h e =
    ap (λ (x : ℕ). cond (eqb r.state 0) (in_state 1 Nothing (with_timer x r.interval r)) (with_timer x r.interval r))
    (sym (ap (λ (n : ℕ). due_beyond n r.due r.interval) (sym e) ∙ due-next r.due r.interval))
    ∙ sym (struck-by now r (falls-is now r (omega arith) (omega arith)) refl)

-- and of any record
pub struck-tick : (c : ℕ) (r : Program) → (r.due ≢ 0 → c < r.due) → struck (c + 1) r ≡ cond (eqb r.due (c + 1)) (stroke r) r
struck-tick c r above = go (ℕ_discrete r.due (c + 1))
  where
    go : Dec (r.due ≡ c + 1) → struck (c + 1) r ≡ cond (eqb r.due (c + 1)) (stroke r) r
    go (yes e) =
        sym (stroke-struck (c + 1) r (omega arith) e) ∙ sym (ap (λ (b : Bool). cond b (stroke r) r) (eq-eqb r.due (c + 1) e))
    go (no n) =
        struck-not (c + 1) r (sym (due-now c r above) ∙ ne_eqb r.due (c + 1) n)
        ∙ sym (ap (λ (b : Bool). cond b (stroke r) r) (ne_eqb r.due (c + 1) n))

stroke-priority : (r : Program) → (stroke r).priority ≡ r.priority
stroke-priority r = go (eqb r.state 0)
  where
    go : (b : Bool) → (cond b (in_state 1 Nothing (next r)) (next r)).priority ≡ r.priority
    go true = refl
    go false = refl

-- one program's turn
module _ (b : Book) where
  turn : (p : ℕ) → Known p → Unit {0} → (t : State lists) → length t.book.programs ≡ 32 → at t.book p ≡ at b p
      → play lists (ticked p (at b p)) t
      ≡ record {
        book = put p (stroke (at b p)) t.book;
        kept = cond (eqb (state_of b p) 0) (joined (prio_of t.book) p t.kept) t.kept;
      }
  unfolding act
  turn p P u t L e = go (eqb (state_of b p) 0) refl
    where
      r : Program
      r = at b p

      t₁ : State lists
      t₁ = record { book = put p (next r) t.book; kept = t.kept }

      timer : step lists (on p (timed (cond (eqb r.interval 0) 0 (r.due + r.interval)) r.interval)) t ≡ t₁
      timer =
          step-put lists p P (timed (cond (eqb r.interval 0) 0 (r.due + r.interval)) r.interval) t
          ∙ ap (λ (x : Program). record {
            book = put p (with_timer (cond (eqb r.interval 0) 0 (r.due + r.interval)) r.interval x) t.book;
            kept = t.kept;
          }) e

      now-is : at t₁.book p ≡ next r
      now-is = at_same t.book L p P (next r)

      level : prio_of t₁.book ≡ prio_of t.book
      level = same-prios t₁.book t.book (prios-put t.book p (next r) (sym (ap (λ (x : Program). x.priority) e)))

      go : (x : Bool) → eqb r.state 0 ≡ x
          → play lists (cond x (on p (becomes 1 Nothing) ∷ []) []) (step lists (on p (timed (cond (eqb r.interval 0) 0 (r.due + r.interval)) r.interval)) t)
          ≡ record {
            book = put p (cond x (in_state 1 Nothing (next r)) (next r)) t.book;
            kept = cond x (joined (prio_of t.book) p t.kept) t.kept;
          }
      go true z =
          ap (step lists (on p (becomes 1 Nothing))) timer
          ∙ scheduled-put p P t₁ (ap (λ (x : Program). x.state) now-is ∙ eqb-true r.state 0 z)
          ∙ ap₂ (λ (x : Program) (f : ℕ → ℕ). record { book = put p (in_state 1 Nothing x) t₁.book; kept = joined f p t.kept }) now-is level
          ∙ ap (λ (ps : List Program). record {
            book = altered t.book ps t.book.clock t.book.holders t.book.resources;
            kept = joined (prio_of t.book) p t.kept;
          }) (set-set t.book.programs (p - 1) (next r) (in_state 1 Nothing (next r)))
      go false z = timer

-- at every place: past the records nothing is, before a move and after it
pub moved_at : (now : ℕ) (ps : List Program) (i : ℕ) → get_or (map (struck now) ps) i missing ≡ struck now (get_or ps i missing)
moved_at now ps i =
    ap (get_or (map (struck now) ps) i) (sym (missing-stays now)) ∙ get_or-map (struck now) ps i missing

-- what is asked of a state: that no due lies at or below the clock
pub record Timely (a : State lists) : Type 0 where
  pub programs : length a.book.programs ≡ 32
  pub above : (z : ℕ) → Known z → (at a.book z).due ≢ 0 → a.book.clock < (at a.book z).due

pub sound-timely : (a : State lists) → Sound a → Timely a
sound-timely a S = record { programs = S.shape.programs; above = S.dues.above }

module _ (a : State lists) (S : Timely a) where
  -- the programs that are due
  abbrev due : List ℕ
  due = keep (due_at a.book) all

  due_in : (z : ℕ) → 1 ≤ count z due → Known z × Unit {0}
  due_in z h = (all_in z (keep-in (due_at a.book) z all h).1, tt)

  due-once : (z : ℕ) → count z due ≤ 1
  due-once z = omega (arith, keep-le (due_at a.book) z all, all_once z)

  -- who is due, and who starts
  due-is : (z : ℕ) → Known z → due_at a.book z ≡ falls_due (a.book.clock + 1) (at a.book z)
  unfolding due_at
  due-is z Z = due-now a.book.clock (at a.book z) (S.above z Z)

  starts_is : (z : ℕ) → Known z
      → (due_at a.book z && eqb (state_of a.book z) 0) ≡ starts (a.book.clock + 1) (at a.book z)
  unfolding starts
  starts_is z Z = ap (λ (x : Bool). x && eqb (state_of a.book z) 0) (due-is z Z)

  pub tick-starters : keep (λ p. due_at a.book p && eqb (state_of a.book p) 0) all ≡ starters (a.book.clock + 1) a.book
  unfolding starters
  tick-starters = keep-agree (λ p. due_at a.book p && eqb (state_of a.book p) 0) (λ p. starts (a.book.clock + 1) (at a.book p)) all
      (λ z h. starts_is z (all_in z h))

  -- the records
  at-index : (i : ℕ) → at a.book (suc i) ≡ get_or a.book.programs i missing
  at-index i = ap (λ (k : ℕ). get_or a.book.programs k missing) (let e : suc i - 1 ≡ i = omega arith in e)

  records : set_all (λ p. stroke (at a.book p)) due a.book.programs ≡ map (struck (a.book.clock + 1)) a.book.programs
  unfolding due_at
  records =
      ext_get_or missing (set_all (λ p. stroke (at a.book p)) due a.book.programs) (map (struck (a.book.clock + 1)) a.book.programs)
      (length-put (λ p. stroke (at a.book p)) due a.book.programs ∙ sym (length-map a.book.programs (struck (a.book.clock + 1))))
      (λ i h. each i (omega (arith, length-put (λ p. stroke (at a.book p)) due a.book.programs)) ∙ sym (moved_at (a.book.clock + 1) a.book.programs i))
    where
      low : (z : ℕ) → 1 ≤ count z due → 1 ≤ z
      low z h = (due_in z h).0.0

      each : (i : ℕ) → i < length a.book.programs
          → get_or (set_all (λ p. stroke (at a.book p)) due a.book.programs) i missing
          ≡ struck (a.book.clock + 1) (get_or a.book.programs i missing)
      each i h = go (due_at a.book (suc i)) refl
        where
          K : Known (suc i)
          K = (omega arith, omega (arith, S.programs))

          counted : (x : Bool) → due_at a.book (suc i) ≡ x → count (suc i) due ≡ cond x (count (suc i) all) 0
          counted x e = count-keep (due_at a.book) (suc i) all ∙ ap (λ (y : Bool). cond y (count (suc i) all) 0) e

          go : (x : Bool) → due_at a.book (suc i) ≡ x
              → get_or (set_all (λ p. stroke (at a.book p)) due a.book.programs) i missing
              ≡ struck (a.book.clock + 1) (get_or a.book.programs i missing)
          go true e =
              put_in (λ p. stroke (at a.book p)) due a.book.programs i low due-once
              (omega (arith, counted true e, all_one (suc i) K)) h
              ∙ stroke-struck (a.book.clock + 1) (at a.book (suc i)) (omega arith)
              (eqb-true (at a.book (suc i)).due (a.book.clock + 1) e)
              ∙ ap (struck (a.book.clock + 1)) (at-index i)
          go false e =
              put-out (λ p. stroke (at a.book p)) due a.book.programs i low (counted false e)
              ∙ sym (struck-not (a.book.clock + 1) (get_or a.book.programs i missing)
              (ap (falls_due (a.book.clock + 1)) (sym (at-index i)) ∙ sym (due-is (suc i) K) ∙ e))

  pub tick-played :
      play lists (clocked (a.book.clock + 1) ∷ join (map (λ p. ticked p (at a.book p)) (keep (due_at a.book) all))) a
      ≡ moved_to (a.book.clock + 1) a
  unfolding step
  tick-played =
      in-turn (λ p. Unit {0}) (λ p. ticked p (at a.book p)) (at a.book) (λ p. stroke (at a.book p)) (λ p. eqb (state_of a.book p) 0)
      (turn a.book) (λ p. stroke-priority (at a.book p)) due
      (record { book = altered a.book a.book.programs (a.book.clock + 1) a.book.holders a.book.resources; kept = a.kept })
      (record { long = S.programs; known = due_in; once = due-once; still = λ z h. refl })
      ∙ ap₂ (λ (ps : List Program) (l : List ℕ). record {
        book = altered a.book ps (a.book.clock + 1) a.book.holders a.book.resources;
        kept = enter_all (prio_of a.book) l a.kept;
      }) records (keep-keep (due_at a.book) (λ p. eqb (state_of a.book p) 0) all ∙ tick-starters)

  -- the plan of a tick
  module _ (below : a.book.clock < ceiling) where
    pub tick-plan : asks lists a TICK
        ≡ done (length (keep (λ p. due_at a.book p && eqb (state_of a.book p) 0) all) ∷ [])
        (clocked (a.book.clock + 1) ∷ join (map (λ p. ticked p (at a.book p)) (keep (due_at a.book) all)))
    unfolding plan
    tick-plan = need-met 11 0 _ (lt-ltb a.book.clock ceiling below)

    pub tick-value : sum (values_of (asks lists a TICK)) ≡ length (starters (a.book.clock + 1) a.book)
    tick-value = ap (λ (x : Plan). sum (values_of x)) tick-plan ∙ omega (arith, ap length tick-starters)

    -- A TICK IS A MOVE BY ONE
    pub tick-moved : after lists a TICK ≡ moved_to (a.book.clock + 1) a
    tick-moved = ap (λ (x : Plan). play lists (events_of (view lists a) x) a) tick-plan ∙ tick-played

-- A MOVE IN WHICH NOBODY STARTS, AND A LATER ONE
module _ (now later : ℕ) (after : now ≤ later) (a : State lists) (idle : NoStart now a.book.programs) where
  at_moved : (p : ℕ) → at (moved_to now a).book p ≡ struck now (at a.book p)
  at_moved p = moved_at now a.book.programs (p - 1)

  pub none-start : starters now a.book ≡ []
  unfolding starters
  none-start = keep-none (λ p. starts now (at a.book p)) all (λ z. idle (z - 1))

  pub same-starters : starters later (moved_to now a).book ≡ starters later a.book
  unfolding starters
  same-starters =
      ap (λ (f : ℕ → Bool). keep f all)
      (λ i p. (ap (starts later) (at_moved p) ∙ starts-again now later after (at a.book p) (idle (p - 1))) i)

  same-records : map (struck later) (map (struck now) a.book.programs) ≡ map (struck later) a.book.programs
  same-records =
      ext_get_or missing (map (struck later) (map (struck now) a.book.programs)) (map (struck later) a.book.programs)
      (length-map (map (struck now) a.book.programs) (struck later) ∙ length-map a.book.programs (struck now)
      ∙ sym (length-map a.book.programs (struck later)))
      (λ i h. moved_at later (map (struck now) a.book.programs) i ∙ ap (struck later) (moved_at now a.book.programs i)
      ∙ struck-again now later after (get_or a.book.programs i missing) (idle i) ∙ sym (moved_at later a.book.programs i))

  same-order : prio_of (moved_to now a).book ≡ prio_of a.book
  same-order = λ i p. (ap (λ (r : Program). r.priority) (at_moved p) ∙ struck-priority now (at a.book p)) i

  pub moved-again : moved_to later (moved_to now a) ≡ moved_to later a
  moved-again =
      let k : enter_all (prio_of (moved_to now a).book) (starters later (moved_to now a).book)
      (enter_all (prio_of a.book) (starters now a.book) a.kept)
      ≡ enter_all (prio_of a.book) (starters later a.book) a.kept =
      ap₂ (λ (f : ℕ → ℕ) (l : List ℕ). enter_all f l (enter_all (prio_of a.book) (starters now a.book) a.kept)) same-order same-starters
      ∙ ap (λ (l : List ℕ). enter_all (prio_of a.book) (starters later a.book) (enter_all (prio_of a.book) l a.kept)) none-start in
      ap₂ (λ (ps : List Program) (c : List (List ℕ)). record {
        book = altered a.book ps later a.book.holders a.book.resources;
        kept = c;
      }) same-records k

  pub idle-still : NoStart later a.book.programs → NoStart later (moved_to now a).book.programs
  idle-still h i =
      ap (starts later) (moved_at now a.book.programs i) ∙ starts-again now later after (get_or a.book.programs i missing) (idle i) ∙ h i
