-- Each count that a request answers is the difference of the states before and after it (OUTLINE, "What the contracts have to say"): tracks
-- freed, programs woken, programs scheduled by a tick.
-- Tracks are counted in Freed. For programs: those who wake stand once each in a list, they alone are in state 1 after it, and a list of
-- the programs that pass a test, each once, is as long as `keep` of that test over all.
-- Assumes nothing.
use Prim.Native.Nat.{ℕ, suc, ◌+◌, ◌≤◌}
use native.Mathlib.Omega.{arith}
use native.Mathlib.Decide.{ℕ_discrete, dec_le}
use mathlib.Core.Path.{◌≡◌, refl, sym, ap, ◌∙◌}
use mathlib.Core.Bool.{Bool, true, false, cond, ◌&&◌}
use mathlib.Core.List.{List, [], ◌∷◌, map}
use lib.ListN.{length}
use lib.Dec.{eqb}
use borrow.Author.Tests.{eqb-true, eqb-false, eq-eqb, ne_eqb}
use Rattle.lists.specs.Lists.{hit, count, keep, remove, join}
use Rattle.lists.proofs.Laws.{same_refl, same-ne, same-le, same-eq, count-remove, count-remove-le, count-keep, keep-in, keep-le}
use Rattle.lists.proofs.Tests.{clash}
use Rattle.records.specs.declared.Resource.{Resource}
use Rattle.records.specs.declared.Why.TheVariants.{Nothing}
use Rattle.records.specs.Records.{Known, all, in_wait}
use Rattle.rules.specs.Book.{Book, at, state_of, why_of}
use Rattle.rules.specs.Requests.{EXEC6, CLEAR, FREE, TICK, running}
use Rattle.rules.specs.Plans.{becomes, Event, on, clocked, numbered, Plan, releasing, View, values_of}
use Rattle.rules.specs.Plans.{events_of, Release, awaits, woken, wake}
use Rattle.rules.specs.Rules.{clears, ends_in, ends, due_at, ticked, call, head, plan}
use Rattle.rules.specs.Keeper.{lists, State, step, play, view, scheduled_chain, asks}
use Rattle.rules.specs.Sound.{Sound}
use Rattle.rules.specs.Counts.{awoken, roused}
use Rattle.rules.proofs.shared.Places.{known-or, none_other, all_one, all_once, all_in}
use Rattle.rules.proofs.shared.Finding.{head_in}
use Rattle.rules.proofs.shared.Ordering.{general-alone}
use Rattle.rules.proofs.shared.Deeds.{turned-each, step-turned}
use Rattle.rules.proofs.counts.Rising.{Rise, up, runs, none, clocks, numbers, wake-rises, tick-rises, rise-in, rise-out}
use Rattle.rules.proofs.shared.Walk.{IfDone, not_done, by-need, by-either, by-caller, by-allocated}
use Rattle.rules.proofs.shared.Settling.{settle}
use Rattle.rules.proofs.counts.Freed.{off-frees, own-frees, global-frees, each-frees}
use Rattle.rules.proofs.Statements.{Counts}

-- LISTS: two that hold each number as often are as long; so is a list of those that pass a test, each once
remove-length : (p : ℕ) (c : List ℕ) → 1 ≤ count p c → suc (length (remove p c)) ≡ length c
remove-length p [] h = absurd (omega arith)
remove-length p (q ∷ qs) h = go (eqb q p) refl (remove-length p qs)
  where
    go : (b : Bool) → eqb q p ≡ b → (1 ≤ count p qs → suc (length (remove p qs)) ≡ length qs)
        → suc (length (cond b qs (q ∷ remove p qs))) ≡ suc (length qs)
    go true t ih = refl
    go false t ih = ap suc (ih (omega (arith, same-ne p q (λ e. eqb-false q p t (sym e)))))

same_length : (c d : List ℕ) → ((x : ℕ) → count x c ≡ count x d) → length c ≡ length d
same_length [] [] e = refl
same_length [] (y ∷ ys) e = absurd (omega (arith, e y, same_refl y))
same_length (x ∷ xs) d e =
    let h : 1 ≤ count x d = omega (arith, e x, same_refl x) in
    omega (arith, remove-length x d h, same_length xs (remove x d) (λ z. omega (arith, e z, count-remove z x d h)))

tally : (f : ℕ → Bool) (c : List ℕ) → ((x : ℕ) → 1 ≤ count x c → Known x) → ((x : ℕ) → Known x → count x c ≡ hit (f x))
    → length c ≡ length (keep f all)
tally f c within once = same_length c (keep f all) (λ x. go x (known-or x) (f x) refl)
  where
    go : (x : ℕ) → Dec (Known x) → (b : Bool) → f x ≡ b → count x c ≡ count x (keep f all)
    go x (yes X) true t = omega (arith, once x X, ap hit t, count-keep f x all, ap (λ (y : Bool). cond y (count x all) 0) t, all_one x X)
    go x (yes X) false t = omega (arith, once x X, ap hit t, count-keep f x all, ap (λ (y : Bool). cond y (count x all) 0) t)
    go x (no n) b t = none_other c x (within x) n ∙ sym (none_other (keep f all) x (λ h. all_in x (keep-in f x all h).1) n)

keep-keep : (f g : ℕ → Bool) (c : List ℕ) → keep g (keep f c) ≡ keep (λ p. f p && g p) c
keep-keep f g [] = refl
keep-keep f g (q ∷ qs) = go (f q) (keep-keep f g qs)
  where
    go : (b : Bool) → keep g (keep f qs) ≡ keep (λ p. f p && g p) qs
        → keep g (cond b (q ∷ keep f qs) (keep f qs)) ≡ cond (b && g q) (q ∷ keep (λ p. f p && g p) qs) (keep (λ p. f p && g p) qs)
    go true ih = ap (λ (l : List ℕ). cond (g q) (q ∷ l) l) ih
    go false ih = ih

-- PROGRAMS: those who rise to one of the states U, each once and having passed a test that none in such a state passes, are those
-- who passed it and are in such a state after
risen : (U : ℕ → Bool) (t : State lists) → length t.book.programs ≡ 32 → (es : List Event) (c : List ℕ) → Rise U es c → (f : ℕ → Bool)
    → ((x : ℕ) → 1 ≤ count x c → Known x × (count x c ≤ 1) × (f x ≡ true))
    → ((x : ℕ) → Known x → f x ≡ true → U (state_of t.book x) ≡ false)
    → length c ≡ length (keep (λ x. f x && U (state_of (play lists es t).book x)) all)
risen U t L es c r f g n = tally (λ x. f x && U (after x)) c (λ x h. (g x h).0) (λ x X. go x X (f x) refl (dec_le 1 (count x c)))
  where
    after : ℕ → ℕ
    after x = state_of (play lists es t).book x

    go : (x : ℕ) → Known x → (b : Bool) → f x ≡ b → Dec (1 ≤ count x c) → count x c ≡ hit (b && U (after x))
    go x X true e (yes h) = omega (arith, (g x h).1, ap hit (rise-in lists U x X r t L h))
    go x X false e (yes h) = clash (g x h).2 e
    go x X true e (no h) = omega (arith, h, ap hit (ap U (rise-out lists U x X r t L (omega (arith, h))) ∙ n x X e))
    go x X false e (no h) = omega (arith, h)

-- who waits is in neither of states 1 and 6, and who sleeps is not in state 1
waits-not-up : (s : ℕ) → in_wait s ≡ true → up s ≡ false
waits-not-up s e = go (ℕ_discrete s 3) (ℕ_discrete s 5)
  where
    go : Dec (s ≡ 3) → Dec (s ≡ 5) → up s ≡ false
    go (yes i) d = rw i
    go (no m) (yes i) = rw i
    go (no m) (no n) = clash e (rw (ne_eqb s 3 m, ne_eqb s 5 n))

sleeps-not-1 : (s : ℕ) → eqb s 0 ≡ true → runs s ≡ false
sleeps-not-1 s e = rw (eqb-true s 0 e)

module _ (a : State lists) (S : Sound a) where
  abbrev v : View
  v = view lists a

  -- those woken where no track was freed are of chain 3, once
  woken-few : (R : Release) → R.tracks ≡ 0 → (x : ℕ) → count x (woken v R) ≤ count x (v.chain 3)
  woken-few R e x =
      rw (general-alone v R (omega arith))
      (omega (
        arith,
        keep-le (λ q. awaits R (why_of v.book q)) x (remove R.ended (v.chain 3)),
        count-remove-le x R.ended (v.chain 3),
      ))

  woken-known : (R : Release) → R.tracks ≡ 0 → (x : ℕ) → 1 ≤ count x (woken v R) → Known x
  woken-known R e x h = S.chains.within 3 x (omega arith) (omega arith) (omega (arith, woken-few R e x))

  -- they are the programs that waited in a and are scheduled or suspended after the events, if in t, in which these begin, none is so that
  -- waited in a
  woken-awoken : (R : Release) → R.tracks ≡ 0 → (t : State lists) (es : List Event) → Rise up es (woken v R) → length t.book.programs ≡ 32
      → ((x : ℕ) → Known x → in_wait (state_of a.book x) ≡ true → up (state_of t.book x) ≡ false)
      → length (woken v R) ≡ awoken a.book (play lists es t).book
  unfolding awoken
  woken-awoken R e t es r L f = risen up t L es (woken v R) r (λ x. in_wait (state_of a.book x))
      (λ x h.
      let X = woken-known R e x h in
      let m = S.chains.member 3 x (omega arith) (omega arith) X in (
        X,
        omega (arith, woken-few R e x, same-le (state_of a.book x) 3),
        rw (eq-eqb (state_of a.book x) 3 (same-eq (state_of a.book x) 3 (omega (arith, woken-few R e x)))),
      ))
      f

  abbrev Wakes : Plan → Type 0
  Wakes x = values_of x ≡ awoken a.book (play lists (events_of v x) a).book ∷ []

  -- none wakes where nothing happens
  none-awoken : 0 ≡ awoken a.book a.book
  unfolding awoken
  none-awoken =
      risen up a S.shape.programs [] [] none (λ x. in_wait (state_of a.book x))
      (λ x h. absurd (omega arith)) (λ x X. waits-not-up (state_of a.book x))

  -- numbers are altered, and the woken wake
  numbers-wake : (m : List Resource) (R : Release) → R.tracks ≡ 0 → Wakes (releasing (length (woken v R) ∷ []) (numbered m ∷ []) R)
  numbers-wake m R e =
      ap (λ (n : ℕ). n ∷ [])
      (woken-awoken R e a (numbered m ∷ wake (woken v R)) (numbers (wake-rises (woken v R) (woken-known R e))) S.shape.programs
      (λ x X. waits-not-up (state_of a.book x)))

  ending-wakes : IfDone Wakes (asks lists a (running EXEC6))
  unfolding plan call ends_in
  ending-wakes = by-caller not_done _ _ (λ h.
      let c = head (scheduled_chain lists a) in
      let C = S.chains.within 1 c (omega arith) (omega arith) (head_in (scheduled_chain lists a) h) in
      record {
        so = λ z. ap (λ (n : ℕ). n ∷ [])
            (woken-awoken (ends v c 0) refl (step lists (on c (becomes 0 Nothing)) a) (settle v c (ends v c 0))
            (numbers (wake-rises (woken v (ends v c 0)) (woken-known (ends v c 0) refl)))
            (step-turned lists c C (becomes 0 Nothing) a S.shape.programs).long
            (turned-each (step-turned lists c C (becomes 0 Nothing) a S.shape.programs)
            (λ x r. in_wait (state_of a.book x) ≡ true → up r.state ≡ false) (λ k. refl)
            (λ x X n. waits-not-up (state_of a.book x))));
      })

  clearing-wakes : (r : ℕ) → IfDone Wakes (asks lists a (running (CLEAR r)))
  unfolding plan call clears
  clearing-wakes r = by-caller not_done _ _ (λ h. by-allocated not_done _ _ _ (λ i k l. by-either not_done _ _ _
      (λ e. record { so = λ z. ap (λ (n : ℕ). n ∷ []) none-awoken })
      (by-need not_done _ _ _ _ refl (λ e. record { so = λ z. numbers-wake _ (clears r false) refl }))))

  freeing-wakes : (r : ℕ) → IfDone Wakes (asks lists a (running (FREE r)))
  unfolding plan call clears
  freeing-wakes r = by-caller not_done _ _ (λ h.
      by-allocated not_done _ _ _ (λ i k l. by-need not_done _ _ _ _ refl (λ e. record { so = λ z. numbers-wake _ (clears r true) refl })))

  -- a tick
  abbrev b : Book
  b = a.book

  abbrev sleeps : ℕ → Bool
  sleeps p = eqb (state_of b p) 0

  abbrev ticking : List Event
  ticking = clocked (b.clock + 1) ∷ join (map (λ p. ticked p (at b p)) (keep (due_at b) all))

  due-known : (x : ℕ) → 1 ≤ count x (keep (due_at b) all) → Known x
  due-known x h = all_in x (keep-in (due_at b) x all h).1

  -- those due who sleep
  abbrev risers : List ℕ
  risers = keep sleeps (keep (due_at b) all)

  riser-once : (x : ℕ) → count x risers ≤ 1
  riser-once x = omega (arith, keep-le sleeps x (keep (due_at b) all), keep-le (due_at b) x all, all_once x)

  tick-roused : length (keep (λ p. due_at b p && sleeps p) all) ≡ roused b (play lists ticking a).book
  unfolding roused
  tick-roused =
      ap length (sym (keep-keep (due_at b) sleeps all))
      ∙ risen runs a S.shape.programs ticking risers (clocks (tick-rises b (keep (due_at b) all) due-known)) sleeps
      (λ x h.
      let k = keep-in sleeps x (keep (due_at b) all) h in
      (due-known x k.1, riser-once x, k.0))
      (λ x X. sleeps-not-1 (state_of b x))

  ticking-rouses : IfDone (λ x. values_of x ≡ roused b (play lists (events_of v x) a).book ∷ []) (asks lists a TICK)
  unfolding plan
  ticking-rouses = by-need not_done _ _ _ _ refl (λ e. record { so = λ z. ap (λ (n : ℕ). n ∷ []) tick-roused })

  -- THE COUNTS, of any sound state
  pub counts : Counts a
  counts = record {
    off = λ k nm. (off-frees lists a k nm).so;
    own = λ n s. (own-frees lists a n s).so;
    global = λ n s. (global-frees lists a n s).so;
    each = (each-frees lists a).so;
    ending = ending-wakes.so;
    clearing = λ r. (clearing-wakes r).so;
    freeing = λ r. (freeing-wakes r).so;
    tick = ticking-rouses.so;
  }
