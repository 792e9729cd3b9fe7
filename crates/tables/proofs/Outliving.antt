-- A mark outlives every request but what ends the wait: what is no FRESH, and no OF of that program, leaves it waiting and marked, or sends it to
-- the suspended. So no request makes a marked program the caller, and none loses its mark on the way.
-- One that has nothing to do with the request stays or is woken (the frame); one that is named in it is refused, priced, timed or marked.
-- Of any sound tables. Assumes nothing.
use Prim.Native.Nat.{ℕ, ◌≤◌, ◌+◌}
use native.Mathlib.Omega.{arith}
use native.Mathlib.Decide.{ℕ_discrete}
use mathlib.Core.Path.{◌≡◌, refl, sym, ap, ◌∙◌, subst}
use mathlib.Core.Logic.{◌≢◌}
use mathlib.Core.Bool.{Bool, true, false, cond}
use mathlib.Core.List.{List, [], ◌∷◌}
use lib.Dec.{eqb, ltb}
use borrow.Author.Tests.{eqb-true, ltb-true}
use Rattle.lists.proofs.Tests.{clash}
use Rattle.clock.specs.Clock.{ceiling}
use Rattle.records.specs.declared.Program.{Program}
use Rattle.records.specs.declared.Why.TheVariants.{Nothing}
use Rattle.records.specs.Records.{Known, find, in_state, in_wait}
use Rattle.rules.specs.Book.{at, state_of}
use Rattle.rules.specs.Requests.{Order, RU, SS, GO, PR, OF, Call, EXEC4, EXEC15, EXEC5, EXEC16, EXEC5ALL, EXEC6, EXEC7, EXEC11, EXEC9}
use Rattle.rules.specs.Requests.{EXEC10, EXEC12, ALLOC, LOCK, CLEAR, FREE, Request, FRESH, LOAD, operator, TICK, running}
use Rattle.rules.specs.Plans.{Deed, priced, timed, marked, on, Plan, done, View, events_of}
use Rattle.rules.specs.Rules.{order, call, head, plan}
use Rattle.rules.specs.Keeper.{lists, State, play, view, asks, after, scheduled_chain}
use Rattle.rules.specs.Frame.{Party, calls, takes-name, ordered, son, started, Stirred, stays, wakes}
use Rattle.rules.specs.Frame as party
use Rattle.rules.specs.Sound as rules
use Rattle.rules.proofs.shared.Walk.{Refuses, by-need, by-either, by-named, by-inside, by-caller}
use Rattle.rules.proofs.shared.Finding.{unused-is, head_in}
use Rattle.rules.proofs.shared.Deeds.{made, step-turned}
use Rattle.rules.proofs.soundness.Fine.{used-if}
use Rattle.rules.proofs.soundness.Keeping.{strict, before}
use Rattle.rules.proofs.soundness.Waking.{chained}
use Rattle.rules.proofs.frame.FrameLaws.{stirred}
use Rattle.tables.specs.declared.Tables.{Tables}
use Rattle.tables.specs.Tables.{plain, Arrays}
use Rattle.tables.specs.Sound.{sound}
use Rattle.tables.specs.Calls.{asked}
use Rattle.tables.specs.Demand.{Fate, waits-on, suspended, moved, on_tick}
use Rattle.tables.proofs.Agree.{sound-clauses}
use Rattle.tables.proofs.Plain.{sound-plain}
use Rattle.tables.proofs.Demanded.{after_is}
use Rattle.tables.proofs.TickRecords.{ticked}

-- it waits on
pub record Stays (r s : Program) : Type 0 where
  pub state : s.state ≡ r.state
  pub why : s.why ≡ r.why
  pub mark : s.suspend ≡ true

-- of a plain state that is sound, and a marked program in it
module _ (a : State lists) (S : rules.Sound a) (p : ℕ) (P : Known p) (m : (at a.book p).suspend ≡ true) where
  abbrev v : View
  v = view lists a

  abbrev r : Program
  r = at a.book p

  not_in : (s : ℕ) → in_wait s ≡ false → state_of a.book p ≢ s
  not_in s n e = clash (S.marks.waiters p P m) (ap in_wait e ∙ n)

  used : r.used ≡ true
  used = used-if (strict a) a (before a S) p P (λ i. clash {t = false} (ap (λ (x : Program). x.suspend) (sym i) ∙ m) refl)

  -- a plan after which p waits on
  record On (x : Plan) : Type 0 where
    stays-so : Stays r (at (play lists (events_of v x) a).book p)

  here : Stays r r
  here = record { state = refl; why = refl; mark = m }

  refusing : Refuses On
  refusing = record { listed = λ n w l. record { stays-so = here } }

  -- one deed of p
  deed : (vs : List ℕ) (x : ℕ) (d : Deed) → x ≡ p → Stays r (made d r) → On (done vs (on x d ∷ []))
  deed vs x d e h =
      subst (λ (y : ℕ). On (done vs (on y d ∷ []))) (sym e)
      (record { stays-so = subst (Stays r) (sym (step-turned lists p P d a S.shape.programs).here) h })

  -- what the operator asks of it, but OF
  ordered-on : (o : Order) (x : ℕ) → x ≡ p → ((k : ℕ) → o ≢ OF k) → On (order v o x)
  unfolding order
  ordered-on RU x e n = by-inside refusing v x 0 _ (λ z. absurd (not_in 0 refl (ap (state_of a.book) (sym e) ∙ z)))
  ordered-on SS x e n =
      by-either refusing _ _ _
      (λ w. by-either refusing _ _ _ (λ k. record { stays-so = here })
      (deed (0 ∷ []) x marked e (record { state = refl; why = refl; mark = refl })))
      (by-inside refusing v x 1 _ (λ z. absurd (not_in 1 refl (ap (state_of a.book) (sym e) ∙ z))))
  ordered-on GO x e n = by-inside refusing v x 6 _ (λ z. absurd (not_in 6 refl (ap (state_of a.book) (sym e) ∙ z)))
  ordered-on (PR k) x e n = deed _ x (priced k) e (record { state = refl; why = refl; mark = m })
  ordered-on (OF k) x e n = absurd (n k refl)

  -- a call that names it
  named-9 : (nm : List ℕ) → find a.book.programs nm ≡ p → (c : ℕ) → On (call v c (EXEC9 nm))
  unfolding call
  named-9 nm e c =
      by-named refusing v nm _ (λ h. by-inside refusing v _ 0 _ (λ z. absurd (not_in 0 refl (ap (state_of a.book) (sym e) ∙ z))))

  named-10 : (nm : List ℕ) → find a.book.programs nm ≡ p → (c : ℕ) → On (call v c (EXEC10 nm))
  unfolding call
  named-10 nm e c =
      by-named refusing v nm _ (λ h. by-inside refusing v _ 0 _ (λ z. absurd (not_in 0 refl (ap (state_of a.book) (sym e) ∙ z))))

  named-12 : (nm : List ℕ) (x y z : ℕ) → find a.book.programs nm ≡ p → (c : ℕ) → On (call v c (EXEC12 nm x y z))
  unfolding call
  named-12 nm x y z e c =
      by-need refusing _ _ _ _ refl
      (λ l. by-named refusing v nm _ (λ h. deed _ _ (timed _ _) e (record { state = refl; why = refl; mark = m })))

  -- so of the requests
  abbrev Became : Request → Type 0
  Became q = Fate r (at (after lists a q).book p)

  on-fate : (q : Request) → On (asks lists a q) → Became q
  on-fate q o = waits-on o.stays-so.state o.stays-so.why o.stays-so.mark

  bystander : (q : Request) → ((T B R Y : ℕ) → q ≢ FRESH T B R Y) → (Party v p q → ⊥) → Became q
  bystander q old apart = go (at (after lists a q).book p) (stirred a S q p P old apart)
    where
      go : (s : Program) → Stirred r s → Fate r s
      go s (stays e) =
          waits-on (ap (λ (x : Program). x.state) e) (ap (λ (x : Program). x.why) e) (ap (λ (x : Program). x.suspend) e ∙ m)
      go s (wakes e) = suspended (e ∙ ap (λ (b : Bool). in_state (cond b 6 1) Nothing r) m)

  -- it is not the caller
  not-head : head (scheduled_chain lists a) ≢ p
  not-head e =
      let h : 1 ≤ head (scheduled_chain lists a) = omega (arith, e, P.0) in
      not_in 1 refl
      (ap (state_of a.book) (sym e)
      ∙ (chained (strict a) a (before a S) 1 (omega arith) (omega arith) (head (scheduled_chain lists a))
      (head_in (scheduled_chain lists a) h)).1)

  abbrev Unnamed : Call → Type 0
  Unnamed (EXEC4 n w) = Unit {0}
  Unnamed (EXEC15 n w) = Unit {0}
  Unnamed (EXEC5 n s) = Unit {0}
  Unnamed (EXEC16 n s) = Unit {0}
  Unnamed EXEC5ALL = Unit {0}
  Unnamed EXEC6 = Unit {0}
  Unnamed EXEC7 = Unit {0}
  Unnamed EXEC11 = Unit {0}
  Unnamed (EXEC9 nm) = find a.book.programs nm ≢ p
  Unnamed (EXEC10 nm) = find a.book.programs nm ≢ p
  Unnamed (EXEC12 nm x y z) = find a.book.programs nm ≢ p
  Unnamed (ALLOC g w) = Unit {0}
  Unnamed (LOCK n w) = Unit {0}
  Unnamed (CLEAR n) = Unit {0}
  Unnamed (FREE n) = Unit {0}

  other : (c : Call) → Unnamed c → Party v p (running c) → ⊥
  other _ u (calls c e) = not-head e
  other _ u (son nm e) = u e
  other _ u (started nm e) = u e
  other _ u (party.timed nm x y z e) = u e

  by_call : (c : Call) → Unnamed c → Became (running c)
  by_call c u = bystander (running c) (λ T B R Y e. let o : ◌≡◌ {A = ℕ} 0 1 = cc in omega arith) (other c u)

  called_on : (c : Call) → ((x : ℕ) → On (call v x c)) → Became (running c)
  unfolding plan
  called_on c f = on-fate (running c) (by-caller refusing v (λ x. call v x c) (λ h. f (head (scheduled_chain lists a))))

  running-fate : (c : Call) → Became (running c)
  running-fate (EXEC4 n w) = by_call _ tt
  running-fate (EXEC15 n w) = by_call _ tt
  running-fate (EXEC5 n s) = by_call _ tt
  running-fate (EXEC16 n s) = by_call _ tt
  running-fate EXEC5ALL = by_call EXEC5ALL tt
  running-fate EXEC6 = by_call EXEC6 tt
  running-fate EXEC7 = by_call EXEC7 tt
  running-fate EXEC11 = by_call EXEC11 tt
  running-fate (EXEC9 nm) = go (ℕ_discrete (find a.book.programs nm) p)
    where
      go : Dec (find a.book.programs nm ≡ p) → Became (running (EXEC9 nm))
      go (yes e) = called_on (EXEC9 nm) (named-9 nm e)
      go (no n) = by_call (EXEC9 nm) n
  running-fate (EXEC10 nm) = go (ℕ_discrete (find a.book.programs nm) p)
    where
      go : Dec (find a.book.programs nm ≡ p) → Became (running (EXEC10 nm))
      go (yes e) = called_on (EXEC10 nm) (named-10 nm e)
      go (no n) = by_call (EXEC10 nm) n
  running-fate (EXEC12 nm x y z) = go (ℕ_discrete (find a.book.programs nm) p)
    where
      go : Dec (find a.book.programs nm ≡ p) → Became (running (EXEC12 nm x y z))
      go (yes e) = called_on (EXEC12 nm x y z) (named-12 nm x y z e)
      go (no n) = by_call (EXEC12 nm x y z) n
  running-fate (ALLOC g w) = by_call _ tt
  running-fate (LOCK n w) = by_call _ tt
  running-fate (CLEAR n) = by_call _ tt
  running-fate (FREE n) = by_call _ tt

  operator-fate : (o : Order) (nm : List ℕ) → ((k : ℕ) → o ≡ OF k → find a.book.programs nm ≢ p) → Became (operator o nm)
  unfolding plan
  operator-fate o nm n = go (ℕ_discrete (find a.book.programs nm) p)
    where
      go : Dec (find a.book.programs nm ≡ p) → Became (operator o nm)
      go (yes e) =
          on-fate (operator o nm)
          (by-need refusing _ _ _ _ refl (λ l. by-named refusing v nm _ (λ h. ordered-on o _ e (λ k i. n k i e))))
      go (no d) =
          bystander (operator o nm) (λ T B R Y e. let i : ◌≡◌ {A = ℕ} 0 1 = cc in omega arith) apart
        where
          apart : Party v p (operator o nm) → ⊥
          apart (ordered q w e) = d e

  load-fate : (nm : List ℕ) (n : ℕ) → Became (LOAD nm n)
  load-fate nm n = bystander (LOAD nm n) (λ T B R Y e. let i : ◌≡◌ {A = ℕ} 0 1 = cc in omega arith) apart
    where
      apart : Party v p (LOAD nm n) → ⊥
      apart (takes-name w k e) =
          clash (ap (λ (x : ℕ). (at a.book x).used) e ∙ used) (unused-is a.book.programs (omega (arith, e, P.0)))

  -- a tick that is refused
  late : (ltb a.book.clock ceiling ≡ true → ⊥) → Became TICK
  unfolding plan
  late n = on-fate TICK (by-need refusing _ _ _ _ refl (λ e. absurd (n e)))

-- THE FATE OF A MARK, of any sound tables
module _ (t : Tables) (A : Arrays t) (e : sound t ≡ true) (p : ℕ) (P : Known p) (m : (at (plain t).book p).suspend ≡ true) where
  S : rules.Sound (plain t)
  S = sound-plain t A (sound-clauses t e)

  of-after : (q : Request) → Became (plain t) S p P m q → Fate (at (plain t).book p) (at (plain (asked t q).tables).book p)
  of-after q = subst (λ (b : State lists). Fate (at (plain t).book p) (at b.book p)) (sym (after_is t A e q))

  -- a tick that is done
  moves-on : (now : ℕ) → Fate (at (plain t).book p) (on_tick now (at (plain t).book p))
  moves-on now = go (eqb (at (plain t).book p).due now) (eqb (state_of (plain t).book p) 0) refl
    where
      go : (b c : Bool) → eqb (state_of (plain t).book p) 0 ≡ c
          → Fate (at (plain t).book p) (cond b (cond c (in_state 1 Nothing (moved (at (plain t).book p))) (moved (at (plain t).book p)))
          (at (plain t).book p))
      go true true z = absurd (not_in (plain t) S p P m 0 refl (eqb-true (state_of (plain t).book p) 0 z))
      go true false z = waits-on refl refl m
      go false c z = waits-on refl refl m

  tick-fate : Fate (at (plain t).book p) (at (plain (asked t TICK).tables).book p)
  tick-fate = go (ltb (plain t).book.clock ceiling) refl
    where
      go : (b : Bool) → ltb (plain t).book.clock ceiling ≡ b → Fate (at (plain t).book p) (at (plain (asked t TICK).tables).book p)
      go true l =
          subst (Fate (at (plain t).book p)) (sym ((ticked t A e (ltb-true (plain t).book.clock ceiling l)).records p P))
          (moves-on ((plain t).book.clock + 1))
      go false l = of-after TICK (late (plain t) S p P m (λ w. clash w l))

  pub outlives : (q : Request) → ((T B R Y : ℕ) → q ≢ FRESH T B R Y)
      → ((k : ℕ) (nm : List ℕ) → q ≡ operator (OF k) nm → find (plain t).book.programs nm ≢ p)
      → Fate (at (plain t).book p) (at (plain (asked t q).tables).book p)
  outlives (FRESH T B R Y) old n = absurd (old T B R Y refl)
  outlives (LOAD nm k) old n = of-after (LOAD nm k) (load-fate (plain t) S p P m nm k)
  outlives (operator o nm) old n =
      of-after (operator o nm) (operator-fate (plain t) S p P m o nm (λ k i. n k nm (ap (λ (x : Order). operator x nm) i)))
  outlives TICK old n = tick-fate
  outlives (running c) old n = of-after (running c) (running-fate (plain t) S p P m c)
