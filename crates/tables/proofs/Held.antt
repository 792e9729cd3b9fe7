-- SS of a program that waits is held in its record till the wait is over; and whoever is woken goes where its mark says. Of any sound tables.
-- Assumes nothing.
use Prim.Native.Nat.{ℕ, ◌≤◌}
use mathlib.Core.Path.{◌≡◌, refl, sym, ap, ◌∙◌, subst}
use mathlib.Core.Logic.{◌≢◌}
use mathlib.Core.Bool.{Bool, true, false}
use mathlib.Core.List.{List, [], ◌∷◌}
use Rattle.lists.specs.Lists.{count}
use Rattle.records.specs.Names.{legal}
use Rattle.records.specs.Records.{Known, find, in_wait, with_mark}
use Rattle.rules.specs.Book.{at, state_of}
use Rattle.rules.specs.Requests.{SS, Request, FRESH, operator}
use Rattle.rules.specs.Plans.{Plan, done, on, marked, release_of, woken, events_of}
use Rattle.rules.specs.Rules.{plan, order}
use Rattle.rules.specs.Keeper.{lists, State, amend, act, play, view, asks}
use Rattle.rules.specs.Frame.{Party}
use Rattle.rules.specs.Sound as rules
use Rattle.rules.proofs.shared.Paths.{need-met, either-so, either-not, named-found}
use Rattle.rules.proofs.shared.Finding.{Bears, find-bears}
use Rattle.rules.proofs.frame.FrameLaws.{woken-over}
use Rattle.tables.specs.declared.Tables.{Tables}
use Rattle.tables.specs.Tables.{plain, Arrays}
use Rattle.tables.specs.Sound.{sound}
use Rattle.tables.specs.Calls.{Result, planned, asked}
use Rattle.tables.specs.Demand.{Held, Over}
use Rattle.tables.proofs.Agree.{sound-clauses}
use Rattle.tables.proofs.Plain.{sound-plain}
use Rattle.tables.proofs.Serving.{asked-sound, served-planned}
use Rattle.tables.proofs.Demanded.{after_is}
use Rattle.tables.proofs.Turns.{act-step}

module _ (t : Tables) (A : Arrays t) (e : sound t ≡ true) where
  S : rules.Sound (plain t)
  S = sound-plain t A (sound-clauses t e)

  module _ (nm : List ℕ) (h : 1 ≤ find (plain t).book.programs nm) where
    abbrev p : ℕ
    p = find (plain t).book.programs nm

    B : Bears (plain t).book.programs nm p
    B = find-bears (plain t).book.programs nm h

    lawful : legal nm ≡ true
    lawful = subst (λ (x : List ℕ). legal x ≡ true) B.name (S.names.lawful p B.known B.used)

    -- what it comes to
    module _ (w : in_wait (state_of (plain t).book p) ≡ true) where
      held-plan : (x : Plan) → order (view lists (plain t)) SS p ≡ x → asks lists (plain t) (operator SS nm) ≡ x
      unfolding plan
      held-plan x i = need-met 3 0 _ refl ∙ named-found (view lists (plain t)) nm _ p lawful refl h ∙ i

      twice : (at (plain t).book p).suspend ≡ true → asks lists (plain t) (operator SS nm) ≡ done (0 ∷ []) []
      unfolding order
      twice m = held-plan (done (0 ∷ []) []) (either-so _ _ w ∙ either-so _ _ m)

      once : (at (plain t).book p).suspend ≡ false → asks lists (plain t) (operator SS nm) ≡ done (0 ∷ []) (on p marked ∷ [])
      unfolding order
      once m = held-plan (done (0 ∷ []) (on p marked ∷ [])) (either-so _ _ w ∙ either-not _ _ m)

      told : (x : Plan) → asks lists (plain t) (operator SS nm) ≡ x → asked t (operator SS nm) ≡ planned t x
      told x i = asked-sound t (operator SS nm) e ∙ served-planned t (operator SS nm) ∙ ap (planned t) i

      note : State lists
      note = amend lists p (with_mark (at (plain t).book p)) (plain t)

      note-act : act lists p marked (plain t) ≡ note
      unfolding act note
      note-act = refl

      pub held : Held t nm p
      unfolding note
      held = record {
        done = either_way (λ r. r.number ≡ 0) refl refl;
        value = either_way (λ r. r.values ≡ 0 ∷ []) refl refl;
        again = λ m. ap (λ (r : Result). r.tables) (told (done (0 ∷ []) []) (twice m));
        marks = λ m.
            after_is t A e (operator SS nm)
            ∙ ap (λ (x : Plan). play lists (events_of (view lists (plain t)) x) (plain t)) (once m)
            ∙ sym (act-step p B.known marked (plain t)) ∙ note-act;
      }
        where
          either_way : (Q : Result → Type 0) → Q (planned t (done (0 ∷ []) [])) → Q (planned t (done (0 ∷ []) (on p marked ∷ [])))
              → Q (asked t (operator SS nm))
          either_way Q x y = go (at (plain t).book p).suspend refl
            where
              go : (b : Bool) → (at (plain t).book p).suspend ≡ b → Q (asked t (operator SS nm))
              go true m = subst Q (sym (told _ (twice m))) x
              go false m = subst Q (sym (told _ (once m))) y

  -- whoever is woken goes to state 1, or to 6 where its mark stood, which is gone
  pub over : (q : Request) → ((T B R Y : ℕ) → q ≢ FRESH T B R Y) → (p : ℕ) → Known p → (Party (view lists (plain t)) p q → ⊥)
      → 1 ≤ count p (woken (view lists (plain t)) (release_of (asks lists (plain t) q))) → Over t q p
  over q old p P apart h = ap (λ (a : State lists). at a.book p) (after_is t A e q) ∙ woken-over (plain t) S q p P old apart h
