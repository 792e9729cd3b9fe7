-- The frame (demand 3): no request but FRESH alters the record of a program that it does not concern, of any state, sound or not, under
-- any keeper; and the wait of one that is only woken is over.
-- Events name their program, so an event leaves every other record; and whom the events of a plan name
-- is known from the walk over the rules.
-- Assumes nothing.
use Prim.Native.Nat.{ℕ, ◌≤◌}
use native.Mathlib.Omega.{arith}
use native.Mathlib.Decide.{dec_le}
use mathlib.Core.Path.{◌≡◌, refl, sym, ap, ◌∙◌, subst}
use mathlib.Core.Logic.{◌≢◌}
use mathlib.Core.Bool.{Bool, true, false, cond}
use mathlib.Core.List.{List, [], ◌∷◌}
use lib.ListN.{length}
use Rattle.lists.specs.Lists.{count}
use Rattle.records.specs.Records.{Known, known, wait_over}
use Rattle.rules.specs.Book.{at}
use Rattle.rules.specs.Requests.{Request, FRESH}
use Rattle.rules.specs.Plans.{Deed, Event, on, clocked, held, numbered, renewed, release_of, wake, events_of}
use Rattle.rules.specs.Plans as plans
use Rattle.rules.specs.Keeper.{Keeper, lists, State, act, step, play, view, asks, after}
use Rattle.rules.specs.Sound.{Sound}
use Rattle.rules.specs.Frame.{Party, Concerned, party, anew, woken, Stirred, stays, wakes}
use Rattle.rules.proofs.shared.Places.{known-true, at_other}
use Rattle.rules.proofs.shared.Deeds.{made, act-put}
use Rattle.rules.proofs.shared.Parts.{Upon, upon-map, By, as-party, as-woken, own_of, in_two, play-append, Of, plan-of}
use Rattle.rules.proofs.keepers.Alike.{play-alike}
use Rattle.rules.proofs.keepers.Notes.{chained-alike}
use Rattle.rules.proofs.soundness.Keeping.{strict, before}
use Rattle.rules.proofs.soundness.Waking.{Woke, woke, woken-callable, woken-once}

module _ (K : Keeper) (x : ℕ) (X : Known x) where
  -- events about others leave a record alone
  on-frame : (p : ℕ) (d : Deed) (t : State K) → x ≢ p → at (step K (on p d) t).book x ≡ at t.book x
  unfolding step
  on-frame p d t n = go (known p) refl
    where
      go : (b : Bool) → known p ≡ b → at (cond b (act K p d t) t).book x ≡ at t.book x
      go true h = ap (λ (u : State K). at u.book x) (act-put K p d t)
          ∙ at_other t.book p (known-true p h) (made d (at t.book p)) x X n
      go false h = refl

  play-frame : (es : List Event) → Upon (λ p d. p ≢ x) ⊥ es → (t : State K) → at (play K es t).book x ≡ at t.book x
  unfolding step
  play-frame [] u t = refl
  play-frame (on p d ∷ es) u t = play-frame es u.1 (step K (on p d) t) ∙ on-frame p d t (λ e. u.0 (sym e))
  play-frame (clocked c ∷ es) u t = play-frame es u (step K (clocked c) t)
  play-frame (held h ∷ es) u t = play-frame es u (step K (held h) t)
  play-frame (numbered r ∷ es) u t = play-frame es u (step K (numbered r) t)
  play-frame (renewed T S R Y ∷ es) u t = absurd u.0

-- events that renew nothing leave the start year alone
module _ (K : Keeper) where
  play-year : (P : ℕ → Deed → Type 0) (es : List Event) → Upon P ⊥ es → (t : State K) → (play K es t).book.year ≡ t.book.year
  unfolding step
  play-year P [] u t = refl
  play-year P (on p d ∷ es) u t = play-year P es u.1 (step K (on p d) t) ∙ go (known p)
    where
      go : (b : Bool) → (cond b (act K p d t) t).book.year ≡ t.book.year
      go true = ap (λ (v : State K). v.book.year) (act-put K p d t)
      go false = refl
  play-year P (clocked c ∷ es) u t = play-year P es u (step K (clocked c) t)
  play-year P (held h ∷ es) u t = play-year P es u (step K (held h) t)
  play-year P (numbered r ∷ es) u t = play-year P es u (step K (numbered r) t)
  play-year P (renewed T S R Y ∷ es) u t = absurd u.0

-- a list that has a first is not empty
some-happen : (e : Event) (es : List Event) → (e ∷ es) ≢ []
some-happen e es i = let z = ap length i in omega (arith, z)

module _ (K : Keeper) (t : State K) (q : Request) (x : ℕ) (X : Known x) where
  abbrev Has : ℕ → Type 0
  Has p = Party (view K t) p q

  abbrev Whom : ℕ → Type 0
  Whom p = Concerned (view K t) q p

  abbrev Renews : Type 0
  Renews = (T : ℕ) × (S : ℕ) × (R : ℕ) × (Y : ℕ) × (q ≡ FRESH T S R Y)

  -- whom the events of the plan are about
  parts : Of (λ p d. Has p) Renews (view K t) (asks K t q)
  parts = plan-of (λ p d. Has p) Renews (view K t) q (record { fresh = λ T S R Y e. (T, S, R, Y, e); party = λ p l h d. h })

  -- THE FRAME
  pub frame : (Whom x → ⊥) → at (after K t q).book x ≡ at t.book x
  frame n = go (events_of (view K t) (asks K t q)) refl parts.events
    where
      go : (es : List Event) → events_of (view K t) (asks K t q) ≡ es
          → Upon (By (view K t) (λ p d. Has p) (release_of (asks K t q))) Renews es
          → at (play K es t).book x ≡ at t.book x
      go [] i u = refl
      go (e ∷ es) i u =
          let some : events_of (view K t) (asks K t q) ≢ [] = λ j. some-happen e es (sym i ∙ j) in
          play-frame K x X (e ∷ es)
          (upon-map (By (view K t) (λ p d. Has p) (release_of (asks K t q))) (λ p d. p ≢ x) Renews ⊥
          (λ p d h i. n (subst Whom i (concerned some p d h)))
          (λ f. n (anew some f.0 f.1 f.2 f.3 f.4)) (e ∷ es) u) t
        where
          concerned : events_of (view K t) (asks K t q) ≢ [] → (p : ℕ) (d : Deed)
              → By (view K t) (λ p d. Has p) (release_of (asks K t q)) p d → Whom p
          concerned some p d (as-party h) = party some h
          concerned some p d (as-woken e w) = woken w

  -- what happens before the wakings leaves one that has nothing to do with the request
  pub own-frame : ((T S R Y : ℕ) → q ≢ FRESH T S R Y) → (Has x → ⊥) → at (play K (own_of (asks K t q)) t).book x ≡ at t.book x
  own-frame old apart =
      play-frame K x X (own_of (asks K t q))
      (upon-map (λ p d. Has p) (λ p d. p ≢ x) Renews ⊥ (λ p d h e. apart (subst Has e h)) (λ f. old f.0 f.1 f.2 f.3 f.4)
      (own_of (asks K t q)) parts.own) t

-- the start year is FRESH's alone: whatever else is asked leaves it, of any state
pub year-kept : (K : Keeper) (t : State K) (q : Request) → ((T S R Y : ℕ) → q ≢ FRESH T S R Y) → (after K t q).book.year ≡ t.book.year
year-kept K t q old =
    play-year K whom (events_of (view K t) (asks K t q))
    (plan-of (λ p d. Unit {0}) ⊥ (view K t) q (record { fresh = old; party = λ p l h d. tt })).events t
  where
    whom : ℕ → Deed → Type 0
    whom = By (view K t) (λ p d. Unit {0}) (release_of (asks K t q))

-- Of sound states, in which nobody wakes twice: one that has nothing to do with the request is woken, or its record stays.
module _ (a : State lists) (S : Sound a) (q : Request) (x : ℕ) (X : Known x) (old : (T B R Y : ℕ) → q ≢ FRESH T B R Y)
    (apart : Party (view lists a) x q → ⊥) where
  abbrev risers : List ℕ
  risers = plans.woken (view lists a) (release_of (asks lists a q))

  abbrev u : State lists
  u = play lists (own_of (asks lists a q)) a

  long : length u.book.programs ≡ 32
  long =
      (play-alike (own_of (asks lists a q)) a _ (chained-alike a S.shape.programs S.shape.chains S.chains)).noted.long

  woke-risers : Woke risers u.book.programs (play lists (wake risers) u).book.programs
  woke-risers = woke risers u long (λ z h. (woken-callable (strict a) a (before a S) (release_of (asks lists a q)) z h).0)

  two : at (after lists a q).book x ≡ at (play lists (wake risers) u).book x
  two = ap (λ (es : List Event). at (play lists es a).book x) (in_two (view lists a) (asks lists a q))
      ∙ ap (λ (b : State lists). at b.book x) (play-append lists (own_of (asks lists a q)) (wake risers) a)

  same : at u.book x ≡ at a.book x
  same = own-frame lists a q x X old apart

  -- woken, it goes where its mark says, and the mark is gone
  pub woken-over : 1 ≤ count x risers → at (after lists a q).book x ≡ wait_over (at a.book x)
  woken-over h =
      two ∙ woke-risers.over x (omega (arith, h, woken-once (strict a) a (before a S) (release_of (asks lists a q)) x)) ∙ ap wait_over same

  pub stirred : Stirred (at a.book x) (at (after lists a q).book x)
  stirred = go (dec_le 1 (count x risers))
    where
      go : Dec (1 ≤ count x risers) → Stirred (at a.book x) (at (after lists a q).book x)
      go (yes h) = wakes (woken-over h)
      go (no h) = stays (two ∙ woke-risers.rest x X (omega (arith, h)) ∙ same)
