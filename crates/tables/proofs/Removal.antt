-- A program is removed while another waits for it: after OF 8 the wait of that one is over, the name
-- is free, and no why names the record.
-- The waking comes last among the events of OF. Who waited stands in chain 3 for a reason that is gone, so it is among the woken. The
-- others keep their names, of which no two were alike; and the record is unused, while sound tables ask of every son that it is used.
-- Of any sound tables. Assumes nothing.
use Prim.Native.Nat.{ℕ, ◌≤◌}
use native.Mathlib.Omega.{arith}
use native.Mathlib.Decide.{ℕ_discrete}
use mathlib.Core.Path.{◌≡◌, refl, sym, ap, ◌∙◌, subst}
use mathlib.Core.Logic.{◌≢◌}
use mathlib.Core.Bool.{true, false}
use mathlib.Core.List.{List}
use Rattle.lists.specs.Lists.{count}
use Rattle.lists.proofs.Tests.{clash}
use Rattle.records.specs.declared.Program.{Program}
use Rattle.records.specs.declared.Why.TheVariants.{Son}
use Rattle.records.specs.Names.{legal}
use Rattle.records.specs.Records.{Known, find, unused, wait_over}
use Rattle.tracks.specs.Tracks.{nobody, replaced}
use Rattle.rules.specs.Book.{at, why_of}
use Rattle.rules.specs.Requests.{OF, Request, FRESH, operator}
use Rattle.rules.specs.Plans.{Plan, Release, on, unloaded, held, wake, woken, number_of, events_of}
use Rattle.rules.specs.Rules.{plan, order, ends_in, ends, quit}
use Rattle.rules.specs.Keeper.{lists, State, step, play, view, asks, after}
use Rattle.rules.specs.Frame.{Party, ordered, Stirred, stays, wakes}
use Rattle.rules.specs.Sound as rules
use Rattle.rules.proofs.shared.Paths.{need-met, named-found}
use Rattle.rules.proofs.shared.Finding.{Bears, find-bears}
use Rattle.rules.proofs.shared.Deeds.{Turned, step-turned}
use Rattle.rules.proofs.soundness.Fine.{sound-fine}
use Rattle.rules.proofs.soundness.Keeping.{strict, before}
use Rattle.rules.proofs.soundness.Waking.{woke, woken-callable, woken-once, woken-other, son-woken}
use Rattle.rules.proofs.frame.FrameLaws.{stirred}
use Rattle.rules.proofs.soundness.SoundRuns.{sound-after}
use Rattle.tables.specs.declared.Tables.{Tables}
use Rattle.tables.specs.Tables.{plain, Arrays}
use Rattle.tables.specs.Sound.{sound}
use Rattle.tables.specs.Calls.{Result, served, asked}
use Rattle.tables.specs.Demand.{Removed}
use Rattle.tables.proofs.Agree.{sound-clauses}
use Rattle.tables.proofs.Plain.{sound-plain}
use Rattle.tables.proofs.Serving.{asked-sound}
use Rattle.tables.proofs.Demanded.{after_is}

-- what the ending of p sets free, who wakes, and the state at which they wake: p's record is unused, its
-- tracks and numbers have passed to nobody
abbrev released : State lists → ℕ → Release
released a p = ends (view lists a) p (count p a.book.holders)

abbrev risers : State lists → ℕ → List ℕ
risers a p = woken (view lists a) (released a p)

abbrev gone : State lists → ℕ → State lists
gone a p = step lists (quit (view lists a) p) (step lists (held (replaced p nobody a.book.holders)) (step lists (on p unloaded) a))

-- a record that stays or is woken keeps its name and is used if it was
stirred-name : (r s : Program) → Stirred r s → (s.used ≡ r.used) × (s.name ≡ r.name)
stirred-name r s (stays e) = (ap (λ (x : Program). x.used) e, ap (λ (x : Program). x.name) e)
stirred-name r s (wakes e) = (ap (λ (x : Program). x.used) e, ap (λ (x : Program). x.name) e)

-- of a plain state that is sound
module _ (a : State lists) (S : rules.Sound a) (nm : List ℕ) (h : 1 ≤ find a.book.programs nm) where
  abbrev p : ℕ
  p = find a.book.programs nm

  abbrev q : Request
  q = operator (OF 8) nm

  B : Bears a.book.programs nm p
  B = find-bears a.book.programs nm h

  lawful : legal nm ≡ true
  lawful = subst (λ (x : List ℕ). legal x ≡ true) B.name (S.names.lawful p B.known B.used)

  off-plan : asks lists a q ≡ order (view lists a) (OF 8) p
  unfolding plan
  off-plan = need-met 3 0 _ refl ∙ named-found (view lists a) nm _ p lawful refl h

  off-number : number_of (asks lists a q) ≡ 0
  unfolding order
  off-number = ap number_of off-plan

  off-after : after lists a q ≡ play lists (wake (risers a p)) (gone a p)
  unfolding order
  off-after = ap (λ (x : Plan). play lists (events_of (view lists a) x) a) off-plan

  -- the records at the waking: p's is unused
  turned : Turned p unused a.book.programs (gone a p).book.programs
  unfolding step
  turned = step-turned lists p B.known unloaded a S.shape.programs

  riser-known : (x : ℕ) → 1 ≤ count x (risers a p) → Known x
  riser-known x k = (woken-callable (strict a) a (before a S) (released a p) x k).0

  -- p itself is not woken, and so stays unused
  p-out : count p (risers a p) ≡ 0
  unfolding ends_in
  p-out = go (ℕ_discrete (count p (risers a p)) 0)
    where
      go : Dec (count p (risers a p) ≡ 0) → count p (risers a p) ≡ 0
      go (yes z) = z
      go (no z) = absurd (woken-other (strict a) a (before a S) (released a p) B.known p (omega (arith, z)) refl)

  off-unused : at (after lists a q).book p ≡ unused
  off-unused =
      ap (λ (x : State lists). at x.book p) off-after
      ∙ (woke (risers a p) (gone a p) turned.long riser-known).rest p B.known p-out ∙ turned.here

  -- nobody bears the name
  bears-none : (z : ℕ) → Bears (after lists a q).book.programs nm z → Dec (z ≡ p) → ⊥
  bears-none z Z (yes e) = clash {t = false}
      (ap (λ (x : Program). x.used) (sym off-unused) ∙ ap (λ (x : ℕ). (at (after lists a q).book x).used) (sym e) ∙ Z.used) refl
  bears-none z Z (no n) =
      let s = stirred-name (at a.book z) (at (after lists a q).book z) (stirred a S q z Z.known other apart) in
      n (S.names.distinct z p Z.known B.known (sym s.0 ∙ Z.used) B.used (sym s.1 ∙ Z.name ∙ sym B.name))
    where
      other : (T O R Y : ℕ) → q ≢ FRESH T O R Y
      other T O R Y e = let o : ◌≡◌ {A = ℕ} 0 1 = cc in omega arith

      apart : Party (view lists a) z q → ⊥
      apart (ordered o m e) = n (sym e)

  off-unnamed : find (after lists a q).book.programs nm ≡ 0
  off-unnamed = go (ℕ_discrete (find (after lists a q).book.programs nm) 0)
    where
      z : ℕ
      z = find (after lists a q).book.programs nm

      go : Dec (z ≡ 0) → z ≡ 0
      go (yes e) = e
      go (no n) = absurd (bears-none z (find-bears (after lists a q).book.programs nm (omega (arith, n))) (ℕ_discrete z p))

  off-unawaited : (x : ℕ) → Known x → why_of (after lists a q).book x ≢ Son p
  off-unawaited x X w =
      let F = sound-fine (after lists a q) (sound-after a S q) in
      let u = (F.sons x p X w).used (λ e. omega (arith, h, e)) in
      clash {t = false} (ap (λ (r : Program). r.used) (sym off-unused) ∙ u) refl

  -- f waited for p
  module _ (f : ℕ) (X : Known f) (w : why_of a.book f ≡ Son p) where
    riser : 1 ≤ count f (risers a p)
    unfolding ends_in
    riser = son-woken (strict a) a (before a S) (released a p) B.known f X (λ e. ((before a S).sons f p X w).other (sym e)) w

    other : f ≢ p
    other e = ((before a S).sons f p X w).other (sym e)

    -- its wait is over, which began before the ending
    off-over : at (after lists a q).book f ≡ wait_over (at a.book f)
    off-over =
        ap (λ (x : State lists). at x.book f) off-after
        ∙ (woke (risers a p) (gone a p) turned.long riser-known).over f
        (omega (arith, riser, woken-once (strict a) a (before a S) (released a p) f))
        ∙ ap wait_over (turned.rest f X other)

-- THE REMOVAL, of any sound tables
pub removed : (t : Tables) → Arrays t → sound t ≡ true → (nm : List ℕ) (f : ℕ) → Known f → 1 ≤ find (plain t).book.programs nm
    → why_of (plain t).book f ≡ Son (find (plain t).book.programs nm) → Removed t nm f
unfolding served
removed t A e nm f X h w =
    let S : rules.Sound (plain t) = sound-plain t A (sound-clauses t e) in
    let i : plain (asked t (operator (OF 8) nm)).tables ≡ after lists (plain t) (operator (OF 8) nm) =
    after_is t A e (operator (OF 8) nm) in
    record {
      done = ap (λ (r : Result). r.number) (asked-sound t (operator (OF 8) nm) e) ∙ off-number (plain t) S nm h;
      over = ap (λ (x : State lists). at x.book f) i ∙ off-over (plain t) S nm h f X w;
      unnamed = ap (λ (x : State lists). find x.book.programs nm) i ∙ off-unnamed (plain t) S nm h;
      unawaited = λ x Z k. off-unawaited (plain t) S nm h x Z (ap (λ (y : State lists). why_of y.book x) (sym i) ∙ k);
    }
