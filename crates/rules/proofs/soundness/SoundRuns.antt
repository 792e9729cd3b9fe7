-- Sound states stay sound: under every request, and so under every run of requests. Each request keeps soundness by the parts of its rule.
-- Assumes nothing.
use Prim.Native.Nat.{ℕ, ◌+◌, ◌≤◌}
use native.Mathlib.Omega.{arith}
use mathlib.Core.Path.{◌≡◌, refl}
use mathlib.Core.Bool.{true, ◌&&◌}
use mathlib.Core.List.{List, [], ◌∷◌}
use lib.Dec.{leb, ltb, eqb}
use borrow.Author.Tests.{leb-true, ltb-true, eqb-true}
use Rattle.lists.specs.Lists.{count}
use Rattle.lists.proofs.Tests.{both, up_to-true}
use Rattle.clock.specs.Clock.{ceiling}
use Rattle.records.specs.declared.Why.TheVariants.{Nothing}
use Rattle.records.specs.Names.{legal}
use Rattle.records.specs.Records.{Known, find, lowest_unused}
use Rattle.tracks.specs.Tracks.{nobody, replaced}
use Rattle.rules.specs.Requests.{Order, RU, SS, GO, PR, OF, Request, FRESH, LOAD, operator, TICK, running}
use Rattle.rules.specs.Plans.{priced, loaded, marked, on, Release}
use Rattle.rules.specs.Rules.{allowed, order, call, ends_in, ends, may_start, plan}
use Rattle.rules.specs.Keeper.{lists, State, step, view, after}
use Rattle.rules.specs.Sound.{Sound}
use Rattle.rules.proofs.shared.Finding.{find_none, unused-known, unused-is}
use Rattle.rules.proofs.soundness.Fine.{Fine, fine-sound}
use Rattle.rules.proofs.soundness.Apt.{fine-on}
use Rattle.rules.proofs.soundness.Making.{nothing-childless, apt-priced, apt-marked, apt-loaded}
use Rattle.rules.proofs.soundness.Waking.{Callable}
use Rattle.rules.proofs.soundness.Ending.{off-fine}
use Rattle.rules.proofs.shared.Settling.{off-events}
use Rattle.rules.proofs.soundness.Ticking.{tick-fine}
use Rattle.rules.proofs.soundness.SoundFresh.{sound-fresh}
use Rattle.rules.proofs.shared.Walk.{by-need, by-either, by-inside}
use Rattle.rules.proofs.soundness.Keeping.{Keeps, strict, refusing, before, keeps, keeps-named, keeps-caller, become-fine}
use Rattle.rules.proofs.soundness.SoundCalls.{keeps-call}
use Rattle.rules.proofs.Statements.{runs}

module _ (a : State lists) (S : Sound a) where
  keeps-order : (o : Order) → allowed o ≡ true → (p : ℕ) → Callable a.book.programs p → Keeps a (order (view lists a) o p)
  unfolding order ends_in
  keeps-order RU e p P =
      by-inside (refusing a S) _ p 0 _ λ z. keeps a S _ (become-fine a S p P 1 Nothing refl nothing-childless (λ i. omega arith))
  keeps-order SS e p P =
      by-either (refusing a S) _ _ _
      (λ w. by-either (refusing a S) _ _ _ (λ m. keeps a S _ (before a S))
      (keeps a S _ (fine-on (strict a) p P.0 marked a (before a S) (apt-marked (strict a) a (before a S) p P.0 P.1 w))))
      (by-inside (refusing a S) _ p 1 _ λ z. keeps a S _ (become-fine a S p P 6 Nothing refl nothing-childless (λ i. omega arith)))
  keeps-order GO e p P =
      by-inside (refusing a S) _ p 6 _ λ z. keeps a S _ (become-fine a S p P 1 Nothing refl nothing-childless (λ i. omega arith))
  keeps-order (PR n) e p P =
      keeps a S _ (fine-on (strict a) p P.0 (priced n) a (before a S)
      (apt-priced (strict a) a (before a S) p P.0 P.1 n (up_to-true 1 32767 n e).1))
  keeps-order (OF k) e p P =
      let R : Release = ends (view lists a) p (count p a.book.holders) in
      keeps a S _ (rw (off-events (view lists a) p k (replaced p nobody a.book.holders) R)
      (off-fine a.book.clock a (before a S) R P.0 P.1 k))

  keeps-load : (nm : List ℕ) (n : ℕ) → legal nm ≡ true → n ≤ 32767 → find a.book.programs nm ≡ 0 → 1 ≤ lowest_unused a.book.programs
      → Fine (strict a) (step lists (on (lowest_unused a.book.programs) (loaded nm n)) a)
  keeps-load nm n l m f k =
      let p : ℕ = lowest_unused a.book.programs in
      let P : Known p = unused-known a.book.programs k in
      fine-on (strict a) p P (loaded nm n) a (before a S)
      (apt-loaded (strict a) a (before a S) p P nm n (unused-is a.book.programs k) l m (find_none a.book.programs nm f))

  keeps-plan : (q : Request) → Keeps a (plan (view lists a) q)
  unfolding plan step
  keeps-plan (FRESH T B R Y) = by-need (refusing a S) (may_start T B R Y) 3 0 _ refl λ e. record { sound = sound-fresh T B R Y e }
  keeps-plan (LOAD nm n) =
      by-need (refusing a S) (legal nm && leb n 32767) 3 0 _ refl λ d.
      by-need (refusing a S) (eqb (find a.book.programs nm) 0) 6 0 _ refl λ e.
      by-need (refusing a S) (ltb 0 (lowest_unused a.book.programs)) 7 0 _ refl λ f.
      let h = both (legal nm) (leb n 32767) d in
      keeps a S _ (keeps-load nm n h.0 (leb-true n 32767 h.1) (eqb-true (find a.book.programs nm) 0 e)
      (ltb-true 0 (lowest_unused a.book.programs) f))
  keeps-plan (operator o nm) =
      by-need (refusing a S) (allowed o) 3 0 _ refl λ e. keeps-named a S nm (order (view lists a) o) (keeps-order o e)
  keeps-plan TICK =
      by-need (refusing a S) (ltb a.book.clock ceiling) 11 0 _ refl λ e.
      record { sound = fine-sound (a.book.clock + 1) _ (tick-fine a (before a S) (ltb-true a.book.clock ceiling e)) }
  keeps-plan (running c) = keeps-caller a S (λ p. call (view lists a) p c) (λ p C. keeps-call a S p C c)

-- a request, and a run of requests
pub sound-after : (a : State lists) → Sound a → (q : Request) → Sound (after lists a q)
sound-after a S q = (keeps-plan a S q).sound

pub sound-runs : (a : State lists) → Sound a → (qs : List Request) → Sound (runs lists a qs)
sound-runs a S [] = S
sound-runs a S (q ∷ qs) = sound-runs (after lists a q) (sound-after a S q) qs
