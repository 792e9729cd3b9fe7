-- Fresh tables are sound. Every record is unused, every chain empty, every number free, and the tracks from S up are nobody's.
-- Assumes nothing.
use Prim.Native.Nat.{ℕ, suc, ◌+◌, ◌-◌, ◌≤◌, ◌<◌}
use native.Mathlib.Omega.{arith}
use native.Mathlib.Decide.{dec_le}
use mathlib.Core.Path.{◌≡◌, refl, sym, ap, ◌∙◌, subst}
use mathlib.Core.Bool.{true}
use mathlib.Core.List.{List, [], ◌++◌}
use lib.ListN.{length, get_or, replicate, length-append, length-replicate, get_or-replicate, get_or-append}
use lib.Seq.{get_or-append-add}
use Rattle.lists.specs.Lists.{same}
use Rattle.lists.proofs.Laws.{same-ne}
use Rattle.lists.proofs.Tests.{clash}
use Rattle.clock.specs.Clock.{farthest}
use Rattle.records.specs.declared.Program.{Program}
use Rattle.records.specs.Records.{unused}
use Rattle.records.specs.Numbers.{free}
use Rattle.tracks.specs.Tracks.{nobody, system}
use Rattle.rules.specs.Rules.{may_start}
use Rattle.rules.specs.Keeper.{lists, fresh}
use Rattle.rules.specs.Sound.{Sound}
use Rattle.rules.proofs.shared.Places.{fresh_at}
use Rattle.rules.proofs.shared.Starting.{starts-true}
use Rattle.rules.proofs.soundness.Chaining.{Chain, Ordered}
use Rattle.rules.proofs.soundness.Fine.{exact, Right, Uses, Holds, Tracked, Owned, Fine, fine-sound}
use Rattle.rules.proofs.soundness.Making.{nothing-childless, right-unused}
use Rattle.rules.proofs.soundness.Passing.{owned-free}

fresh-chain : (s : ℕ) → 1 ≤ s → Chain (replicate 32 unused) s []
fresh-chain s l = record {
  member = λ p P. sym (ap (λ (r : Program). same r.state s) (fresh_at p P) ∙ same-ne 0 s (λ e. omega arith));
  within = λ p h. absurd (omega arith);
  rising = tt;
}

fresh-order : Ordered (replicate 32 unused) (replicate 7 [])
fresh-order = record {
  long = length-replicate 32 unused;
  seven = refl;
  dormant = refl;
  chain = λ s l m. subst (Chain (replicate 32 unused) s) (sym (get_or-replicate {A = List ℕ} 7 s [] [] m)) (fresh-chain s l);
}

fresh-tracks : (U : ℕ → Type 0) (T S : ℕ) → S ≤ T → Tracked U T S (replicate S system ++ replicate (T - S) nobody)
fresh-tracks U T S l = record {
  long = length-append (replicate S system) (replicate (T - S) nobody)
      ∙ omega (arith, length-replicate S system, length-replicate (T - S) nobody);
  each = λ i m. go i m (dec_le (suc i) S);
}
  where
    go : (i : ℕ) → i < T → Dec (i < S) → Holds U S i (get_or (replicate S system ++ replicate (T - S) nobody) i nobody)
    go i m (yes h) =
        subst (Holds U S i)
        (sym (get_or-append (replicate S system) (replicate (T - S) nobody) nobody i (omega (arith, length-replicate S system))
        ∙ get_or-replicate S i system nobody h))
        (record { below = λ k. refl; just = λ k. h; user = λ k. absurd (omega (arith, k.1)); most = omega arith })
    go i m (no h) =
        let e : i ≡ length (replicate S system) + (i - S) = omega (arith, length-replicate S system, h) in
        subst (Holds U S i)
        (sym (ap (λ (x : ℕ). get_or (replicate S system ++ replicate (T - S) nobody) x nobody) e
        ∙ get_or-append-add (replicate S system) (replicate (T - S) nobody) (i - S) nobody
        ∙ get_or-replicate (T - S) (i - S) nobody nobody (omega (arith, h))))
        (record {
          below = λ k. absurd (h k);
          just = λ k. absurd (omega arith);
          user = λ k. absurd (omega (arith, k.0));
          most = omega arith;
        })

pub fresh-fine : (T S R Y : ℕ) → may_start T S R Y ≡ true → Fine (exact 0) (fresh lists T S R Y)
fresh-fine T S R Y e = record {
  order = fresh-order;
  right = λ p P. subst (Right 0 (0 + farthest) T R) (sym (fresh_at p P)) (right-unused 0 (0 + farthest) T R);
  distinct = λ p q P Q u v w. clash u (ap (λ (r : Program). r.used) (fresh_at p P));
  sons = λ p k P w. absurd (nothing-childless k (ap (λ (r : Program). r.why) (sym (fresh_at p P)) ∙ w));
  once = λ p q k P Q v w. absurd (nothing-childless k (ap (λ (r : Program). r.why) (sym (fresh_at p P)) ∙ v));
  tracked = fresh-tracks (Uses 0 (replicate 32 unused)) T S (starts-true T S R Y e).first;
  numbered = record {
    long = length-replicate R free;
    each = λ r l m. subst (Owned (Uses 0 (replicate 32 unused))) (sym (get_or-replicate R (r - 1) free free (omega arith)))
        (owned-free (Uses 0 (replicate 32 unused)));
  };
  sized = starts-true T S R Y e;
  now = refl;
  time = omega arith;
}

pub sound-fresh : (T S R Y : ℕ) → may_start T S R Y ≡ true → Sound (fresh lists T S R Y)
sound-fresh T S R Y e = fine-sound 0 (fresh lists T S R Y) (fresh-fine T S R Y e)
