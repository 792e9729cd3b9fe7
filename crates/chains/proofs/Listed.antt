-- The loop that reads a chain out into an array: what is in the array, and the walk from where the loop stands,
-- are together the walk from the start.
-- Assumes nothing.
use Prim.Native.Nat.{ℕ, suc, ◌+◌, ◌-◌, ◌≤◌, ◌<◌}
use native.Mathlib.Omega.{arith}
use native.Mathlib.Numerals.{add-one}
use mathlib.Core.Path.{◌≡◌, refl, sym, ap, ◌∙◌}
use mathlib.Core.Logic.{◌≢◌}
use mathlib.Core.List.{List, [], ◌∷◌, ◌++◌, append-nil}
use lib.ListN.{length, get_or, set, take, drop, replicate, length-set}
use lib.Seq.{take-suc-set, append_snoc, drop-set-lt, drop-cons}
use Rattle.chains.specs.Links.{walk}
use Rattle.chains.specs.Inner.{Lists}
use Rattle.chains.proofs.Reading.{walk_more}

-- the loop has `len` programs of the chain w in `ids`, and is at slot `at`
pub record Part (l w ids : List ℕ) (len at : ℕ) : Type 0 where
  pub most : len ≤ 32
  pub full : length ids ≡ 32
  pub rest : drop len ids ≡ replicate (32 - len) 0
  pub so_far : w ≡ take len ids ++ walk l at (32 - len)

pub part-start : (l ids : List ℕ) (len at : ℕ) → ids ≡ replicate 32 0 → len ≡ 0 → Part l (walk l at 32) ids len at
part-start l ids len at e z = rw (e, z) (record { most = omega arith; full = refl; rest = refl; so_far = refl })

pub part_step : {l w ids xs : List ℕ} {len at k : ℕ} (n : ℕ) → Part l w ids len at → len < 32 → n ≡ get_or l at 0 → n ≢ 0
    → xs ≡ set ids len n → k ≡ len + 1 → Part l w xs k (7 + n)
part_step {l} {w} {ids} {xs} {len} {at} {k} n P h e z x y =
    let inside : len < length ids = omega (arith, P.full) in
    let less : 32 - len ≡ suc (32 - suc len) = omega arith in
    let tails : get_or ids len 0 ∷ drop (suc len) ids ≡ 0 ∷ replicate (32 - suc len) 0 =
    sym (drop-cons ids len 0 inside) ∙ P.rest ∙ ap (λ (x : ℕ). replicate {A = ℕ} x 0) less in
    let walks : walk l at (32 - len) ≡ n ∷ walk l (7 + n) (32 - suc len) = ap (walk l at) less ∙ walk_more l at (32 - suc len) n e z in
    rw (x, y) (record {
      most = omega arith;
      full = length-set ids len n ∙ P.full;
      rest = rw (add-one, drop-set-lt (suc len) ids len n (omega arith)) (cc);
      so_far = rw (add-one, take-suc-set ids len n inside, append_snoc, ← walks) P.so_far;
    })

pub part_end : {l w ids : List ℕ} {len at : ℕ} → Part l w ids len at → walk l at (32 - len) ≡ [] → Lists ids len w
part_end {l} {w} {ids} {len} {at} P e = record {
  some = sym (P.so_far ∙ ap (λ (x : List ℕ). take len ids ++ x) e ∙ append-nil (take len ids));
  rest = P.rest;
  most = P.most;
}

-- where the array is full
pub part-full : {l w ids : List ℕ} {len at : ℕ} → Part l w ids len at → 32 ≤ len → Lists ids len w
unfolding walk
part-full {l} {w} {ids} {len} {at} P h = let none : 32 - len ≡ 0 = omega arith in part_end P (ap (walk l at) none)
