-- Waking, program by program: what is left of the list, played on the tables as they are now, is all of it played on those at the start.
-- Assumes nothing.
use Prim.Native.Nat.{ℕ, zero, suc, ◌+◌, ◌≤◌, ◌<◌}
use native.Mathlib.Omega.{arith}
use native.Mathlib.Numerals.{add-one}
use mathlib.Core.Path.{◌≡◌, refl, sym, ap, ◌∙◌}
use mathlib.Core.List.{List, [], ◌∷◌}
use lib.ListN.{length, get_or, take, drop, drop_of_length-le}
use lib.Seq.{length-take-le, drop-cons, get_or-take}
use Rattle.lists.specs.Lists.{count}
use Rattle.lists.proofs.Laws.{same_refl}
use Rattle.rules.specs.Plans.{wakes, on, wake}
use Rattle.rules.specs.Keeper.{lists, State, play}
use Rattle.tables.specs.declared.Tables.{Tables}
use Rattle.tables.specs.Tables.{plain}
use Rattle.tables.specs.Inner.{Orderly, Played, CanTurn, CanWake}

-- what stands in a list is counted there
count_at : (c : List ℕ) (i : ℕ) → i < length c → 1 ≤ count (get_or c i 0) c
count_at [] i h = absurd (omega arith)
count_at (x ∷ xs) zero h = omega (arith, same_refl x)
count_at (x ∷ xs) (suc i) h = omega (arith, count_at xs i (omega arith))

-- the first i of the list are awake
pub record Waking (t : Tables) (ids : List ℕ) (len : ℕ) (r : Tables) (i : ℕ) : Type 0 where
  pub orderly : Orderly r
  pub within : i ≤ len
  pub plays : play lists (wake (drop i (take len ids))) (plain r) ≡ play lists (wake (take len ids)) (plain t)

module _ (t : Tables) (ids : List ℕ) (len : ℕ) (C : CanWake t ids len) where
  pub waking-none : Waking t ids len t 0
  waking-none = record { orderly = C.orderly; within = omega arith; plays = refl }

  module _ (L : length ids ≡ 32) (r : Tables) (i : ℕ) (W : Waking t ids len r i) where
    long : length (take len ids) ≡ len
    long = length-take-le len ids (omega (arith, L, C.most))

    pub waking-end : len ≤ i → Played t (wake (take len ids)) r
    waking-end h = record {
      orderly = W.orderly;
      state = ap (λ (c : List ℕ). play lists (wake c) (plain r)) (sym (drop_of_length-le (take len ids) {i = i} (omega (arith, long))))
          ∙ W.plays;
    }

    module _ (h : i < len) where
      here : get_or (take len ids) i 0 ≡ get_or ids i 0
      here = get_or-take len ids i 0 h

      pub can-wake : CanTurn r (get_or ids i 0)
      can-wake = record {
        orderly = W.orderly;
        known = C.known (get_or ids i 0) (rw here at (count_at (take len ids) i (omega (arith, long))));
      }

      left_over : drop i (take len ids) ≡ get_or ids i 0 ∷ drop (i + 1) (take len ids)
      left_over =
          drop-cons (take len ids) i 0 (omega (arith, long))
          ∙ ap (λ (q : ℕ). q ∷ drop (suc i) (take len ids)) here
          ∙ ap (λ (j : ℕ). get_or ids i 0 ∷ drop j (take len ids)) (sym (add-one i))

      pub waking-more : (u : Tables) → Played r (on (get_or ids i 0) wakes ∷ []) u → Waking t ids len u (i + 1)
      waking-more u S = record {
        orderly = S.orderly;
        within = omega arith;
        plays =
            ap (λ (a : State lists). play lists (wake (drop (i + 1) (take len ids))) a)
            S.state
            ∙ ap (λ (c : List ℕ). play lists (wake c) (plain r)) (sym left_over)
            ∙ W.plays;
      }
