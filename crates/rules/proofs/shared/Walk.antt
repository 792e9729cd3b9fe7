-- One walk through the parts of which rules are made: what holds of the refusals of the outline's list holds of a part if it holds of what
-- the part leads to where its tests are passed. Soundness, the frame and the counts are led through the rules by it.
-- Assumes nothing.
use Prim.Native.Nat.{ℕ, ◌≤◌}
use native.Mathlib.Omega.{arith}
use mathlib.Core.Path.{◌≡◌, refl}
use mathlib.Core.Bool.{Bool, true, false}
use mathlib.Core.List.{List, [], ◌∷◌}
use mathlib.Core.Option.{Option, none, some}
use borrow.Author.Tests.{ltb-true, eqb-true}
use Rattle.lists.specs.Lists.{up_to}
use Rattle.lists.proofs.Tests.{up_to-true}
use Rattle.records.specs.declared.Resource.{Resource}
use Rattle.records.specs.declared.Why.{Why}
use Rattle.records.specs.Records.{find}
use Rattle.records.specs.Numbers.{number_at}
use Rattle.rules.specs.Book.{state_of}
use Rattle.rules.specs.Plans.{becomes, on, Plan, refused, waiting, View, number_of, need, either, found}
use Rattle.rules.specs.Rules.{named, inside, waits, allocated, head, as_caller}

-- P holds of the refusals
pub record Refuses (P : Plan → Type 0) : Type 0 where
  pub listed : (a v : ℕ) → up_to 2 11 a ≡ true → P (refused a v)

module _ {P : Plan → Type 0} (N : Refuses P) where
  pub by-need : (b : Bool) (a n : ℕ) (x : Plan) → up_to 2 11 a ≡ true → (b ≡ true → P x) → P (need b a n x)
  unfolding need
  by-need true a n x l f = f refl
  by-need false a n x l f = N.listed a n l

  pub by-either : (b : Bool) (x y : Plan) → (b ≡ true → P x) → P y → P (either b x y)
  unfolding either
  by-either true x y f g = f refl
  by-either false x y f g = g

  pub by-found : (o : Option ℕ) (f : ℕ → Plan) (x : Plan) → ((i : ℕ) → o ≡ some i → P (f i)) → P x → P (found o f x)
  unfolding found
  by-found none f x g h = h
  by-found (some i) f x g h = g i refl

  module _ (v : View) where
    pub by-named : (nm : List ℕ) (f : ℕ → Plan) → (1 ≤ find v.book.programs nm → P (f (find v.book.programs nm))) → P (named v nm f)
    unfolding named
    by-named nm f g = by-need _ _ _ _ refl (λ l. by-need _ _ _ _ refl (λ e. g (ltb-true 0 (find v.book.programs nm) e)))

    pub by-inside : (p s : ℕ) (x : Plan) → (state_of v.book p ≡ s → P x) → P (inside v p s x)
    unfolding inside
    by-inside p s x f = by-need _ _ _ _ refl (λ e. f (eqb-true (state_of v.book p) s e))

    pub by-allocated : (r : ℕ) (f : Resource → Plan)
        → (1 ≤ r → r ≤ v.book.numbers → 1 ≤ (number_at v.book.resources r).owner → P (f (number_at v.book.resources r)))
        → P (allocated v r f)
    unfolding allocated
    by-allocated r f g = by-need _ _ _ _ refl (λ d. by-need _ _ _ _ refl (λ e.
        let h = up_to-true 1 v.book.numbers r d in
        g h.0 h.1 (ltb-true 0 (number_at v.book.resources r).owner e)))

    pub by-caller : (f : ℕ → Plan) → (1 ≤ head (v.chain 1) → P (f (head (v.chain 1)))) → P (as_caller v f)
    unfolding as_caller
    by-caller f g = by-need _ _ _ _ refl (λ e. g (ltb-true 0 (head (v.chain 1)) e))

  pub by-waits : (c w s : ℕ) (y : Why) → P (waiting s (on c (becomes s y) ∷ [])) → P (waits c w s y)
  unfolding waits
  by-waits c w s y h = by-either _ _ _ (λ e. h) (N.listed _ _ refl)

-- what is said of a plan that is done
pub record IfDone (P : Plan → Type 0) (x : Plan) : Type 0 where
  pub so : number_of x ≡ 0 → P x

pub not_done : {P : Plan → Type 0} → Refuses (IfDone P)
not_done = record { listed = λ a v l. record { so = λ e. absurd (omega (arith, (up_to-true 2 11 a l).0)) } }
