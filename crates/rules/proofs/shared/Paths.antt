-- One step of each part of a rule: where its test is passed, and where it is failed. What a request
-- comes to is read off these, test by test.
-- Assumes nothing.
use Prim.Native.Nat.{ℕ, ◌≤◌}
use native.Mathlib.Omega.{arith}
use mathlib.Core.Path.{◌≡◌, ap, ◌∙◌}
use mathlib.Core.Logic.{◌≢◌}
use mathlib.Core.Bool.{Bool, true, false}
use mathlib.Core.List.{List, [], ◌∷◌}
use mathlib.Core.Option.{Option, none, some}
use borrow.Author.Tests.{eq-eqb, ne_eqb, lt-ltb, le-ltb}
use Rattle.lists.specs.Lists.{up_to}
use Rattle.records.specs.declared.Resource.{Resource}
use Rattle.records.specs.declared.Why.{Why}
use Rattle.records.specs.Names.{legal}
use Rattle.records.specs.Records.{find}
use Rattle.records.specs.Numbers.{number_at}
use Rattle.rules.specs.Book.{state_of}
use Rattle.rules.specs.Plans.{Plan, refused, waiting, View, on, becomes, need, either, found}
use Rattle.rules.specs.Rules.{named, inside, waits, allocated, head, as_caller}

-- tests
pub need-met : {b : Bool} (a n : ℕ) (x : Plan) → b ≡ true → need b a n x ≡ x
unfolding need
need-met a n x e = rw e

pub need-failed : {b : Bool} (a n : ℕ) (x : Plan) → b ≡ false → need b a n x ≡ refused a n
unfolding need
need-failed a n x e = rw e

pub either-so : {b : Bool} (x y : Plan) → b ≡ true → either b x y ≡ x
unfolding either
either-so x y e = rw e

pub either-not : {b : Bool} (x y : Plan) → b ≡ false → either b x y ≡ y
unfolding either
either-not x y e = rw e

pub found_at : (o : Option ℕ) (i : ℕ) (f : ℕ → Plan) (x : Plan) → o ≡ some i → found o f x ≡ f i
unfolding found
found_at o i f x e = rw e

pub found_none : (o : Option ℕ) (f : ℕ → Plan) (x : Plan) → o ≡ none → found o f x ≡ x
unfolding found
found_none o f x e = rw e

-- the program of a name
module _ (v : View) (nm : List ℕ) (f : ℕ → Plan) where
  pub named-illegal : legal nm ≡ false → named v nm f ≡ refused 3 0
  unfolding named
  named-illegal e = need-failed 3 0 _ e

  pub named-missing : legal nm ≡ true → find v.book.programs nm ≡ 0 → named v nm f ≡ refused 4 0
  unfolding named
  named-missing l e = need-met 3 0 _ l ∙ need-failed 4 0 _ (le-ltb 0 (find v.book.programs nm) (omega arith))

  pub named-found : (p : ℕ) → legal nm ≡ true → find v.book.programs nm ≡ p → 1 ≤ p → named v nm f ≡ f p
  unfolding named
  named-found p l e h = need-met 3 0 _ l ∙ need-met 4 0 _ (lt-ltb 0 (find v.book.programs nm) (omega arith)) ∙ ap f e

-- the state of a program
module _ (v : View) (p s : ℕ) (x : Plan) where
  pub inside-met : state_of v.book p ≡ s → inside v p s x ≡ x
  unfolding inside
  inside-met e = need-met 5 (state_of v.book p) x (eq-eqb (state_of v.book p) s e)

  pub inside-failed : state_of v.book p ≢ s → inside v p s x ≡ refused 5 (state_of v.book p)
  unfolding inside
  inside-failed n = need-failed 5 (state_of v.book p) x (ne_eqb (state_of v.book p) s n)

-- the caller
module _ (v : View) (f : ℕ → Plan) where
  pub caller-none : head (v.chain 1) ≡ 0 → as_caller v f ≡ refused 2 0
  unfolding as_caller
  caller-none e = need-failed 2 0 _ (le-ltb 0 (head (v.chain 1)) (omega arith))

  pub caller-is : (p : ℕ) → head (v.chain 1) ≡ p → 1 ≤ p → as_caller v f ≡ f p
  unfolding as_caller
  caller-is p e h = need-met 2 0 _ (lt-ltb 0 (head (v.chain 1)) (omega arith)) ∙ ap f e

-- to wait, or to be told
module _ (c w s : ℕ) (y : Why) where
  pub waits-so : w ≡ 0 → waits c w s y ≡ waiting s (on c (becomes s y) ∷ [])
  unfolding waits
  waits-so e = either-so _ _ (eq-eqb w 0 e)

  pub waits-told : w ≢ 0 → waits c w s y ≡ refused 8 0
  unfolding waits
  waits-told n = either-not _ _ (ne_eqb w 0 n)

-- a resource number
module _ (v : View) (r : ℕ) (f : Resource → Plan) where
  pub allocated-not-ours : up_to 1 v.book.numbers r ≡ false → allocated v r f ≡ refused 3 0
  unfolding allocated
  allocated-not-ours e = need-failed 3 0 _ e

  pub allocated-free : up_to 1 v.book.numbers r ≡ true → (number_at v.book.resources r).owner ≡ 0 → allocated v r f ≡ refused 10 0
  unfolding allocated
  allocated-free u e = need-met 3 0 _ u ∙ need-failed 10 0 _ (le-ltb 0 (number_at v.book.resources r).owner (omega arith))

  pub allocated-is : (x : Resource) → up_to 1 v.book.numbers r ≡ true → number_at v.book.resources r ≡ x → x.owner ≢ 0
      → allocated v r f ≡ f x
  unfolding allocated
  allocated-is x u e n =
      need-met 3 0 _ u
      ∙ need-met 10 0 _ (lt-ltb 0 (number_at v.book.resources r).owner (omega (arith, n, ap (λ (y : Resource). y.owner) e)))
      ∙ ap f e
