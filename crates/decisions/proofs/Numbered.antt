-- RN ALLOC, LOCK, CLEAR and FREE, test by test.
-- Assumes nothing.
use Prim.Native.Nat.{ℕ, ◌≤◌, ◌<◌}
use native.Mathlib.Omega.{arith}
use mathlib.Core.Path.{◌≡◌, sym, ap, ◌∙◌}
use mathlib.Core.Logic.{◌≢◌}
use mathlib.Core.Bool.{Bool, true, false, not, cond, ◌&&◌}
use mathlib.Core.List.{List, [], ◌∷◌}
use lib.Dec.{leb, eqb}
use lib.ListN.{length}
use borrow.Author.Tests.{not-true, le-leb, lt-leb, lt-ltb, le-ltb, eq-eqb, ne_eqb, not-false}
use Rattle.lists.specs.Lists.{first, from}
use Rattle.lists.proofs.Tests.{up_to-is}
use Rattle.lists.proofs.Laws.{first-in, from_in}
use Rattle.records.specs.declared.Resource.{Resource}
use Rattle.records.specs.declared.Numbers.{Numbers}
use Rattle.records.specs.declared.Why.TheVariants.{Number, Lock}
use Rattle.records.specs.Numbers.{globally, resources, number_at}
use Rattle.rules.specs.Plans.{View, refused, done, releasing, woken}
use Rattle.rules.specs.Requests.{ALLOC}
use Rattle.rules.specs.Rules.{waits, clears, call, assigned}
use Rattle.rules.proofs.shared.Paths.{need-met, need-failed, either-so, either-not, allocated-not-ours, allocated-free, allocated-is}
use Rattle.decisions.specs.declared.numbering.Wanted.{Wanted}
use Rattle.decisions.specs.declared.numbering.Wanted.TheVariants as wants
use Rattle.decisions.specs.Inner.{OfNumbers, wanted, waiting_of, of_number, may_free}
use Rattle.decisions.proofs.Laws.{fails}

-- ALLOC: the lowest free number
abbrev pub lowest_free : List Resource → ℕ → ℕ
lowest_free xs R = first (λ r. eqb (number_at xs r).owner 0) (from 1 R)

pub lowest-within : (x : Numbers) (r : ℕ) → r ≡ lowest_free (resources x) x.count → r ≢ 0 → (1 ≤ r) × (r ≤ x.count)
lowest-within x r N z =
    let b = from_in (lowest_free (resources x) x.count) 1 x.count
    (first-in (λ k. eqb (number_at (resources x) k).owner 0) (from 1 x.count) (omega (arith, N, z))) in
    (omega (arith, z), omega (arith, N, b.1))

module _ (v : View) (c : ℕ) (g : Bool) (w : ℕ) where
  pub alloc-not : 1 < w → call v c (ALLOC g w) ≡ refused 3 0
  unfolding call
  alloc-not h = need-failed 3 0 _ (lt-leb w 1 h)

  module _ (h : w ≤ 1) (x : Numbers) (O : OfNumbers v x) (r : ℕ) (N : r ≡ lowest_free (resources x) x.count) where
    lowest : lowest_free v.book.resources v.book.numbers ≡ r
    lowest = ap (λ (xs : List Resource). lowest_free xs v.book.numbers) O.all ∙ ap (lowest_free (resources x)) O.size ∙ sym N

    pub alloc-waits : r ≡ 0 → call v c (ALLOC g w) ≡ waits c w 3 Number
    unfolding call
    alloc-waits z = need-met 3 0 _ (le-leb w 1 h)
        ∙ either-not _ _ (le-ltb 0 (lowest_free v.book.resources v.book.numbers) (omega (arith, lowest, z)))

    module _ (z : r ≢ 0) where
      pub alloc-done : (o : ℕ) → o ≡ cond g globally c → call v c (ALLOC g w) ≡ done (r ∷ []) (assigned v r o 0 ∷ [])
      unfolding call
      alloc-done o G =
          need-met 3 0 _ (le-leb w 1 h)
          ∙ either-so _ _ (lt-ltb 0 (lowest_free v.book.resources v.book.numbers) (omega (arith, lowest, z)))
          ∙ ap (λ (k : ℕ). done (k ∷ []) (assigned v k (cond g globally c) 0 ∷ [])) lowest
          ∙ ap (λ (k : ℕ). done (r ∷ []) (assigned v r k 0 ∷ [])) (sym G)

-- an allocated number
module _ (v : View) (c r : ℕ) (q : Wanted) where
  pub wanted-not : (w : ℕ) → w ≡ waiting_of q → (w ≤ 1 → ⊥) → of_number v c r q ≡ refused 3 0
  unfolding of_number
  wanted-not w W n = need-failed 3 0 _ (lt-leb (waiting_of q) 1 (omega (arith, W, n)))

  module _ (w : ℕ) (W : w ≡ waiting_of q) (h : w ≤ 1) where
    passed : leb (waiting_of q) 1 ≡ true
    passed = le-leb (waiting_of q) 1 (omega (arith, W, h))

    pub number-strange : ((1 ≤ r) × (r ≤ v.book.numbers) → ⊥) → of_number v c r q ≡ refused 3 0
    unfolding of_number
    number-strange n =
        need-met 3 0 _ passed
        ∙ allocated-not-ours v r _ (fails _ λ e. n (Rattle.lists.proofs.Tests.up_to-true 1 v.book.numbers r e))

    module _ (l : 1 ≤ r) (m : r ≤ v.book.numbers) (x : Resource) (X : number_at v.book.resources r ≡ x) where
      pub number-free : x.owner ≡ 0 → of_number v c r q ≡ refused 10 0
      unfolding of_number
      number-free e =
          need-met 3 0 _ passed ∙ allocated-free v r _ (up_to-is 1 v.book.numbers r l m) (ap (λ (y : Resource). y.owner) X ∙ e)

      pub number-owned : x.owner ≢ 0 → of_number v c r q ≡ wanted v c r q x
      unfolding of_number
      number-owned n = need-met 3 0 _ passed ∙ allocated-is v r _ x (up_to-is 1 v.book.numbers r l m) X n

-- LOCK, CLEAR and FREE of it
module _ (v : View) (c r : ℕ) (x : Resource) where
  module _ (w : ℕ) where
    pub lock-own : x.lock ≡ c → wanted v c r (wants.Lock w) x ≡ done (r ∷ []) []
    unfolding wanted
    lock-own e = either-so _ _ (eq-eqb x.lock c e)

    module _ (n : x.lock ≢ c) where
      pub lock-clear : x.lock ≡ 0 → wanted v c r (wants.Lock w) x ≡ done (r ∷ []) (assigned v r x.owner c ∷ [])
      unfolding wanted
      lock-clear e = either-not _ _ (ne_eqb x.lock c n) ∙ either-so _ _ (eq-eqb x.lock 0 e)

      pub lock-taken : x.lock ≢ 0 → wanted v c r (wants.Lock w) x ≡ waits c w 3 (Lock r)
      unfolding wanted
      lock-taken e = either-not _ _ (ne_eqb x.lock c n) ∙ either-not _ _ (ne_eqb x.lock 0 e)

  pub clear_none : x.lock ≡ 0 → wanted v c r wants.Clear x ≡ done (0 ∷ []) []
  unfolding wanted
  clear_none e = either-so _ _ (eq-eqb x.lock 0 e)

  module _ (n : x.lock ≢ 0) where
    pub clear-other : x.lock ≢ c → wanted v c r wants.Clear x ≡ refused 9 0
    unfolding wanted
    clear-other e = either-not _ _ (ne_eqb x.lock 0 n) ∙ need-failed 9 0 _ (ne_eqb x.lock c e)

    pub clear-own : x.lock ≡ c → wanted v c r wants.Clear x
        ≡ releasing (length (woken v (clears r false)) ∷ []) (assigned v r x.owner 0 ∷ []) (clears r false)
    unfolding wanted
    clear-own e = either-not _ _ (ne_eqb x.lock 0 n) ∙ need-met 9 0 _ (eq-eqb x.lock c e)

  module _ (b : Bool) (B : b ≡ may_free c x.owner x.lock) where
    pub free_own : b ≡ true
        → wanted v c r wants.Free x ≡ releasing (length (woken v (clears r true)) ∷ []) (assigned v r 0 0 ∷ []) (clears r true)
    unfolding wanted
    free_own e = need-met 9 0 _ (sym B ∙ e)

    pub free_other : b ≡ false → wanted v c r wants.Free x ≡ refused 9 0
    unfolding wanted
    free_other e = need-failed 9 0 _ (sym B ∙ e)

-- two tests one after the other
pub not-both : (p q b : Bool) → b ≡ p → not b ≡ true → false ≡ (p && q)
not-both p q b B e = ap (λ (z : Bool). z && q) (sym (sym B ∙ not-true b e))

-- The second of two tests answers where the first holds; for whoever proves about such tests.
pub so-other : (p q b r : Bool) → b ≡ p → not b ≡ false → r ≡ q → r ≡ (p && q)
so-other p q b r B e R = R ∙ ap (λ (z : Bool). z && q) (sym (sym B ∙ not-false b e))
