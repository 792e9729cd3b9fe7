-- Lists of numbers, weighed number by number: a list that has each number at most as often as another weighs no more, and the lines of a
-- list's numbers are together no longer than its weight, if each line is no longer than its number's.
-- Assumes nothing.
use Prim.Native.Nat.{ℕ, zero, suc, ◌+◌, ◌*◌, ◌≤◌}
use native.Mathlib.Omega.{arith}
use native.Mathlib.Nat.{suc-mul}
use mathlib.Core.Path.{◌≡◌, refl, sym}
use mathlib.Core.Bool.{Bool, true, false, cond}
use mathlib.Core.List.{List, [], ◌∷◌, ◌++◌, map}
use lib.ListN.{length, length-append}
use lib.Dec.{eqb}
use borrow.Author.Tests.{eqb-true, eqb-false}
use Rattle.lists.specs.Lists.{count, keep, from, join, remove}
use Rattle.lists.proofs.Laws.{same_refl, same-ne, count-remove}

abbrev pub weigh : (ℕ → ℕ) → List ℕ → ℕ
weigh w [] = 0
weigh w (x ∷ xs) = w x + weigh w xs

module _ (w : ℕ → ℕ) where
  weigh-remove : (p : ℕ) (c : List ℕ) → 1 ≤ count p c → weigh w (remove p c) + w p ≡ weigh w c
  weigh-remove p [] h = absurd (omega arith)
  weigh-remove p (q ∷ qs) h = go (eqb q p) refl (weigh-remove p qs)
    where
      go : (t : Bool) → eqb q p ≡ t → (1 ≤ count p qs → weigh w (remove p qs) + w p ≡ weigh w qs)
          → weigh w (cond t qs (q ∷ remove p qs)) + w p ≡ w q + weigh w qs
      go true e ih = rw (eqb-true q p e) (omega arith)
      go false e ih = omega (arith, ih (omega (arith, same-ne p q (λ d. eqb-false q p e (sym d)))))

  -- each number at most as often
  pub weigh-fewer : (c d : List ℕ) → ((x : ℕ) → count x c ≤ count x d) → weigh w c ≤ weigh w d
  weigh-fewer [] d h = omega arith
  weigh-fewer (x ∷ xs) d h =
      let k : 1 ≤ count x d = omega (arith, h x, same_refl x) in
      omega (arith, weigh-remove x d k, weigh-fewer xs (remove x d) (λ z. omega (arith, h z, count-remove z x d k)))

  -- the first of more numbers from p up, of which only the sum is told: written out, it is too long for `omega`
  weigh-first : (p m n : ℕ) → m ≤ n → weigh w (from p m) ≤ weigh w (from p n)
  weigh-first p zero n h = omega arith
  weigh-first p (suc m) zero h = absurd (omega arith)
  weigh-first p (suc m) (suc n) h = omega (arith, weigh-first (suc p) m n (omega arith))

  pub weigh-from : (p m n sum : ℕ) → m ≤ n → weigh w (from p n) ≡ sum → weigh w (from p m) ≤ sum
  weigh-from p m n sum h e = omega (arith, weigh-first p m n h)

  pub weigh-append : (c d : List ℕ) → weigh w (c ++ d) ≡ weigh w c + weigh w d
  weigh-append [] d = omega arith
  weigh-append (x ∷ xs) d = omega (arith, weigh-append xs d)

  pub lines-weigh : (line : ℕ → List ℕ) (c : List ℕ) → ((x : ℕ) → 1 ≤ count x c → length (line x) ≤ w x)
      → length (join (map line c)) ≤ weigh w c
  lines-weigh line [] h = omega arith
  lines-weigh line (x ∷ xs) h =
      omega (
        arith,
        length-append (line x) (join (map line xs)),
        h x (omega (arith, same_refl x)),
        lines-weigh line xs (λ y k. h y (omega arith)),
      )

-- where each number weighs the same
pub weigh-even : (m : ℕ) (c : List ℕ) → weigh (λ x. m) c ≡ length c * m
weigh-even m [] = omega arith
weigh-even m (x ∷ xs) = omega (arith, suc-mul (length xs) m, weigh-even m xs)

-- those that pass a test
pub keep-length : (f : ℕ → Bool) (c : List ℕ) → length (keep f c) ≤ length c
keep-length f [] = omega arith
keep-length f (q ∷ qs) = go (f q) (keep-length f qs)
  where
    go : (t : Bool) → length (keep f qs) ≤ length qs → length (cond t (q ∷ keep f qs) (keep f qs)) ≤ suc (length qs)
    go true ih = omega arith
    go false ih = omega arith
