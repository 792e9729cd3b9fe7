-- Chains in order hold each program at most once, in the chain of its state only: so they can be laid out.
-- Assumes nothing.
use Prim.Native.Nat.{ℕ, zero, suc, ◌+◌, ◌≤◌, ◌<◌}
use native.Mathlib.Omega.{arith}
use native.Mathlib.Decide.{ℕ_discrete, dec_lt}
use mathlib.Core.Path.{◌≡◌, refl, ap}
use mathlib.Core.List.{List, [], ◌∷◌}
use lib.ListN.{length, get_or, get_or-eq_default}
use Rattle.lists.specs.Lists.{same, count}
use Rattle.lists.proofs.Laws.{same-ne, same-le}
use Rattle.records.specs.Records.{Known}
use Rattle.rules.specs.Book.{Book, state_of}
use Rattle.rules.specs.Sound.{Chains}
use Rattle.chains.specs.Links.{total}
use Rattle.chains.proofs.Totals.{total-some}

-- a program that stands at most in the chain of state n: not in those past n, and in all of them at most once
module _ (p n : ℕ) where
  next : (s k : ℕ) → same n (s + suc k) ≡ same n (suc s + k)
  next s k = ap (same n) (omega arith)

  total-past : (s : ℕ) (m : List (List ℕ)) → ((k : ℕ) → count p (get_or m k []) ≤ same n (s + k)) → n < s → total p m ≡ 0
  total-past s [] h l = refl
  total-past s (c ∷ m) h l =
      omega (arith, h 0, same-ne n (s + 0) (λ e. omega arith), total-past (suc s) m (λ k. omega (arith, h (suc k), next s k)) (omega arith))

  total-once : (s : ℕ) (m : List (List ℕ)) → ((k : ℕ) → count p (get_or m k []) ≤ same n (s + k)) → total p m ≤ 1
  total-once s [] h = omega arith
  total-once s (c ∷ m) h = go (ℕ_discrete n s) (total-once (suc s) m more)
    where
      more : (k : ℕ) → count p (get_or m k []) ≤ same n (suc s + k)
      more k = omega (arith, h (suc k), next s k)

      go : Dec (n ≡ s) → total p m ≤ 1 → count p c + total p m ≤ 1
      go (yes e) ih = omega (arith, h 0, same-le n (s + 0), total-past (suc s) m more (omega arith))
      go (no w) ih = omega (arith, h 0, same-ne n (s + 0) (λ e. w (omega arith)))

module _ (b : Book) (m : List (List ℕ)) (seven : length m ≡ 7) (none : get_or m 0 [] ≡ []) (C : Chains b m) where
  -- no chain of dormant programs has one, and there is none past the seventh
  chain-states : (p s : ℕ) → 1 ≤ count p (get_or m s []) → (1 ≤ s) × (s < 7)
  chain-states p zero h = absurd (omega (arith, ap (count p) none))
  chain-states p (suc s) h = go (dec_lt (suc s) 7)
    where
      go : Dec (suc s < 7) → (1 ≤ suc s) × (suc s < 7)
      go (yes l) = (omega arith, l)
      go (no w) = absurd (omega (arith, ap (count p) (get_or-eq_default m [] {n = suc s} (omega (arith, seven)))))

  member-most : (p s : ℕ) → count p (get_or m s []) ≤ same (state_of b p) s
  member-most p s = go (count p (get_or m s [])) refl
    where
      go : (n : ℕ) → count p (get_or m s []) ≡ n → count p (get_or m s []) ≤ same (state_of b p) s
      go zero e = omega arith
      go (suc n) e =
          let h : 1 ≤ count p (get_or m s []) = omega arith in
          let k = chain-states p s h in
          omega (arith, C.member s p k.0 k.1 (C.within s p k.0 k.1 h))

  pub chained-once : (p : ℕ) → total p m ≤ 1
  chained-once p = total-once p (state_of b p) 0 m (λ k. omega (arith, member-most p k, ap (same (state_of b p)) (plus k)))
    where
      plus : (k : ℕ) → k ≡ 0 + k
      plus k = omega arith

  pub chained-within : (p : ℕ) → 1 ≤ total p m → Known p
  chained-within p h =
      let w = total-some p m h in
      let k = chain-states p w.0 w.2 in
      C.within w.0 p k.0 k.1 w.2
