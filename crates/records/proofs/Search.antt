-- Laws of searches through the numbers 1 to n: what a test of the next one leaves of the question.
-- Assumes nothing.
use Prim.Native.Nat.{ℕ, zero, suc, ◌+◌, ◌-◌, ◌≤◌, ◌<◌}
use native.Mathlib.Omega.{arith}
use mathlib.Core.Path.{◌≡◌, refl, sym, ap, ◌∙◌}
use mathlib.Core.Logic.{◌≢◌}
use mathlib.Core.Bool.{Bool, true, false, cond, ◌||◌}
use mathlib.Core.List.{List, [], ◌∷◌}
use lib.Dec.{eqb, ltb}
use lib.ListN.{length, get_or}
use borrow.Author.Tests.{lt-ltb, ne_eqb}
use Rattle.std.specs.Prelude.{Option, Some, None, is_some}
use Rattle.std.proofs.lemmas.Option.{none-some, same_Some}
use Rattle.std.specs.Option.{option_map}
use Rattle.std.specs.List.{position, position_from}
use Rattle.std.proofs.lemmas.Iterator.Adapters.{position_from-zero}
use Rattle.lists.proofs.Tests.{false-true}
use Rattle.lists.specs.Lists.{first, any, from}
use Rattle.records.specs.Inner.{unless_0}

-- the numbers p to n
abbrev pub span : ℕ → ℕ → List ℕ
span p n = from p (n + 1 - p)

pub span-all : (n : ℕ) → from 1 n ≡ span 1 n
span-all n = let e : n + 1 - 1 ≡ n = omega arith in rw e

step : (p q n m : ℕ) → n ≡ suc m → q ≡ suc p → from p n ≡ p ∷ from q m
step p q n m e f = rw (e, f)

pub span-next : (p n : ℕ) → p ≤ n → span p n ≡ p ∷ span (p + 1) n
span-next p n h = step p (p + 1) (n + 1 - p) (n + 1 - (p + 1)) (omega arith) (omega arith)

pub span_none : (p n : ℕ) → n < p → span p n ≡ []
span_none p n h = let e : n + 1 - p ≡ 0 = omega arith in rw e

-- the search from 1 on is the search from p on
pub record Seek (f : ℕ → Bool) (n p : ℕ) : Type 0 where
  pub low : 1 ≤ p
  pub same : first f (from 1 n) ≡ first f (span p n)

pub seek-start : (f : ℕ → Bool) (n : ℕ) → Seek f n 1
seek-start f n = record { low = omega arith; same = ap (first f) (span-all n) }

module _ {f : ℕ → Bool} {n p : ℕ} (S : Seek f n p) where
  tested : (b : Bool) → p ≤ n → f p ≡ b → first f (from 1 n) ≡ cond b p (first f (span (p + 1) n))
  tested b h e = S.same ∙ ap (first f) (span-next p n h) ∙ ap (λ (t : Bool). cond t p (first f (span (p + 1) n))) e

  pub seek-here : p ≤ n → f p ≡ true → p ≡ first f (from 1 n)
  seek-here h e = sym (tested true h e)

  pub seek-on : p ≤ n → f p ≡ false → Seek f n (p + 1)
  seek-on h e = record { low = omega arith; same = tested false h e }

  pub seek-none : n < p → 0 ≡ first f (from 1 n)
  seek-none h = sym (S.same ∙ ap (first f) (span_none p n h))

-- one passes exactly where the first is not 0
pub any-first : (f : ℕ → Bool) (p n : ℕ) → 1 ≤ p → ltb 0 (first f (from p n)) ≡ any f (from p n)
any-first f p zero h = refl
any-first f p (suc n) h = go (f p) (any-first f (suc p) n (omega arith))
  where
    go : (b : Bool) → ltb 0 (first f (from (suc p) n)) ≡ any f (from (suc p) n)
        → ltb 0 (cond b p (first f (from (suc p) n))) ≡ (b || any f (from (suc p) n))
    go true ih = lt-ltb 0 p (omega arith)
    go false ih = ih

-- the first number that passes stands one behind the first place that does
places : {A : Type 0} (f : A → Bool) (g : ℕ → Bool) (i : ℕ) (zs : List A) (d : A)
    → ((k : ℕ) → k < length zs → g (i + 1 + k) ≡ f (get_or zs k d))
    → unless_0 (first g (from (i + 1) (length zs))) ≡ option_map (λ k. k + 1) (position_from f i zs)
places f g i [] d h = refl
places f g i (z ∷ zs) d h =
    let e : g (i + 1) ≡ f z = grind (arith, h 0 (omega arith)) in
    let t = places f g (i + 1) zs d (λ k l. let n : i + 1 + 1 + k ≡ i + 1 + suc k = omega arith in rw n (h (suc k) (omega arith))) in
    go (f z) e t
  where
    go : (b : Bool) → g (i + 1) ≡ b → unless_0 (first g (from (i + 1 + 1) (length zs))) ≡ option_map (λ k. k + 1) (position_from f (i + 1) zs)
        → unless_0 (cond (g (i + 1)) (i + 1) (first g (from (suc (i + 1)) (length zs)))) ≡ option_map (λ k. k + 1) (cond b (Some i) (position_from f (i + 1) zs))
    go true e t = let n : eqb (i + 1) 0 ≡ false = ne_eqb (i + 1) 0 (λ z. omega arith) in rw (e, n) refl
    go false e t = let n : suc (i + 1) ≡ i + 1 + 1 = omega arith in rw (e, n) t

pub first-place : {A : Type 0} (f : A → Bool) (xs : List A) (d : A) (n : ℕ) → length xs ≡ n
    → unless_0 (first (λ p. f (get_or xs (p - 1) d)) (from 1 n)) ≡ option_map (λ k. k + 1) (position f xs)
first-place f xs d n e =
    ap (λ (m : ℕ). unless_0 (first (λ p. f (get_or xs (p - 1) d)) (from 1 m))) (sym e)
    ∙ places f (λ p. f (get_or xs (p - 1) d)) 0 xs d (λ k l. let e : 0 + 1 + k - 1 ≡ k = omega arith in rw e refl)
    ∙ ap (option_map (λ k. k + 1)) (sym (position_from-zero f xs))

-- a number is there where it is not 0
unless-suc : (n : ℕ) → unless_0 (suc n) ≡ Some (suc n)
unless-suc n = ap (λ (b : Bool). cond b None (Some (suc n))) (ne_eqb (suc n) 0 (λ e. omega arith))

pub some-unless : (n : ℕ) → is_some (unless_0 n) ≡ ltb 0 n
some-unless zero = refl
some-unless (suc n) = ap (λ (o : Option ℕ). is_some o) (unless-suc n) ∙ sym (lt-ltb 0 (suc n) (omega arith))

pub unless-none : (n : ℕ) → None ≡ unless_0 n → n ≡ 0
unless-none zero e = refl
unless-none (suc n) e = absurd (none-some (suc n) (e ∙ unless-suc n))

pub unless-some : (n p : ℕ) → Some p ≡ unless_0 n → (p ≡ n) × (p ≢ 0)
unless-some zero p e = absurd (none-some p (sym e))
unless-some (suc n) p e = let h : p ≡ suc n = same_Some p (suc n) (e ∙ unless-suc n) in (h, λ z. omega (arith, h, z))

pub unless-no : (n : ℕ) → is_some (unless_0 n) ≡ false → n ≡ 0
unless-no zero e = refl
unless-no (suc n) e = absurd (false-true (sym e ∙ ap (λ (o : Option ℕ). is_some o) (unless-suc n)))

pub unless-yes : (n : ℕ) → is_some (unless_0 n) ≡ true → n ≢ 0
unless-yes n e z = false-true (ap (λ (k : ℕ). is_some (unless_0 k)) (sym z) ∙ e)
