-- Laws of the programs' numbers and of the records at them: a record that is put stands at its place and leaves the others.
-- Assumes nothing.
use Prim.Native.Nat.{ℕ, ◌-◌, ◌≤◌}
use native.Mathlib.Omega.{arith}
use native.Mathlib.Decide.{dec_le}
use mathlib.Core.Path.{◌≡◌, ◌∙◌}
use mathlib.Core.Logic.{◌≢◌}
use mathlib.Core.Bool.{true}
use mathlib.Core.List.{List}
use lib.ListN.{length, length-set, replicate, get_or-replicate}
use lib.Seq.{get_or-set_same, get_or-set_other}
use Rattle.lists.specs.Lists.{count}
use Rattle.lists.proofs.Laws.{count-from, from_in, from-once}
use Rattle.lists.proofs.Tests.{up_to-true, up_to-is}
use Rattle.records.specs.declared.Program.{Program}
use Rattle.records.specs.Records.{Known, known, all, record_at, missing, unused}
use Rattle.rules.specs.Book.{Book, at, put}

-- the test and the fact
pub known-true : (p : ℕ) → known p ≡ true → Known p
known-true p = up_to-true 1 32 p

pub known_is : (p : ℕ) → Known p → known p ≡ true
known_is p P = up_to-is 1 32 p P.0 P.1

pub known-or : (p : ℕ) → Dec (Known p)
known-or p = go (dec_le 1 p) (dec_le p 32)
  where
    go : Dec (1 ≤ p) → Dec (p ≤ 32) → Dec (Known p)
    go (yes h) (yes k) = yes (h, k)
    go (no h) d = no (λ K. h K.0)
    go (yes h) (no k) = no (λ K. k K.1)

-- a list of programs' numbers holds no other
pub none_other : (c : List ℕ) (z : ℕ) → (1 ≤ count z c → Known z) → (Known z → ⊥) → count z c ≡ 0
none_other c z f n = go (dec_le 1 (count z c))
  where
    go : Dec (1 ≤ count z c) → count z c ≡ 0
    go (yes h) = absurd (n (f h))
    go (no h) = omega (arith, h)

-- each of the programs' numbers stands once among them all
pub all_one : (z : ℕ) → Known z → count z all ≡ 1
unfolding all
all_one z Z = count-from z 1 32 Z.0 (omega arith)

pub all_once : (z : ℕ) → count z all ≤ 1
unfolding all
all_once z = from-once z 1 32

pub all_in : (z : ℕ) → 1 ≤ count z all → Known z
unfolding all
all_in z h = let k = from_in z 1 32 h in (k.0, omega arith)

-- the record at p, and those at other places
module _ (b : Book) (L : length b.programs ≡ 32) (p : ℕ) (P : Known p) (r : Program) where
  pub at_same : at (put p r b) p ≡ r
  at_same = get_or-set_same b.programs (p - 1) r missing (omega arith)

pub at_other : (b : Book) (p : ℕ) → Known p → (r : Program) (z : ℕ) → Known z → z ≢ p → at (put p r b) z ≡ at b z
at_other b p P r z Z n = get_or-set_other b.programs (p - 1) (z - 1) r missing (λ e. n (omega arith))

pub put-long : (b : Book) (p : ℕ) (r : Program) → length b.programs ≡ 32 → length (put p r b).programs ≡ 32
put-long b p r L = length-set b.programs (p - 1) r ∙ L

-- a fresh record is unused
pub fresh_at : (p : ℕ) → Known p → record_at (replicate 32 unused) p ≡ unused
fresh_at p P = get_or-replicate 32 (p - 1) unused missing (omega (arith, P.0, P.1))
