-- The program of a name, the lowest unused record and the head of a chain are what they are called: known numbers, with records that say
-- so. Each is the first that passes a test.
-- Assumes nothing.
use Prim.Native.Nat.{ℕ, ◌≤◌}
use native.Mathlib.Omega.{arith}
use mathlib.Core.Path.{◌≡◌}
use mathlib.Core.Bool.{Bool, true, false, not, ◌&&◌}
use mathlib.Core.List.{List, [], ◌∷◌}
use borrow.Author.Tests.{not-true}
use Rattle.lists.specs.Lists.{count, alike}
use Rattle.lists.proofs.Laws.{same_refl, first-in, count-from-out, first-true, first-none}
use Rattle.lists.proofs.Tests.{clash, both, and, alike_is, alike-true}
use Rattle.records.specs.declared.Program.{Program}
use Rattle.records.specs.Records.{Known, all, record_at, find, lowest_unused}
use Rattle.rules.specs.Rules.{head}
use Rattle.rules.proofs.shared.Places.{all_one, all_in}

-- p is the program of that name
pub record Bears (ps : List Program) (nm : List ℕ) (p : ℕ) : Type 0 where
  pub known : Known p
  pub used : (record_at ps p).used ≡ true
  pub name : (record_at ps p).name ≡ nm

all-zero : count 0 all ≡ 0
unfolding all
all-zero = count-from-out 0 1 32 (λ h. absurd (omega arith))

pub find-bears : (ps : List Program) (nm : List ℕ) → 1 ≤ find ps nm → Bears ps nm (find ps nm)
unfolding find
find-bears ps nm h = record {
  known = all_in p (first-in f all h);
  used = (both (record_at ps p).used (alike (record_at ps p).name nm) (first-true f all h)).0;
  name = alike-true (record_at ps p).name nm (both (record_at ps p).used (alike (record_at ps p).name nm) (first-true f all h)).1;
}
  where
    p : ℕ
    p = find ps nm

    f : ℕ → Bool
    f p = (record_at ps p).used && alike (record_at ps p).name nm

pub find_none : (ps : List Program) (nm : List ℕ) → find ps nm ≡ 0 → (z : ℕ) → Known z → (record_at ps z).used ≡ true
    → (record_at ps z).name ≡ nm → ⊥
unfolding find
find_none ps nm e z Z u n =
    clash (and u (alike_is (record_at ps z).name nm n))
    (first-none (λ p. (record_at ps p).used && alike (record_at ps p).name nm) all z all-zero e (omega (arith, all_one z Z)))

pub unused-known : (ps : List Program) → 1 ≤ lowest_unused ps → Known (lowest_unused ps)
unfolding lowest_unused
unused-known ps h = all_in (lowest_unused ps) (first-in (λ p. not (record_at ps p).used) all h)

pub unused-is : (ps : List Program) → 1 ≤ lowest_unused ps → (record_at ps (lowest_unused ps)).used ≡ false
unfolding lowest_unused
unused-is ps h = not-true (record_at ps (lowest_unused ps)).used (first-true (λ p. not (record_at ps p).used) all h)

pub head_in : (c : List ℕ) → 1 ≤ head c → 1 ≤ count (head c) c
head_in [] h = h
head_in (p ∷ ps) h = omega (arith, same_refl p)
