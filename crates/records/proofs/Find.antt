-- Laws of the records: the tests of the searches by a name and for an unused record.
-- Assumes nothing.
use Prim.Native.Nat.{ℕ, ◌+◌, ◌-◌}
use mathlib.Core.Path.{◌≡◌, sym, ap, ◌∙◌}
use mathlib.Core.Bool.{Bool, not, ◌&&◌}
use mathlib.Core.List.{List}
use lib.ListN.{length, get_or}
use Rattle.std.specs.Option.{option_map}
use Rattle.std.specs.List.{position}
use Rattle.lists.specs.Lists.{alike}
use Rattle.records.specs.declared.Program.{Program}
use Rattle.records.specs.Records.{missing, record_at, all, find, lowest_unused}
use Rattle.records.specs.Inner.{unless_0}
use Rattle.records.proofs.Search.{first-place}

abbrev pub named : List ℕ → Program → Bool
named nm r = r.used && alike r.name nm

abbrev pub vacant : Program → Bool
vacant r = not r.used

-- a test of the record at k is one of program p
pub at_place : (f : Program → Bool) (ps : List Program) (p k : ℕ) (b : Bool) → k ≡ p - 1 → f (get_or ps k missing) ≡ b → f (record_at ps p) ≡ b
at_place f ps p k b e h = ap (λ (i : ℕ). f (get_or ps i missing)) (sym e) ∙ h

-- the number of the first record that passes stands one behind its place
module _ (ps : List Program) (e : length ps ≡ 32) where
  pub find-place : (nm : List ℕ) → unless_0 (find ps nm) ≡ option_map (λ k. k + 1) (position (named nm) ps)
  unfolding find all
  find-place nm = first-place (named nm) ps missing 32 e

  pub unused-place : unless_0 (lowest_unused ps) ≡ option_map (λ k. k + 1) (position vacant ps)
  unfolding lowest_unused all
  unused-place = first-place vacant ps missing 32 e
