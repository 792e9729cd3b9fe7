-- How long packed records and resources are, and what something was put behind.
-- Assumes nothing.
use Prim.Native.Nat.{ℕ, ◌*◌, ◌+◌}
use native.Mathlib.Omega.{arith}
use mathlib.Core.Path.{◌≡◌, refl, ap, ◌∙◌}
use mathlib.Core.List.{List, [], ◌∷◌, ◌++◌, map}
use lib.ListN.{length, length-append}
use Rattle.lists.specs.Lists.{join}
use Rattle.records.specs.declared.Program.{Program}
use Rattle.records.specs.declared.Resource.{Resource}
use Rattle.packing.specs.Packed.{pack_program, pack_resource}

-- what something was put behind
pub grown : {b : List ℕ} (a x : List ℕ) → b ≡ a ++ x → length b ≡ length a + length x
grown a x e = ap length e ∙ length-append a x

pub resources-length : (xs : List Resource) → length (join (map pack_resource xs)) ≡ 2 * length xs
resources-length [] = refl
resources-length (x ∷ xs) = omega (arith, resources-length xs)

pub program-length : (r : Program) → length r.name ≡ 5 → length (pack_program r) ≡ 29
unfolding pack_program
program-length r h = simp length-append (omega arith)
