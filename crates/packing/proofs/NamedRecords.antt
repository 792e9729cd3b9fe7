-- The name of each record of an array of the code is as long as its type says.
-- Assumes nothing.
use Prim.Native.Nat.{ℕ, suc, zero, ◌<◌}
use native.Mathlib.Omega.{arith}
use mathlib.Core.Path.{◌≡◌}
use mathlib.Core.List.{List, [], ◌∷◌}
use lib.ListN.{length, get_or}
use mir.Val.{Val}
use denote.Array.{each}
use denote.Struct.Declared.{row}
use denote.Shadow.{shadow}
use Rattle.records.specs.declared.Program.{Program}
use Rattle.records.specs.contracts.Program.{the_type}
use Rattle.packing.proofs.Lossless.{Each}

abbrev Named : Program → Type 0
Named r = length r.name ≡ 5

-- the name of each record of an array is as long as its type says
pub named : (xs : List Program) (us : List Val) (i : ℕ) (d : Program) → shadow (each Program (row the_type).own_val xs us) → i < length xs
    → length (get_or xs i d).name ≡ 5
named [] us i d g h = absurd (omega arith)
named (x ∷ xs) [] i d g h = absurd g
named (x ∷ xs) (u ∷ us) zero d g h = g.0.1.1.1.0.1.0.1
named (x ∷ xs) (u ∷ us) (suc i) d g h = named xs us i d g.1 (omega arith)

-- the names of an array of records are as long as their type says
pub named-each : (xs : List Program) (us : List Val)
    → shadow (each Program (row the_type).own_val xs us) → Each Named xs
named-each [] us g = tt
named-each (x ∷ xs) [] g = absurd g
named-each (x ∷ xs) (u ∷ us) g = (named (x ∷ []) (u ∷ []) 0 x (g.0, tt) (omega arith), named-each xs us g.1)
