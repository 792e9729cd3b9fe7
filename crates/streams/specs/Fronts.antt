-- What a write that stopped has let out, and which bytes are shown.
-- Assumes nothing.
use Rattle.std.specs.Prelude.{◌≡◌, ◌≢◌, ◌≤◌, ℕ, List, ◌++◌}
use Rattle.std.specs.declared.option.Option.{Option}
use Rattle.std.specs.Io.KnownBytes.{Appends}

-- known bytes grow by all of `bytes` but the rest
pub record Written (old new : Option (List ℕ)) (bytes rest : List ℕ) : Type 0 where
  pub front : List ℕ
  pub whole : bytes ≡ front ++ rest
  pub grown : Appends old new front

-- known bytes grow by a front of `bytes`, and by nothing else
abbrev pub AppendsFront : Option (List ℕ) → Option (List ℕ) → List ℕ → Type 0
AppendsFront old new bytes = (rest : List ℕ) × Written old new bytes rest

-- a byte that neither ends the line nor moves about on the terminal
abbrev pub IsShown : ℕ → Type 0
IsShown b = (32 ≤ b) × (b ≢ 127)
