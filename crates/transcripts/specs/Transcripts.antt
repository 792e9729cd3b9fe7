-- The lines of a transcript, where they stand, and their keys (OUTLINE, "The reading desk").
-- Assumes nothing.
use Rattle.std.specs.Prelude.{ℕ, ◌+◌, ◌-◌, Bool, false, cond, List, [], ◌∷◌, length}
use Rattle.std.proofs.Math.Option.{Option, none, some}
use Rattle.std.proofs.Math.ListN.{get_elem?}
use Rattle.lists.specs.Lists.{alike}
use Rattle.text.specs.Text.{parts}
use Rattle.text.specs.Lines.{lines_of}

-- a line of a text: where it begins, where it ends, without its byte 10, and its bytes
pub record Line : Type 0 where
  pub begins : ℕ
  pub ends : ℕ
  pub bytes : List ℕ

-- lines one after another, the first of them at this place
abbrev pub standing : ℕ → List (List ℕ) → List Line
standing at [] = []
standing at (l ∷ ls) = record { begins = at; ends = at + length l; bytes = l } ∷ standing (at + length l + 1) ls

-- the lines of a text; a last one without byte 10 counts
unfoldable pub lines_in : List ℕ → List Line
lines_in s = standing 0 (lines_of s)

-- a line's key ends at its first `=`; a line without one has no key
abbrev pub key_among : List (List ℕ) → Option (List ℕ)
key_among [] = none
key_among (k ∷ []) = none
key_among (k ∷ v ∷ vs) = some k

unfoldable pub key_of : List ℕ → Option (List ℕ)
key_of l = key_among (parts 61 l)

abbrev pub is_key : List ℕ → Option (List ℕ) → Bool
is_key k none = false
is_key k (some j) = alike j k

-- a line has this key
unfoldable pub has_key : List ℕ → List ℕ → Bool
has_key k l = is_key k (key_of l)

-- those of some lines that have this key
abbrev pub with_key : List ℕ → List Line → List Line
with_key k [] = []
with_key k (x ∷ xs) = cond (has_key k x.bytes) (x ∷ with_key k xs) (with_key k xs)

-- the n-th of them, counted from 1
unfoldable pub occurrence : List ℕ → ℕ → List Line → Option Line
occurrence k n xs = get_elem? (with_key k xs) (n - 1)
