-- What functions on bytes ask and promise.
-- Assumes nothing.
use Rattle.std.specs.Prelude.{ℕ, ◌+◌, ◌/◌, ◌%◌, ◌≤◌, ◌<◌, ◌≡◌, false, List, [], ◌∷◌, length, get_or, drop}
use Rattle.std.proofs.Math.Option.{Option, none, some}
use Rattle.std.proofs.lemmas.List.Edits.{sets}
use Rattle.std.proofs.Math.Seq.{slice}
use Rattle.lists.specs.Lists.{up_to}
use Rattle.text.specs.declared.Digits.{Digits}
use Rattle.std.specs.Prelude as option
use Rattle.std.specs.Prelude.{Some, None}
use Rattle.text.specs.Text.{horner, parts, behind}

-- a number that was read, or none
abbrev pub read : option.Option ℕ → Option ℕ
read (Some n) = some n
read None = none

-- the three digits of a number below 1,000, zeros in front of it too
abbrev pub three_digits : ℕ → List ℕ
three_digits n = (48 + n / 100) ∷ (48 + n / 10 % 10) ∷ (48 + n % 10) ∷ []

-- `after` is `before` with bytes stored from `at` on, and next is the place behind them
pub record Wrote (before : List ℕ) (at : ℕ) (bytes : List ℕ) (after : List ℕ) (next : ℕ) : Type 0 where
  pub buffer : after ≡ sets before at bytes
  pub place : next ≡ at + length bytes

-- e is where the part that begins at `from` ends
pub record PartEnd (d : ℕ) (s : List ℕ) (from e : ℕ) : Type 0 where
  pub low : from ≤ e
  pub high : e ≤ length s
  pub last : e ≡ length s → parts d (drop from s) ≡ slice from e s ∷ []
  pub more : e < length s → parts d (drop from s) ≡ slice from e s ∷ parts d (drop (e + 1) s)

-- i is the place behind w, with which the bytes of s from `from` up to `to` begin
pub record BehindAt (w s : List ℕ) (from to i : ℕ) : Type 0 where
  pub place : i ≡ from + length w
  pub high : i ≤ to
  pub rest : behind w (slice from to s) ≡ some (slice i to s)

-- r is the place behind w, or none where they do not begin with it
pub record Behind (w s : List ℕ) (from to : ℕ) (r : option.Option ℕ) : Type 0 where
  pub at : (i : ℕ) → r ≡ Some i → BehindAt w s from to i
  pub not : r ≡ None → behind w (slice from to s) ≡ none

-- the digits that stand from a place on, `most` of them at most: what they say, and where they end
pub record DigitsFrom (s : List ℕ) (from most : ℕ) (r : Digits) : Type 0 where
  pub low : from ≤ r.end
  pub high : r.end ≤ length s
  pub few : r.end ≤ from + most
  pub value : horner 0 (slice from r.end s) ≡ some r.value
  pub stops : r.end < length s → r.end < from + most → up_to 48 57 (get_or s r.end 0) ≡ false
