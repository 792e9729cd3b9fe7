-- Text as bytes: what is quoted, numbers in decimal, fields parted by commas, lines ended by byte 10.
-- Assumes nothing.
use Rattle.std.specs.Prelude.{ℕ, zero, suc, ◌+◌, ◌-◌, ◌*◌, ◌/◌, ◌%◌, true, false, cond, not, ◌&&◌, ◌||◌, List, [], ◌∷◌, ◌++◌, length, get_or, ltb, eqb}
use Prim.Native.Char.{code}
use Prim.Native.String.{String}
use Rattle.std.proofs.Math.Option.{Option, none, some}
use Rattle.lists.specs.Lists.{up_to}

-- the bytes of a quoted text
abbrev pub text : String → List ℕ
text String.[] = []
text (String.◌∷◌ c cs) = code c ∷ text cs

-- the decimal digits of n, the last f of them at most, without leading zeros
unfoldable pub digits : ℕ → ℕ → List ℕ
digits zero n = []
digits (suc f) n = elim (ltb n 10) [ true ↦ (48 + n) ∷ [] | false ↦ digits f (n / 10) ++ ((48 + n % 10) ∷ []) ]

-- n in decimal: right for every n below 10 ^ 20, and so for every u64
unfoldable pub decimal : ℕ → List ℕ
decimal n = digits 20 n

-- the number that digits say, read on from a
abbrev pub horner : ℕ → List ℕ → Option ℕ
horner a [] = some a
horner a (c ∷ cs) = elim (up_to 48 57 c) [ true ↦ horner (a * 10 + (c - 48)) cs | false ↦ none ]

-- a number of 1 to `most` digits without leading zeros (OUTLINE, "The page and the console line")
unfoldable pub number_of : ℕ → List ℕ → Option ℕ
number_of most s = cond (up_to 1 most (length s) && (eqb (length s) 1 || not (eqb (get_or s 0 0) 48))) (horner 0 s) none

-- x put in front of the first of some lists
abbrev pub on_first : ℕ → List (List ℕ) → List (List ℕ)
on_first x [] = (x ∷ []) ∷ []
on_first x (f ∷ fs) = (x ∷ f) ∷ fs

-- the parts of a text between the bytes d: one more than there are such bytes
unfoldable pub parts : ℕ → List ℕ → List (List ℕ)
parts d [] = [] ∷ []
parts d (x ∷ xs) = cond (eqb x d) ([] ∷ parts d xs) (on_first x (parts d xs))

-- what stands behind a word that a text begins with
unfoldable pub behind : List ℕ → List ℕ → Option (List ℕ)
behind [] s = some s
behind (w ∷ ws) [] = none
behind (w ∷ ws) (c ∷ cs) = elim (eqb w c) [ true ↦ behind ws cs | false ↦ none ]

-- texts with a byte between each two
abbrev pub between : ℕ → List (List ℕ) → List ℕ
between d [] = []
between d (x ∷ []) = x
between d (x ∷ y ∷ ys) = x ++ (d ∷ between d (y ∷ ys))

-- key=value, and byte 10
unfoldable pub entry : List ℕ → List ℕ → List ℕ
entry key value = key ++ (61 ∷ (value ++ (10 ∷ [])))
