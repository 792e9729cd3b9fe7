-- Laws of numbers in bytes, as the library reads and puts them, the lowest first; and what stands at a place of the bytes.
-- Assumes nothing.
use Prim.Native.Nat.{ℕ, zero, suc, ◌+◌, ◌*◌, ◌/◌, ◌%◌}
use native.Mathlib.Omega.{arith}
use mathlib.Core.Path.{◌≡◌, refl, ap, ◌∙◌}
use mathlib.Core.List.{List, [], ◌∷◌}
use lib.ListN.{get_or, take, drop}
use Rattle.std.specs.Int.{w16, w64, from_le_bytes, to_le_bytes}
use Rattle.packing.specs.Packed.{in_bytes, of_bytes, figure_at}

-- the lowest byte, and the others
of-step : (k : ℕ) (s : List ℕ) → of_bytes (suc k) s ≡ get_or s 0 0 + 256 * of_bytes k (drop 1 s)
of-step zero [] = refl
of-step (suc k) [] = refl
of-step k (b ∷ bs) = refl

-- the first k bytes alone say the number
of-take : (k : ℕ) (s : List ℕ) → of_bytes k (take k s) ≡ of_bytes k s
of-take zero s = refl
of-take (suc k) [] = refl
of-take (suc k) (b ∷ bs) = ap (λ (n : ℕ). b + 256 * n) (of-take k bs)

two : (s : List ℕ) → from_le_bytes w16 s ≡ of_bytes 2 s
two [] = refl
two (a ∷ []) = omega arith
two (a ∷ b ∷ s) = omega arith

eight : (s : List ℕ) → from_le_bytes w64 s ≡ of_bytes 8 s
eight [] = refl
eight (a ∷ []) = omega arith
eight (a ∷ b ∷ []) = omega arith
eight (a ∷ b ∷ c ∷ []) = omega arith
eight (a ∷ b ∷ c ∷ d ∷ []) = omega arith
eight (a ∷ b ∷ c ∷ d ∷ e ∷ []) = omega arith
eight (a ∷ b ∷ c ∷ d ∷ e ∷ f ∷ []) = omega arith
eight (a ∷ b ∷ c ∷ d ∷ e ∷ f ∷ g ∷ []) = omega arith
eight (a ∷ b ∷ c ∷ d ∷ e ∷ f ∷ g ∷ h ∷ s) = omega arith

-- the bytes from a place on, as an array: their number stands at the place
pub figure-two : (s bs : List ℕ) (i : ℕ) → bs ≡ take 2 (drop i s) → from_le_bytes w16 bs ≡ figure_at 2 s i
figure-two s bs i h = two bs ∙ ap (of_bytes 2) h ∙ of-take 2 (drop i s)

pub figure-eight : (s bs : List ℕ) (i : ℕ) → bs ≡ take 8 (drop i s) → from_le_bytes w64 bs ≡ figure_at 8 s i
figure-eight s bs i h = eight bs ∙ ap (of_bytes 8) h ∙ of-take 8 (drop i s)

pub ruleset figures = (figure-two, figure-eight)

-- and the bytes of a number
pub in_two : (n : ℕ) → to_le_bytes w16 n ≡ in_bytes 2 n
in_two n = refl

pub in_eight : (n : ℕ) → to_le_bytes w64 n ≡ in_bytes 8 n
in_eight n =
    let a : n / 65536 ≡ n / 256 / 256 = omega arith in
    let b : n / 16777216 ≡ n / 256 / 256 / 256 = omega arith in
    let c : n / 4294967296 ≡ n / 256 / 256 / 256 / 256 = omega arith in
    let d : n / 1099511627776 ≡ n / 256 / 256 / 256 / 256 / 256 = omega arith in
    let e : n / 281474976710656 ≡ n / 256 / 256 / 256 / 256 / 256 / 256 = omega arith in
    let f : n / 72057594037927936 ≡ n / 256 / 256 / 256 / 256 / 256 / 256 / 256 = omega arith in
    λ i. n % 256 ∷ n / 256 % 256 ∷ a i % 256 ∷ b i % 256 ∷ c i % 256 ∷ d i % 256 ∷ e i % 256 ∷ f i % 256 ∷ []
