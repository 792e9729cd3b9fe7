-- Records changed one after another from the first on.
-- Assumes nothing.
use Prim.Native.Nat.{ℕ, zero, suc, ◌+◌, ◌≤◌, ◌<◌}
use native.Mathlib.Omega.{arith}
use mathlib.Core.Path.{◌≡◌, refl, sym, ap, ap₂, ◌∙◌}
use mathlib.Core.List.{List, [], ◌∷◌, ◌++◌, map, append-nil}
use lib.ListN.{length, get_or, set, take, drop, drop_of_length-le}
use lib.Seq.{take_all}
use Rattle.records.specs.declared.Program.{Program}
use Rattle.records.specs.Records.{missing}

-- the first i changed
abbrev pub changed : (Program → Program) → ℕ → List Program → List Program
changed f i xs = map f (take i xs) ++ drop i xs

changed-suc : (f : Program → Program) (i : ℕ) (xs : List Program) → set (changed f i xs) i (f (get_or xs i missing)) ≡ changed f (suc i) xs
changed-suc f zero [] = refl
changed-suc f (suc i) [] = refl
changed-suc f zero (x ∷ xs) = refl
changed-suc f (suc i) (x ∷ xs) = ap (λ (ys : List Program). f x ∷ ys) (changed-suc f i xs)

pub changed-next : (f : Program → Program) (i : ℕ) (xs ys : List Program) (y : Program) → ys ≡ changed f i xs → y ≡ f (get_or xs i missing)
    → set ys i y ≡ changed f (i + 1) xs
changed-next f i xs ys y e g =
    ap₂ (λ (zs : List Program) (z : Program). set zs i z) e g
    ∙ changed-suc f i xs
    ∙ ap (λ (j : ℕ). changed f j xs) (let s : suc i ≡ i + 1 = omega arith in s)

pub changed-all : (f : Program → Program) (i : ℕ) (xs : List Program) → length xs ≤ i → changed f i xs ≡ map f xs
changed-all f i xs h =
    ap₂ (λ (ys zs : List Program). map f ys ++ zs) (take_all i xs h) (drop_of_length-le xs {i = i} h) ∙ append-nil (map f xs)

-- one that the change leaves as it is may be passed over
changed-past : (f : Program → Program) (i : ℕ) (xs : List Program) → i < length xs → f (get_or xs i missing) ≡ get_or xs i missing
    → changed f i xs ≡ changed f (suc i) xs
changed-past f i [] h e = absurd (omega arith)
changed-past f zero (x ∷ xs) h e = ap (λ (y : Program). y ∷ xs) (sym e)
changed-past f (suc i) (x ∷ xs) h e = ap (λ (ys : List Program). f x ∷ ys) (changed-past f i xs (omega arith) e)

pub changed-skip : (f : Program → Program) (i : ℕ) (xs : List Program) → i < length xs → f (get_or xs i missing) ≡ get_or xs i missing
    → changed f i xs ≡ changed f (i + 1) xs
changed-skip f i xs h e = changed-past f i xs h e ∙ ap (λ (j : ℕ). changed f j xs) (let s : suc i ≡ i + 1 = omega arith in s)

-- and the next one is still as it was
pub changed-at : (f : Program → Program) (i : ℕ) (xs : List Program) → get_or (changed f i xs) i missing ≡ get_or xs i missing
changed-at f zero xs = refl
changed-at f (suc i) [] = refl
changed-at f (suc i) (x ∷ xs) = changed-at f i xs
