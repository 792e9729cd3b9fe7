-- Names: five bytes, a letter A-Z, then letters or digits, blanks at the end (OUTLINE, "The tables").
-- Assumes nothing.
use Rattle.std.specs.Prelude.{ℕ, ◌-◌, Bool, true, false, cond, not, ◌&&◌, ◌||◌, List, [], ◌∷◌, ◌++◌, length, replicate, eqb}
use Rattle.std.proofs.Math.Option.{Option, none, some}
use Rattle.lists.specs.Lists.{up_to, every, keep}

abbrev pub letter : ℕ → Bool
letter c = up_to 65 90 c

abbrev pub digit : ℕ → Bool
digit c = up_to 48 57 c

abbrev pub blank : ℕ → Bool
blank c = eqb c 32

-- letters or digits, and then blanks to the end
abbrev pub rest : List ℕ → Bool
rest [] = true
rest (c ∷ cs) = ((letter c || digit c) && rest cs) || (blank c && every blank cs)

abbrev pub legal : List ℕ → Bool
legal [] = false
legal (c ∷ cs) = letter c && rest cs && eqb (length cs) 4

-- a name without its blanks, and blanks put behind it again
abbrev pub bare : List ℕ → List ℕ
bare nm = keep (λ c. not (blank c)) nm

abbrev pub padded : List ℕ → List ℕ
padded f = f ++ replicate (5 - length f) 32

-- a legal name without its blanks, as a console line has it (OUTLINE, "The page and the console line")
unfoldable pub name_of : List ℕ → Option (List ℕ)
name_of f = cond (legal (padded f) && every (λ c. not (blank c)) f) (some (padded f)) none
