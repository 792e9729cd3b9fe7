-- The lines of a text, by its parts between the bytes 10: one definition for the console, the page and the desk.
-- Assumes nothing.
use Rattle.std.specs.Prelude.{ℕ, List, [], ◌∷◌}
use Rattle.text.specs.Text.{parts}

-- parts less the last, where that is empty
abbrev pub drop_empty : List (List ℕ) → List (List ℕ)
drop_empty [] = []
drop_empty ([] ∷ []) = []
drop_empty ((x ∷ xs) ∷ []) = (x ∷ xs) ∷ []
drop_empty (l ∷ m ∷ ls) = l ∷ drop_empty (m ∷ ls)

-- the lines of a text: a last one without byte 10 counts
unfoldable pub lines_of : List ℕ → List (List ℕ)
lines_of s = drop_empty (parts 10 s)

-- of the parts of a text those that byte 10 ended; and the last, which it did not
abbrev pub lines_ended : List (List ℕ) → List (List ℕ)
lines_ended [] = []
lines_ended (l ∷ []) = []
lines_ended (l ∷ m ∷ ls) = l ∷ lines_ended (m ∷ ls)

abbrev pub last_bytes : List (List ℕ) → List ℕ
last_bytes [] = []
last_bytes (l ∷ []) = l
last_bytes (l ∷ m ∷ ls) = last_bytes (m ∷ ls)
