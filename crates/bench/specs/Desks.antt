-- Pairs of texts, and what the desk makes of them: lines found, and lines listed.
-- Assumes nothing.
use Rattle.std.specs.Prelude.{ℕ, List, [], ◌∷◌}
use Prim.Native.String.{String}
use Rattle.text.specs.Text.{text}
use Rattle.transcripts.specs.Finding.{Sought, sought, marked}
use Rattle.transcripts.specs.Listing.{numbers_listed}

-- the two texts, the key and its occurrence; the number, the mark (0 the original, 1 the copy), and where the part begins and ends
pub record Look : Type 0 where
  pub original : String
  pub copy : String
  pub key : String
  pub occurrence : ℕ
  pub told : List ℕ

unfoldable pub look_all : List Look → List Look
look_all [] = []
look_all (l ∷ ls) =
    let w : Sought = sought (text l.original) (text l.copy) (text l.key) l.occurrence in
    record {
      original = l.original;
      copy = l.copy;
      key = l.key;
      occurrence = l.occurrence;
      told = w.number ∷ marked w.place.mark 0 1 ∷ w.place.begins ∷ w.place.ends ∷ [];
    } ∷ look_all ls

abbrev look : String → String → String → ℕ → List ℕ → Look
look o c k n told = record { original = o; copy = c; key = k; occurrence = n; told = told }

unfoldable pub looks : List Look
looks =
    look "a=1\na=2\n" "a=9\na=8\na=7\n" "a" 2 (0 ∷ 0 ∷ 4 ∷ 7 ∷ [])
    ∷ look "a=1\na=2\n" "a=9\na=8\na=7\n" "a" 3 (0 ∷ 1 ∷ 8 ∷ 11 ∷ [])
    ∷ look "a=1\na=2\n" "a=9\na=8\na=7\n" "a" 4 (17 ∷ 0 ∷ 0 ∷ 0 ∷ [])
    ∷ look "b=1\n" "a=1\n" "a" 1 (0 ∷ 1 ∷ 0 ∷ 3 ∷ [])
    ∷ look "=1\n" "" "" 1 (3 ∷ 0 ∷ 0 ∷ 0 ∷ [])
    ∷ look "a=1\n" "" "a" 0 (3 ∷ 0 ∷ 0 ∷ 0 ∷ [])
    ∷ look "a=b=c\n" "" "a" 1 (0 ∷ 0 ∷ 0 ∷ 5 ∷ [])
    ∷ look "a=b=c\n" "" "a=b" 1 (17 ∷ 0 ∷ 0 ∷ 0 ∷ [])
    ∷ look "a\n\nab=2\na=1" "" "a" 1 (0 ∷ 0 ∷ 8 ∷ 11 ∷ [])
    ∷ look "a=1\na=2" "" "a=1\na" 1 (17 ∷ 0 ∷ 0 ∷ 0 ∷ [])
    ∷ look "" "" "a" 1 (17 ∷ 0 ∷ 0 ∷ 0 ∷ [])
    ∷ []

-- the two texts, and the numbers of the lines that are listed
pub record Pair : Type 0 where
  pub original : String
  pub copy : String
  pub listed : List ℕ

unfoldable pub list_all : List Pair → List Pair
list_all [] = []
list_all (p ∷ ps) =
    record { original = p.original; copy = p.copy; listed = numbers_listed (text p.original) (text p.copy) } ∷ list_all ps

abbrev pair : String → String → List ℕ → Pair
pair o c ns = record { original = o; copy = c; listed = ns }

-- The first two are the same texts both ways: what the copy alone has is not listed, so that nothing is listed does not say that the texts
-- are one.
unfoldable pub pairs : List Pair
pairs =
    pair "a=1\n" "a=1\nb=2\n" []
    ∷ pair "a=1\nb=2\n" "a=1\n" (2 ∷ [])
    ∷ pair "a=1\na=2\n" "a=2\na=1\n" (1 ∷ 2 ∷ [])
    ∷ pair "a=1\nb=2\n" "b=2\na=1\n" []
    ∷ pair "x\n\n=1\na=1\n" "=2\na=1" (3 ∷ [])
    ∷ pair "a=1" "a=1\n" []
    ∷ pair "a=1\na=1\na=1\n" "a=1\na=2\n" (2 ∷ 3 ∷ [])
    ∷ pair "due=42000\n" "due=6000\n" (1 ∷ [])
    ∷ pair "" "a=1\n" []
    ∷ []
