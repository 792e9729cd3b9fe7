-- What the desk's two functions on bytes come to (OUTLINE, "The reading desk").
-- Assumes nothing.
use Rattle.std.specs.Prelude.{ℕ, true, false, List, [], ◌∷◌, ◌++◌, length, leb}
use Rattle.transcripts.specs.Finding.{Sought, sought, marked}
use Rattle.transcripts.specs.Listing.{Filled, listing}
use Rattle.board.specs.Board.{figures_length, answering}

-- A line looked for: the answer's number, and the answer, with the mark behind its value, 0 for the original and 1 for the copy, and where
-- the part begins and ends. 12, with nothing looked for, where too few bytes are lent for the answer.
pub record FoundBy : Type 0 where
  pub number : ℕ
  pub answer : List ℕ

unfoldable pub found_by : List ℕ → List ℕ → List ℕ → ℕ → List ℕ → FoundBy
found_by original copy key n buf =
    let w : Sought = sought original copy key n in
    elim (leb figures_length (length buf)) [
      | true ↦
          record {
            number = w.number;
            answer = answering w.number (w.values ++ (marked w.place.mark 0 1 ∷ w.place.begins ∷ w.place.ends ∷ [])) buf;
          }
      | false ↦ record { number = 12; answer = buf }
    ]

-- Lines listed: the answer's number, the list and the answer. 12, with nothing listed, where too few bytes are lent for the answer.
pub record ListedBy : Type 0 where
  pub number : ℕ
  pub list : List ℕ
  pub answer : List ℕ

unfoldable pub listed_by : List ℕ → List ℕ → List ℕ → List ℕ → ListedBy
listed_by original copy list buf =
    let w : Filled = listing original copy list in
    elim (leb figures_length (length buf)) [
      | true ↦ record { number = w.number; list = w.list; answer = answering w.number w.values buf }
      | false ↦ record { number = 12; list = list; answer = buf }
    ]
