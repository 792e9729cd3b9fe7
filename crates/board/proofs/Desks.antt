-- Laws of the reading desk on bytes, by the paths of the code: room for the answer, and what was looked for or listed. A search has one
-- value, 0, whatever comes of it, so the mark and the place stand behind that. Assumes nothing.
use Prim.Native.Nat.{ℕ, ◌<◌, ◌≤◌}
use mathlib.Core.Path.{◌≡◌, refl, sym, ap, ◌∙◌}
use mathlib.Core.Bool.{Bool, true, false, cond, ◌||◌}
use mathlib.Core.List.{List, [], ◌∷◌, ◌++◌, map}
use mathlib.Core.Option.{Option, none, some}
use lib.Dec.{leb, eqb}
use lib.ListN.{length}
use borrow.Author.Tests.{le-leb, lt-leb}
use Rattle.lists.specs.Lists.{join}
use Rattle.rules.specs.declared.Answer.{Answer}
use Rattle.rules.specs.Engine.{front}
use Rattle.packing.specs.Packed.{in_bytes}
use Rattle.rules.specs.Answers as answers
use Rattle.transcripts.specs.declared.finding.Mark.TheVariants.{Original, Copy}
use Rattle.transcripts.specs.declared.finding.Located.{Located}
use Rattle.transcripts.specs.Transcripts.{Line, lines_in, occurrence}
use Rattle.transcripts.specs.Finding.{Sought, told, refused, found_or, sought, marked}
use Rattle.transcripts.specs.Listing.{Filled, answered, listing}
use Rattle.board.specs.Board.{figures_length, answering}
use Rattle.board.specs.Desk.{FoundBy, found_by, ListedBy, listed_by}
use Rattle.board.proofs.Answered.{answering-put}

-- of two outcomes, the one that the room for the answer picks
module _ {A : Type 0} (done short : A) (buf : List ℕ) where
  abbrev by : Bool → A
  by b = elim b [ true ↦ done | false ↦ short ]

  in-room : figures_length ≤ length buf → by (leb figures_length (length buf)) ≡ done
  in-room h = ap by (le-leb figures_length (length buf) h)

  in-none : length buf < figures_length → by (leb figures_length (length buf)) ≡ short
  in-none h = ap by (lt-leb figures_length (length buf) h)

module _ (original copy key : List ℕ) (n : ℕ) where
  sought-values : (sought original copy key n).values ≡ 0 ∷ []
  unfolding sought
  sought-values =
      go (eqb (length key) 0 || eqb n 0) (occurrence key n (lines_in original)) (occurrence key n (lines_in copy))
    where
      go : (b : Bool) (x y : Option Line) → (cond b (refused 3) (found_or Original x (found_or Copy y (refused 17)))).values ≡ 0 ∷ []
      go true x y = refl
      go false none none = refl
      go false none (some y) = refl
      go false (some x) y = refl

  module _ (buf : List ℕ) where
    abbrev found : Sought → FoundBy
    found w = record {
      number = w.number;
      answer = answering w.number (w.values ++ (marked w.place.mark 0 1 ∷ w.place.begins ∷ w.place.ends ∷ [])) buf;
    }

    pub find-not : length buf < figures_length → record { number = 12; answer = buf } ≡ found_by original copy key n buf
    unfolding found_by
    find-not h = sym (in-none _ _ buf h)

    -- what the code has in hand: where the line is, its mark as a value, the answer's number, and the answer put
    pub find-done : (r : Located) (buf' : List ℕ) (m k : ℕ) → figures_length ≤ length buf → told r ≡ sought original copy key n
        → m ≡ answers.number r.answer → k ≡ marked r.place.mark 0 1
        → buf' ≡ front (join (map (in_bytes 8) (m ∷ 0 ∷ k ∷ r.place.begins ∷ r.place.ends ∷ 0 ∷ 0 ∷ []))) buf
        → record { number = m; answer = buf' } ≡ found_by original copy key n buf
    unfolding found_by
    find-done r buf' m k h e p q w =
        let put = answering-put m (0 ∷ k ∷ r.place.begins ∷ r.place.ends ∷ []) buf (0 ∷ k ∷ r.place.begins ∷ r.place.ends ∷ 0 ∷ 0 ∷ []) refl h w in
        let v : 0 ∷ [] ≡ answers.values r.answer = sym (ap (λ (x : Sought). x.values) e ∙ sought-values) in
        ap (λ (x : List ℕ). record { number = m; answer = x }) put
        ∙ (λ i. record {
          number = p i;
          answer = answering (p i) (v i ++ (q i ∷ r.place.begins ∷ r.place.ends ∷ [])) buf;
        })
        ∙ ap found e
        ∙ sym (in-room _ _ buf h)

module _ (original copy list buf : List ℕ) where
  abbrev listed : Filled → ListedBy
  listed w = record { number = w.number; list = w.list; answer = answering w.number w.values buf }

  pub list-not : length buf < figures_length → record { number = 12; list = list; answer = buf } ≡ listed_by original copy list buf
  unfolding listed_by
  list-not h = sym (in-none _ _ buf h)

  -- what the code has in hand: the answer and the list after it, and the answer told
  pub list_done : (r : Answer) (list' buf' : List ℕ) (m : ℕ) → figures_length ≤ length buf → answered r list' ≡ listing original copy list
      → m ≡ answers.number r → buf' ≡ answering (answers.number r) (answers.values r) buf
      → record { number = m; list = list'; answer = buf' } ≡ listed_by original copy list buf
  unfolding listed_by
  list_done r list' buf' m h e p a =
      (λ i. record { number = p i; list = list'; answer = a i })
      ∙ ap listed e
      ∙ sym (in-room _ _ buf h)
