-- The original outranks the copy; what is handed back are the line's own bytes; and texts that the reader reads to the same tables have
-- nothing to list, by what the reader promises alone.
-- Assumes nothing.
use Prim.Native.Nat.{ℕ}
use mathlib.Core.Path.{◌≡◌, sym, ap, ap₂, subst, ◌∙◌}
use mathlib.Core.Bool.{cond, ◌||◌}
use mathlib.Core.List.{List, [], ◌∷◌}
use mathlib.Core.Option.{Option, none, some}
use lib.ListN.{length}
use lib.Dec.{eqb}
use denote.Ref.{Bor}
use Rattle.tables.specs.declared.Tables.{Tables}
use Rattle.tables.specs.Calls.{Result}
use Rattle.reader.specs.Reading.{reading}
use Rattle.reader.specs.Lines.{WrittenBy}
use Rattle.reader.proofs.Exact.{accepts-exactly}
use Rattle.transcripts.specs.declared.finding.Mark.{Mark}
use Rattle.transcripts.specs.declared.finding.Mark.TheVariants.{Original, Copy}
use Rattle.transcripts.specs.declared.finding.Place.{Place}
use Rattle.transcripts.specs.declared.handing.Found.{Found}
use Rattle.transcripts.specs.Transcripts.{Line, lines_in, occurrence}
use Rattle.transcripts.specs.Finding.{Sought, refused, found_or, sought, marked, within, PartOf, PartAt, Finds}
use Rattle.transcripts.specs.Listing.{numbers_listed}
use Rattle.transcripts.specs.Promises.{StandsIn, OwnBytes}
use Rattle.transcripts.proofs.FindingLaws.{searches, within-is}
use Rattle.transcripts.proofs.Standing.{OneStands, occurrence-stands}
use Rattle.transcripts.proofs.Exactly.{itself}

-- two copies, one answer: where the original has the line, the copy has no bearing on what is handed back
pub outranks : (original copy copy' key : List ℕ) (n : ℕ) (x : Line) → occurrence key n (lines_in original) ≡ some x
    → sought original copy key n ≡ sought original copy' key n
unfolding sought
outranks original copy copy' key n x e =
    let at : Option Line → List ℕ → Sought =
    λ y c. cond (eqb (length key) 0 || eqb n 0) (refused 3) (found_or Original y (found_or Copy (occurrence key n (lines_in c)) (refused 17)))
    in
    ap (λ (y : Option Line). at y copy) e ∙ sym (ap (λ (y : Option Line). at y copy') e)

-- what is handed back of a place that names a line of the text which a mark names
handed : (original copy : Bor (List ℕ)) (p : Place) (r : Bor (List ℕ)) (m : Mark) (x : Line)
    → StandsIn (marked m original.now copy.now) x → p ≡ record { mark = m; begins = x.begins; ends = x.ends }
    → PartAt original copy p r → PartOf (marked m original copy) x.begins x.ends r
handed original copy p r m x s e h =
    let q : Place = record { mark = m; begins = x.begins; ends = x.ends } in
    subst (λ (y : Place). PartOf (marked y.mark original copy) y.begins y.ends r)
    (ap (within original.now copy.now) e ∙ within-is original.now copy.now q s.low s.high) h

-- The line's own bytes: where the original has it, the part is of the original, from where the line begins up to where it ends, and has its
-- bytes; where the copy alone has it, the same of the copy.
module _ (original copy : Bor (List ℕ)) (key : List ℕ) (n : ℕ) (k : length key ≡ 0 → ⊥) (l : n ≡ 0 → ⊥)
    (r : Found) (f : Finds original copy key n r) (x : Line) where
  placed : (m : Mark) → sought original.now copy.now key n
      ≡ record { number = 0; values = 0 ∷ []; place = record { mark = m; begins = x.begins; ends = x.ends } }
      → r.located.place ≡ record { mark = m; begins = x.begins; ends = x.ends }
  placed m e = ap (λ (w : Sought). w.place) (f.answers ∙ e)

  own : (m : Mark) → StandsIn (marked m original.now copy.now) x → sought original.now copy.now key n
      ≡ record { number = 0; values = 0 ∷ []; place = record { mark = m; begins = x.begins; ends = x.ends } }
      → OwnBytes m original copy x r
  own m s e = record {
    mark = ap (λ (p : Place). p.mark) (placed m e);
    part = handed original copy r.located.place r.part m x s (placed m e) f.hands;
    bytes = same m s (handed original copy r.located.place r.part m x s (placed m e) f.hands);
  }
    where
      same : (m : Mark) → StandsIn (marked m original.now copy.now) x
          → PartOf (marked m original copy) x.begins x.ends r.part → r.part.now ≡ x.bytes
      same Original s p = p.bytes ∙ sym s.bytes
      same Copy s p = p.bytes ∙ sym s.bytes

  pub from-original : occurrence key n (lines_in original.now) ≡ some x → OwnBytes Original original copy x r
  from-original e =
      own Original (subst (OneStands original.now) e (occurrence-stands original.now key n))
      (searches original.now copy.now key n k l
      ∙ ap (λ (y : Option Line). found_or Original y (found_or Copy (occurrence key n (lines_in copy.now)) (refused 17))) e)

  pub from-copy : occurrence key n (lines_in original.now) ≡ none → occurrence key n (lines_in copy.now) ≡ some x
      → OwnBytes Copy original copy x r
  from-copy m e =
      own Copy (subst (OneStands copy.now) e (occurrence-stands copy.now key n))
      (searches original.now copy.now key n k l
      ∙ ap₂ (λ (y z : Option Line). found_or Original y (found_or Copy z (refused 17))) m e)

-- the same text is read to the same tables, and the tables tell the text
same_text : (s t : List ℕ) → (reading s).number ≡ 0 → (reading t).number ≡ 0 → (reading s).tables ≡ (reading t).tables → s ≡ t
same_text s t a b e =
    let x = (accepts-exactly s).read a in
    let y = (accepts-exactly t).read b in
    let same : x.0 ≡ y.0 = ap (λ (r : Result). r.tables) (sym x.2) ∙ e ∙ ap (λ (r : Result). r.tables) y.2 in
    let written : WrittenBy y.0 s = subst (λ (u : Tables). WrittenBy u s) same x.1 in
    sym written.bytes ∙ y.1.bytes

-- two pages that are read to the same tables: nothing is listed
pub same_tables : (original copy : List ℕ) → (reading original).number ≡ 0 → (reading copy).number ≡ 0
    → (reading original).tables ≡ (reading copy).tables → numbers_listed original copy ≡ []
same_tables original copy a b e =
    subst (λ (s : List ℕ). numbers_listed original s ≡ []) (same_text original copy a b e) (itself original)
