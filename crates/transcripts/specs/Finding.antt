-- A line found by its key and its occurrence: from the original if it is there, else from the copy (OUTLINE, "The reading desk").
-- Assumes nothing.
use Rattle.std.specs.Prelude.{ℕ, ◌+◌, ◌≡◌, cond, ◌&&◌, ◌||◌, List, [], ◌∷◌, length, leb, eqb}
use Rattle.std.proofs.Math.Option.{Option, none, some}
use Rattle.std.proofs.Math.Seq.{slice}
use Rattle.std.specs.Borrow.{Bor}
use Rattle.rules.specs.Answers.{number, values}
use Rattle.transcripts.specs.declared.finding.Mark.{Mark}
use Rattle.transcripts.specs.declared.finding.Mark.TheVariants.{Original, Copy}
use Rattle.transcripts.specs.declared.finding.Place.{Place}
use Rattle.transcripts.specs.declared.finding.Located.{Located}
use Rattle.transcripts.specs.declared.handing.Found.{Found}
use Rattle.transcripts.specs.Transcripts.{Line, lines_in, occurrence}

-- what a search comes to: the answer's number and values, and which part of which text is handed back
pub record Sought : Type 0 where
  pub number : ℕ
  pub values : List ℕ
  pub place : Place

abbrev pub told : Located → Sought
told r = record { number = number r.answer; values = values r.answer; place = r.place }

-- the empty front of the original, which a refusal hands back
abbrev pub empty_front : Place
empty_front = record { mark = Original; begins = 0; ends = 0 }

abbrev pub refused : ℕ → Sought
refused n = record { number = n; values = 0 ∷ []; place = empty_front }

-- the line in the text that a mark names, where it is there, else something else
abbrev pub found_or : Mark → Option Line → Sought → Sought
found_or m none other = other
found_or m (some x) other = record { number = 0; values = 0 ∷ []; place = record { mark = m; begins = x.begins; ends = x.ends } }

-- 3 for an empty key or occurrence 0, first; then the original, then the copy; 17 where neither has the line
unfoldable pub sought : List ℕ → List ℕ → List ℕ → ℕ → Sought
sought original copy key n =
    cond (eqb (length key) 0 || eqb n 0) (refused 3)
    (found_or Original (occurrence key n (lines_in original)) (found_or Copy (occurrence key n (lines_in copy)) (refused 17)))

-- of two things, the one that a mark names
abbrev pub marked : {A : Type 0} → Mark → A → A → A
marked Original original copy = original
marked Copy original copy = copy

-- a place that does not lie within its text stands for the empty front of the original
abbrev pub within : List ℕ → List ℕ → Place → Place
within original copy p =
    cond (leb p.begins p.ends && leb p.ends (length (marked p.mark original copy))) p empty_front

-- r is the part of s from a up to e: it begins a bytes behind where s begins, in the same memory, and has those bytes of s
pub record PartOf (s : Bor (List ℕ)) (a e : ℕ) (r : Bor (List ℕ)) : Type 0 where
  pub memory : r.ref_ptr.0 ≡ s.ref_ptr.0
  pub begins : r.ref_ptr.1 ≡ s.ref_ptr.1 + a
  pub bytes : r.now ≡ slice a e s.now

-- r is the part of one of two lent texts that a place names
abbrev pub PartAt : Bor (List ℕ) → Bor (List ℕ) → Place → Bor (List ℕ) → Type 0
PartAt original copy p r =
    let q : Place = within original.now copy.now p in
    PartOf (marked q.mark original copy) q.begins q.ends r

-- what is handed back: the answer, which part of which text, and that part itself
pub record Finds (original copy : Bor (List ℕ)) (key : List ℕ) (n : ℕ) (r : Found) : Type 0 where
  pub answers : told r.located ≡ sought original.now copy.now key n
  pub hands : PartAt original copy r.located.place r.part
