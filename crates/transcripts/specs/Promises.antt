-- What the theorems say of the desk.
-- Assumes nothing.
use Rattle.std.specs.Prelude.{ℕ, suc, ◌≤◌, ◌<◌, ◌≡◌, ◌⊎◌, List, ◌∷◌, ◌++◌, length, get_or}
use Rattle.std.proofs.Math.Option.{Option, none, some}
use Rattle.std.proofs.Math.Seq.{slice}
use Rattle.std.specs.Borrow.{Bor}
use Rattle.lists.specs.Lists.{count, Ascending}
use Rattle.transcripts.specs.declared.finding.Mark.{Mark}
use Rattle.transcripts.specs.declared.handing.Found.{Found}
use Rattle.transcripts.specs.Transcripts.{Line, lines_in, key_of}
use Rattle.transcripts.specs.Finding.{marked, PartOf}
use Rattle.transcripts.specs.Listing.{counterpart_of, numbers_listed}

-- a line of a text, with the lines that stand before it
pub record LineOf (s : List ℕ) (before : List Line) (x : Line) : Type 0 where
  pub after : List Line
  pub whole : lines_in s ≡ before ++ (x ∷ after)

-- its counterpart is missing, or has other bytes
pub data Unlike (x : Line) (y : Option Line) : Type 0 where
  missing : y ≡ none → Unlike x y
  other : (z : Line) → y ≡ some z → (x.bytes ≡ z.bytes → ⊥) → Unlike x y

-- line n of the original, counted from 1, has a key, and its counterpart in the copy is missing or has other bytes
pub record Differs (original copy : List ℕ) (n : ℕ) : Type 0 where
  pub before : List Line
  pub line : Line
  pub there : LineOf original before line
  pub number : n ≡ suc (length before)
  pub key : List ℕ
  pub has : key_of line.bytes ≡ some key
  pub unlike : Unlike line (counterpart_of copy before key)

-- what is listed: exactly these lines, each once, upward
pub record ListsExactly (original copy : List ℕ) : Type 0 where
  pub only : (n : ℕ) → 1 ≤ count n (numbers_listed original copy) → Differs original copy n
  pub all : (n : ℕ) → Differs original copy n → 1 ≤ count n (numbers_listed original copy)
  pub upward : Ascending (λ m n. m < n) (numbers_listed original copy)

-- every line of the original with a key has a counterpart with its bytes
abbrev pub AllAlike : List ℕ → List ℕ → Type 0
AllAlike original copy =
    (before : List Line) (x : Line) → LineOf original before x → (k : List ℕ) → key_of x.bytes ≡ some k
    → (y : Line) × (counterpart_of copy before k ≡ some y) × (x.bytes ≡ y.bytes)

-- a line stands in its text where it says: its bytes are those from where it begins up to where it ends, at the text's end or at a byte 10
pub record StandsIn (s : List ℕ) (x : Line) : Type 0 where
  pub low : x.begins ≤ x.ends
  pub high : x.ends ≤ length s
  pub bytes : x.bytes ≡ slice x.begins x.ends s
  pub ended : (x.ends ≡ length s) ⊎ (get_or s x.ends 0 ≡ 10)

-- what was handed back is a line's own bytes: a part of the text that the mark names, from where the line begins up to where it ends
pub record OwnBytes (m : Mark) (original copy : Bor (List ℕ)) (x : Line) (r : Found) : Type 0 where
  pub mark : r.located.place.mark ≡ m
  pub part : PartOf (marked m original copy) x.begins x.ends r.part
  pub bytes : r.part.now ≡ x.bytes

-- two parts of texts are one: the same place in memory, and the same bytes; the name under which a proof follows them may be another
pub record SamePart (r q : Bor (List ℕ)) : Type 0 where
  pub place : r.ref_ptr ≡ q.ref_ptr
  pub bytes : r.now ≡ q.now
