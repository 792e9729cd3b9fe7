-- What functions on the lines of a text ask and promise each other; no public call mentions it.
-- Assumes nothing.
use Rattle.std.specs.Prelude.{ℕ, ◌+◌, ◌≤◌, ◌<◌, ◌≡◌, true, false, not, ◌⊎◌, List, [], ◌∷◌, ◌++◌, map, length, take, drop}
use Rattle.std.proofs.Math.Option.{Option, none, some}
use Rattle.std.proofs.Math.ListN.{get_elem?}
use Rattle.std.proofs.Math.Seq.{slice}
use Rattle.std.proofs.lemmas.List.Edits.{sets}
use Rattle.lists.specs.Lists.{alike, join}
use Rattle.text.specs.Lines.{lines_of}
use Rattle.text.specs.Inner.{PartEnd}
use Rattle.std.specs.Prelude as option
use Rattle.std.specs.Prelude.{Some, None}
use Rattle.transcripts.specs.declared.lines.Span.{Span}
use Rattle.transcripts.specs.declared.listing.Held.{Held}
use Rattle.transcripts.specs.declared.listing.Turn.{Turn}
use Rattle.transcripts.specs.Transcripts.{Line, standing, lines_in, key_of, with_key}
use Rattle.transcripts.specs.Listing.{counterpart_of, differs, Listed, listed_lines, begin_of, figures_of, Filled, filled}

-- the lines from a place on, which a line begins at
abbrev pub lines_from : List ℕ → ℕ → List Line
lines_from s at = standing at (lines_of (drop at s))

-- the line from a place up to another
abbrev pub line_at : List ℕ → ℕ → ℕ → Line
line_at s a e = record { begins = a; ends = e; bytes = slice a e s }

-- where a line stands, or none
abbrev pub at_span : ℕ → ℕ → option.Option Span
at_span a e = Some (record { begins = a; ends = e })

abbrev pub span_of : Option Line → option.Option Span
span_of none = None
span_of (some x) = at_span x.begins x.ends

-- the first of some lines that has a key
abbrev pub first_or : Option (List ℕ) → Line → Option Line → Option Line
first_or none x rest = rest
first_or (some k) x rest = some x

abbrev pub first_keyed : List Line → Option Line
first_keyed [] = none
first_keyed (x ∷ xs) = first_or (key_of x.bytes) x (first_keyed xs)

-- the keys of some lines
abbrev pub on_keys : Option (List ℕ) → List (List ℕ) → List (List ℕ)
on_keys none ks = ks
on_keys (some k) ks = k ∷ ks

abbrev pub keys_in : List Line → List (List ℕ)
keys_in [] = []
keys_in (x ∷ xs) = on_keys (key_of x.bytes) (keys_in xs)

-- the lines that begin from a place on and before another, at which the next begins
pub data Between (s : List ℕ) (to : ℕ) : ℕ → List Line → Type 0 where
  here : {at : ℕ} → at ≡ to → Between s to at []
  next : {at : ℕ} (e : ℕ) (xs : List Line) → at < to → at < length s → PartEnd 10 s at e → Between s to (e + 1) xs
      → Between s to at (line_at s at e ∷ xs)

-- how many of some lines have this key; and the one that n others with it stand before
unfoldable pub occurrences : List ℕ → List Line → ℕ
occurrences k xs = length (with_key k xs)

unfoldable pub behind_others : List ℕ → ℕ → List Line → Option Line
behind_others k n xs = get_elem? (with_key k xs) n

pub record Counted (k s : List ℕ) (from to n : ℕ) : Type 0 where
  pub right : (xs : List Line) → Between s to from xs → n ≡ occurrences k xs

-- of this key, some lines of the original and some of the copy have as many; or the original has more, and the copy none ahead
pub data Even (k : List ℕ) (front fore ahead : List Line) : Type 0 where
  even : occurrences k front ≡ occurrences k fore → Even k front fore ahead
  spent : occurrences k fore ≤ occurrences k front → behind_others k 0 ahead ≡ none → Even k front fore ahead

-- A turn's place: the line at `at` stands behind the lines `before`. Those in front of `base` and those of the copy in front of `other`
-- go together, key by key, so a line behind has its counterpart behind.
pub record OnWay (original copy : List ℕ) (at base other : ℕ) (before : List Line) : Type 0 where
  pub here : lines_in original ≡ before ++ lines_from original at
  pub front : List Line
  pub since : List Line
  pub split : before ≡ front ++ since
  pub between : Between original at base since
  pub fore : List Line
  pub there : lines_in copy ≡ fore ++ lines_from copy other
  pub together : (k : List ℕ) → Even k front fore (lines_from copy other)

-- a line's place lies in the text
abbrev pub SpanIn : List ℕ → option.Option Span → Type 0
SpanIn s None = Unit {0}
SpanIn s (Some x) = (x.begins ≤ x.ends) × (x.ends ≤ length s)

-- a line's bytes held against those at a place: whether the line is listed, and where its counterpart begins
abbrev pub held_at : List ℕ → List ℕ → option.Option Span → Held
held_at l copy None = record { listed = true; begins = length copy }
held_at l copy (Some x) = record { listed = not (alike l (slice x.begins x.ends copy)); begins = x.begins }

-- what is told of a line with its key and its counterpart
abbrev pub Tells : List ℕ → List Line → Line → Turn → Option (List ℕ) → Type 0
Tells copy before x r none = r.listed ≡ false
Tells copy before x r (some k) =
    (r.listed ≡ differs x (counterpart_of copy before k)) × (r.begins ≡ begin_of copy (counterpart_of copy before k))

pub record Turned (original copy : List ℕ) (at : ℕ) (before : List Line) (r : Turn) : Type 0 where
  pub tells : Tells copy before (line_at original at r.end) r (key_of (slice at r.end original))
  pub onward : OnWay original copy (r.end + 1) r.base r.other (before ++ (line_at original at r.end ∷ []))

-- a line of a text, with its key
pub record KeyedLine (s : List ℕ) (at e : ℕ) (k : List ℕ) : Type 0 where
  pub begins : at < length s
  pub ends : PartEnd 10 s at e
  pub key : key_of (slice at e s) ≡ some k

-- what a turn promises, wherever it stands
pub record TakesTurn (original copy : List ℕ) (at base other : ℕ) (r : Turn) : Type 0 where
  pub end : PartEnd 10 original at r.end
  pub right : (before : List Line) → OnWay original copy at base other before → Turned original copy at before r

-- a turn whose counterpart is counted off
pub record TurnedApart (original copy : List ℕ) (at e : ℕ) (k : List ℕ) (base other : ℕ) (r : Turn) : Type 0 where
  pub ends : r.end ≡ e
  pub based : r.base ≡ base
  pub others : r.other ≡ other
  pub held : (xs : List Line) → Between original at base xs
      → record { listed = r.listed; begins = r.begins }
      ≡ held_at (slice at e original) copy (span_of (behind_others k (occurrences k xs) (lines_from copy other)))

-- how many figures are put for a line: none, its number, or all three
abbrev pub Width : ℕ → Type 0
Width w = (w ≡ 0) ⊎ ((w ≡ 1) ⊎ (w ≡ 3))

-- the first w figures of each line
abbrev pub cut : ℕ → List ℕ → List Listed → List ℕ
cut w copy ds = join (map (λ (d : Listed). take w (figures_of copy d)) ds)

-- the list after it was filled, and how many lines there are: each has a byte at least, and its byte 10 or the text's end
pub record Fills (w : ℕ) (original copy before after : List ℕ) (n : ℕ) : Type 0 where
  pub many : n ≡ length (listed_lines original copy)
  pub few : n + n ≤ length original + 1
  pub list : after ≡ sets before 0 (cut w copy (listed_lines original copy))

-- what is handed back with the first w figures of each line
abbrev pub filled_by : ℕ → List ℕ → List ℕ → List ℕ → Filled
filled_by w original copy list = filled (length (listed_lines original copy)) (cut w copy (listed_lines original copy)) list
