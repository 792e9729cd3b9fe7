-- What functions on values and lines ask and promise; nothing here need be believed for the reading of a page.
-- Assumes nothing.
use Rattle.std.specs.Prelude as option
use Rattle.std.specs.Prelude.{Some, None}
use Rattle.std.specs.Prelude.{ℕ, ◌+◌, ◌≤◌, ◌<◌, ◌≡◌, Bool, true, false, cond, List, [], ◌∷◌, ◌++◌, map, length, drop, ltb}
use Rattle.std.proofs.Math.Option.{Option, none, some}
use Rattle.std.proofs.Math.Seq.{slice}
use Rattle.lists.specs.Lists.{every, alike}
use Rattle.text.specs.Text.{text, behind, parts}
use Rattle.records.specs.declared.Resource as records
use Rattle.records.specs.declared.Why.{Why}
use Rattle.records.specs.declared.Why.TheVariants.{Nothing, Tracks, Son, Lock, Number}
use Rattle.records.specs.Names.{name_of}
use Rattle.tracks.specs.declared.held.Run as tracks
use Rattle.chains.specs.Links.{lay_chain}
use Rattle.page.specs.Page.{held_key, number_key}
use Rattle.shapes.specs.declared.values.Run.{Run}
use Rattle.shapes.specs.declared.values.Resource.{Resource}
use Rattle.shapes.specs.Shapes as shapes
use Rattle.shapes.specs.Shapes.{into, figure, reason_of, listed, run_in, numbered}

-- A NUMBER IN THE TABLES' BYTES: one, or two; the largest that these hold where it is larger, which sound tables have nowhere
abbrev pub byte : ℕ → ℕ
byte n = cond (ltb n 256) n 255

abbrev pub two_bytes : ℕ → ℕ
two_bytes n = cond (ltb n 65536) n 65535

abbrev pub narrow_why : Why → Why
narrow_why Nothing = Nothing
narrow_why (Tracks n) = Tracks (two_bytes n)
narrow_why (Son k) = Son (byte k)
narrow_why (Lock r) = Lock (byte r)
narrow_why Number = Number

abbrev pub narrow_resource : records.Resource → records.Resource
narrow_resource x = record { owner = byte x.owner; lock = byte x.lock }

-- VALUES
-- a number behind a word of bytes
abbrev pub coded_by : List ℕ → List ℕ → Option ℕ
coded_by w v = elim (behind w v) [ none ↦ none | some r ↦ figure r ]

-- why a program waits, a run and a number, as the tables' bytes hold them
abbrev pub narrow_run : tracks.Run → tracks.Run
narrow_run g = record { first = g.first; last = g.last; holder = byte g.holder }

abbrev pub narrow_numbered : shapes.Numbered → shapes.Numbered
narrow_numbered x = record { number = x.number; resource = narrow_resource x.resource }

abbrev pub reason_in : List ℕ → Option Why
reason_in v = into narrow_why (reason_of v)

abbrev pub held_in : List ℕ → Option tracks.Run
held_in v = into narrow_run (run_in v)

abbrev pub number_in : List ℕ → Option shapes.Numbered
number_in v = into narrow_numbered (numbered v)

-- whether a value is a word
abbrev pub word_is : List ℕ → List ℕ → Option Bool
word_is w v = cond (alike v w) (some true) none

-- a chain put into links from a slot on
abbrev pub ChainRead : List ℕ → List ℕ → ℕ → option.Option (List ℕ) → Type 0
ChainRead v links s (Some l) = into (λ c. lay_chain links s (map byte c)) (listed v) ≡ some l
ChainRead v links s None = listed v ≡ none

-- UP TO A MARK
-- a word within a line: each of its bytes is above 10
abbrev pub unbroken : List ℕ → Bool
unbroken w = every (ltb 10) w

-- the bytes from a place up to a byte d are a value, of which the shape says a; behind that byte comes `next`
pub record SaidIs {A : Type 0} (shape : List ℕ → Option A) (d : ℕ) (s : List ℕ) (from : ℕ) (a : A) (next : ℕ) : Type 0 where
  pub value : List ℕ
  pub cut : drop from s ≡ value ++ (d ∷ drop next s)
  pub beyond : from < next
  pub within : next ≤ length s
  pub shaped : shape value ≡ some a

-- no bytes from there up to a byte d have the shape
pub record NotSaid {A : Type 0} (shape : List ℕ → Option A) (d : ℕ) (s : List ℕ) (from : ℕ) : Type 0 where
  pub unshaped : (v rest : List ℕ) → drop from s ≡ v ++ (d ∷ rest) → shape v ≡ none

abbrev pub WordTo : List ℕ → ℕ → List ℕ → ℕ → option.Option ℕ → Type 0
WordTo w d s from (Some next) = SaidIs (word_is w) d s from true next
WordTo w d s from None = NotSaid (word_is w) d s from

abbrev pub FigureTo : (List ℕ → Option ℕ) → ℕ → List ℕ → ℕ → option.Option (ℕ × ℕ) → Type 0
FigureTo shape d s from (Some r) = SaidIs shape d s from r.0 r.1
FigureTo shape d s from None = NotSaid shape d s from

abbrev pub ReasonTo : List ℕ → ℕ → option.Option (Why × ℕ) → Type 0
ReasonTo s from (Some r) = SaidIs reason_in 10 s from r.0 r.1
ReasonTo s from None = NotSaid reason_in 10 s from

abbrev pub run_of : ℕ → ℕ → ℕ → tracks.Run
run_of i j h = record { first = i; last = j; holder = h }

abbrev pub RunTo : List ℕ → ℕ → option.Option (Run × ℕ) → Type 0
RunTo s from (Some r) = SaidIs held_in 10 s from (run_of r.0.first r.0.last r.0.holder) r.1
RunTo s from None = NotSaid held_in 10 s from

abbrev pub numbered_of : ℕ → ℕ → ℕ → shapes.Numbered
numbered_of r o l = record { number = r; resource = record { owner = o; lock = l } }

abbrev pub ResourceTo : List ℕ → ℕ → option.Option (Resource × ℕ) → Type 0
ResourceTo s from (Some r) = SaidIs number_in 10 s from (numbered_of r.0.number r.0.owner r.0.lock) r.1
ResourceTo s from None = NotSaid number_in 10 s from

-- LINES
-- the line at a place is ended and has that key; its value's shape says a; the next line begins at `next`
pub record LineIs {A : Type 0} (shape : List ℕ → Option A) (s : List ℕ) (at : ℕ) (key : List ℕ) (a : A) (next : ℕ) : Type 0 where
  pub value : List ℕ
  pub cut : parts 10 (drop at s) ≡ (key ++ (61 ∷ value)) ∷ parts 10 (drop next s)
  pub beyond : at + 2 ≤ next
  pub within : next ≤ length s
  pub shaped : shape value ≡ some a

-- it is not ended, or has another key, or its value has not that shape
pub data NoLine {A : Type 0} (shape : List ℕ → Option A) (s : List ℕ) (at : ℕ) (key : List ℕ) : Type 0 where
  unended : (l : List ℕ) → parts 10 (drop at s) ≡ l ∷ [] → NoLine shape s at key
  keyless : (l : List ℕ) (next : ℕ) → parts 10 (drop at s) ≡ l ∷ parts 10 (drop next s) → behind (key ++ (61 ∷ [])) l ≡ none → NoLine shape s at key
  shapeless : (v : List ℕ) (next : ℕ) → parts 10 (drop at s) ≡ (key ++ (61 ∷ v)) ∷ parts 10 (drop next s) → shape v ≡ none
      → NoLine shape s at key

pub record ValueIs (s : List ℕ) (at : ℕ) (key : List ℕ) (from to : ℕ) : Type 0 where
  pub low : from ≤ to
  pub high : to < length s
  pub beyond : at < to
  pub cut : parts 10 (drop at s) ≡ (key ++ (61 ∷ slice from to s)) ∷ parts 10 (drop (to + 1) s)

abbrev pub ValueAt : List ℕ → ℕ → List ℕ → option.Option (ℕ × ℕ) → Type 0
ValueAt s at key (Some r) = ValueIs s at key r.0 r.1
ValueAt s at key None = NoLine {A = List ℕ} some s at key

abbrev pub FigureAt : (List ℕ → Option ℕ) → List ℕ → ℕ → List ℕ → option.Option (ℕ × ℕ) → Type 0
FigureAt shape s at key (Some r) = LineIs shape s at key r.0 r.1
FigureAt shape s at key None = NoLine shape s at key

abbrev pub NameAt : List ℕ → ℕ → List ℕ → option.Option (List ℕ × ℕ) → Type 0
NameAt s at key (Some r) = LineIs name_of s at key r.0 r.1
NameAt s at key None = NoLine name_of s at key

abbrev pub ReasonAt : List ℕ → ℕ → List ℕ → option.Option (Why × ℕ) → Type 0
ReasonAt s at key (Some r) = LineIs reason_in s at key r.0 r.1
ReasonAt s at key None = NoLine reason_in s at key

abbrev pub WordAt : List ℕ → ℕ → List ℕ → List ℕ → option.Option ℕ → Type 0
WordAt s at key w (Some next) = LineIs (word_is w) s at key true next
WordAt s at key w None = NoLine (word_is w) s at key

abbrev pub RunAt : List ℕ → ℕ → option.Option (Run × ℕ) → Type 0
RunAt s at (Some r) = LineIs held_in s at (text held_key) (run_of r.0.first r.0.last r.0.holder) r.1
RunAt s at None = NoLine held_in s at (text held_key)

abbrev pub ResourceAt : List ℕ → ℕ → option.Option (Resource × ℕ) → Type 0
ResourceAt s at (Some r) = LineIs number_in s at (text number_key) (numbered_of r.0.number r.0.owner r.0.lock) r.1
ResourceAt s at None = NoLine number_in s at (text number_key)
