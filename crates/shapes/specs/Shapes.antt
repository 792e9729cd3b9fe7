-- The shapes of values on a page, and what each says: none where the bytes have not that shape (OUTLINE, "The page and the console line").
-- A shape is form alone; which figures tables may have is soundness.
-- Assumes nothing.
use Rattle.std.specs.Prelude.{ℕ, Bool, true, false, cond, List, [], ◌∷◌, length, eqb}
use Prim.Native.String.{String}
use Rattle.std.proofs.Math.Option.{Option, none, some}
use Rattle.limits.specs.Limits.{page_digits}
use Rattle.lists.specs.Lists.{alike}
use Rattle.text.specs.Text.{text, behind, number_of, parts}
use Rattle.records.specs.declared.Resource.{Resource}
use Rattle.records.specs.declared.Why.{Why}
use Rattle.records.specs.declared.Why.TheVariants.{Nothing, Tracks, Son, Lock, Number}
use Rattle.records.specs.Numbers.{globally}
use Rattle.tracks.specs.declared.held.Run.{Run}
use Rattle.page.specs.Page.{dash, global_word, tracks_word, son_word, lock_word, any_number}

-- What a shape gives: whether it gives something; that, or otherwise d; something made of it; or else what another gives
abbrev pub there : {A : Type 0} → Option A → Bool
there none = false
there (some a) = true

abbrev pub otherwise : {A : Type 0} → A → Option A → A
otherwise d none = d
otherwise d (some a) = a

abbrev pub into : {A : Type 0} → {B : Type 0} → (A → B) → Option A → Option B
into f none = none
into f (some a) = some (f a)

abbrev pub or_else : {A : Type 0} → Option A → Option A → Option A
or_else none y = y
or_else (some a) y = some a

-- a number of 1 to 13 digits without leading zeros
abbrev pub figure : List ℕ → Option ℕ
figure v = number_of page_digits v

-- a word, and what it stands for; a number behind a word
abbrev pub word : {A : Type 0} → String → A → List ℕ → Option A
word w a v = cond (alike v (text w)) (some a) none

abbrev pub coded : String → List ℕ → Option ℕ
coded w v = elim (behind (text w) v) [ none ↦ none | some r ↦ figure r ]

-- a number, or `-` where there is none: the tables have 0 there
abbrev pub figure_or_dash : List ℕ → Option ℕ
figure_or_dash v = or_else (word dash 0 v) (figure v)

-- a holder or an owner: a number, or `global`
abbrev pub party_of : List ℕ → Option ℕ
party_of v = or_else (word global_word globally v) (figure v)

-- a why: `-`, `tracks:n`, `son:k`, `lock:r` or `number`
abbrev pub reason_of : List ℕ → Option Why
reason_of v =
    or_else (word dash Nothing v)
    (or_else (into Tracks (coded tracks_word v))
    (or_else (into Son (coded son_word v))
    (or_else (into Lock (coded lock_word v)) (word any_number Number v))))

-- parts of a value one behind another: the next has its shape; no part is left
abbrev pub Parts : Type 0 → Type 0
Parts A = List (List ℕ) → Option A

abbrev pub next : {A : Type 0} → {B : Type 0} → (List ℕ → Option B) → (B → Parts A) → Parts A
next shape k [] = none
next shape k (f ∷ fs) = elim (shape f) [ none ↦ none | some b ↦ k b fs ]

abbrev pub over : {A : Type 0} → A → Parts A
over a [] = some a
over a (f ∷ fs) = none

-- each part is a number; numbers with commas between them, or nothing at all
abbrev pub each : Parts (List ℕ)
each [] = some []
each (f ∷ fs) = elim (figure f) [ none ↦ none | some n ↦ into (λ ns. n ∷ ns) (each fs) ]

abbrev pub listed : List ℕ → Option (List ℕ)
listed v = cond (eqb (length v) 0) (some []) (each (parts 44 v))

-- `first-last:holder`, its parts joined by `:`, and the two tracks by `-`
pub record Span : Type 0 where
  pub first : ℕ
  pub last : ℕ

abbrev pub span_of : List ℕ → Option Span
span_of v = next figure (λ a. next figure (λ b. over (record { first = a; last = b }))) (parts 45 v)

abbrev pub run_in : List ℕ → Option Run
run_in v = next span_of (λ s. next party_of (λ h. over (record { first = s.first; last = s.last; holder = h }))) (parts 58 v)

-- `r:owner:lock`
pub record Numbered : Type 0 where
  pub number : ℕ
  pub resource : Resource

abbrev pub numbered : List ℕ → Option Numbered
numbered v =
    next figure (λ r. next party_of (λ o. next figure_or_dash (λ l.
    over (record { number = r; resource = record { owner = o; lock = l } })))) (parts 58 v)
