-- Each line of a text stands where it says: its bytes are those of the text from where it begins up to where it ends.
-- Assumes nothing.
use Prim.Native.Nat.{ℕ, zero, suc, ◌+◌, ◌-◌, ◌≤◌, ◌<◌}
use native.Mathlib.Decide.{dec_lt}
use native.Mathlib.Omega.{arith}
use mathlib.Core.Path.{◌≡◌, refl, sym, ap, subst, ◌∙◌}
use mathlib.Core.Bool.{Bool, true, false, cond, not}
use mathlib.Core.Logic.{◌⊎◌, inl, inr}
use mathlib.Core.List.{List, [], ◌∷◌, ◌++◌}
use mathlib.Core.Option.{Option, none, some}
use lib.ListN.{length, get_or, get_elem?, drop, length-drop}
use lib.Seq.{get_or-drop}
use lib.Dec.{eqb}
use borrow.Author.Tests.{eqb-true}
use Rattle.lists.specs.Lists.{alike}
use Rattle.text.specs.Inner.{PartEnd}
use Rattle.text.proofs.Fields.{until, part_end}
use Rattle.std.specs.Prelude as option
use Rattle.transcripts.specs.declared.lines.Span.{Span}
use Rattle.transcripts.specs.Transcripts.{Line, lines_in, key_of, has_key, with_key, occurrence}
use Rattle.transcripts.specs.Listing.{differs, begin_of}
use Rattle.transcripts.specs.Promises.{LineOf, StandsIn}
use Rattle.transcripts.specs.Inner.{lines_from, line_at, span_of, first_or, first_keyed, behind_others, SpanIn, held_at}
use Rattle.transcripts.proofs.LineLaws.{from-none, from_next, one_end}

-- all of some lines do; one does, where there is one
abbrev pub AllStand : List ℕ → List Line → Type 0
AllStand s [] = Unit {0}
AllStand s (x ∷ xs) = StandsIn s x × AllStand s xs

abbrev pub OneStands : List ℕ → Option Line → Type 0
OneStands s none = Unit {0}
OneStands s (some x) = StandsIn s x

-- Something holds of the lines from any place on if it holds of none, and of a line in front of those of which it holds.
pub by_lines : (s : List ℕ) (P : ℕ → List Line → Type 0) → ((at : ℕ) → length s ≤ at → P at [])
    → ((at e : ℕ) → at < length s → PartEnd 10 s at e → P (e + 1) (lines_from s (e + 1)) → P at (line_at s at e ∷ lines_from s (e + 1)))
    → (at : ℕ) → P at (lines_from s at)
by_lines s P nothing more at = go (length s) at (omega arith)
  where
    over : (at : ℕ) → length s ≤ at → P at (lines_from s at)
    over at h = subst (P at) (sym (from-none s at h)) (nothing at h)

    line : (at : ℕ) → at < length s → ((e : ℕ) → at ≤ e → P (e + 1) (lines_from s (e + 1))) → P at (lines_from s at)
    line at h rest =
        let e : ℕ = at + until 10 (drop at s) in
        let p : PartEnd 10 s at e = part_end 10 s at (omega arith) in
        subst (P at) (sym (from_next s at e h p)) (more at e h p (rest e p.low))

    go : (k at : ℕ) → length s ≤ at + k → P at (lines_from s at)
    go zero at h = over at (omega arith)
    go (suc k) at h = test (dec_lt at (length s)) (λ e l. go k (e + 1) (omega arith))
      where
        test : Dec (at < length s) → ((e : ℕ) → at ≤ e → P (e + 1) (lines_from s (e + 1))) → P at (lines_from s at)
        test (yes l) rest = line at l rest
        test (no l) rest = over at (omega arith)

-- a part that is not the last ends at its byte
until-there : (d : ℕ) (s : List ℕ) → until d s < length s → get_or s (until d s) 0 ≡ d
unfolding until
until-there d [] h = absurd (omega arith)
until-there d (x ∷ xs) h = go (eqb x d) refl h (until-there d xs)
  where
    go : (b : Bool) → eqb x d ≡ b → cond b 0 (suc (until d xs)) < suc (length xs)
        → (until d xs < length xs → get_or xs (until d xs) 0 ≡ d) → get_or (x ∷ xs) (cond b 0 (suc (until d xs))) 0 ≡ d
    go true e l ih = eqb-true x d e
    go false e l ih = ih (omega arith)

pub line-stands : (s : List ℕ) (at e : ℕ) → at ≤ length s → PartEnd 10 s at e → StandsIn s (line_at s at e)
line-stands s at e l p = record { low = p.low; high = p.high; bytes = refl; ended = go (dec_lt e (length s)) }
  where
    at-until : e ≡ at + until 10 (drop at s)
    at-until = one_end 10 s at e (at + until 10 (drop at s)) p (part_end 10 s at l)

    go : Dec (e < length s) → (e ≡ length s) ⊎ (get_or s e 0 ≡ 10)
    go (no h) = inl (omega (arith, p.high))
    go (yes h) =
        let len : length (drop at s) ≡ length s - at = length-drop at s in
        inr (ap (λ (i : ℕ). get_or s i 0) at-until ∙ sym (get_or-drop at s (until 10 (drop at s)) 0)
        ∙ until-there 10 (drop at s) (omega (arith, at-until)))

pub all-stand : (s : List ℕ) (at : ℕ) → AllStand s (lines_from s at)
all-stand s at = by_lines s (λ i xs. AllStand s xs) (λ i h. tt) (λ i e h p r. (line-stands s i e (omega arith) p, r)) at

with-stand : (s k : List ℕ) (xs : List Line) → AllStand s xs → AllStand s (with_key k xs)
with-stand s k [] h = tt
with-stand s k (x ∷ xs) h = go (has_key k x.bytes) (with-stand s k xs h.1)
  where
    go : (b : Bool) → AllStand s (with_key k xs) → AllStand s (cond b (x ∷ with_key k xs) (with_key k xs))
    go true r = (h.0, r)
    go false r = r

nth-stands : (s : List ℕ) (n : ℕ) (xs : List Line) → AllStand s xs → OneStands s (get_elem? xs n)
nth-stands s n [] h = tt
nth-stands s zero (x ∷ xs) h = h.0
nth-stands s (suc n) (x ∷ xs) h = nth-stands s n xs h.1

pub behind-stands : (s k : List ℕ) (n at : ℕ) → OneStands s (behind_others k n (lines_from s at))
unfolding behind_others
behind-stands s k n at = nth-stands s n (with_key k (lines_from s at)) (with-stand s k (lines_from s at) (all-stand s at))

pub first-stands : (s : List ℕ) (at : ℕ) → OneStands s (first_keyed (lines_from s at))
first-stands s at = go (lines_from s at) (all-stand s at)
  where
    go : (xs : List Line) → AllStand s xs → OneStands s (first_keyed xs)
    go [] h = tt
    go (x ∷ xs) h = which (key_of x.bytes) (go xs h.1)
      where
        which : (o : Option (List ℕ)) → OneStands s (first_keyed xs) → OneStands s (first_or o x (first_keyed xs))
        which none r = r
        which (some k) r = h.0

-- so a place lies in its text, and to hold a line against the bytes there is to hold it against the line
pub span_in : (s : List ℕ) (y : Option Line) → OneStands s y → SpanIn s (span_of y)
span_in s none h = tt
span_in s (some y) h = (h.low, h.high)

pub span-lies : (s : List ℕ) (x : option.Option Span) (y : Option Line) → x ≡ span_of y → OneStands s y → SpanIn s x
span-lies s x y e h = subst (SpanIn s) (sym e) (span_in s y h)

pub held-is : (copy : List ℕ) (x : Line) (y : Option Line) → OneStands copy y
    → held_at x.bytes copy (span_of y) ≡ record { listed = differs x y; begins = begin_of copy y }
held-is copy x none h = refl
held-is copy x (some y) h =
    ap (λ (b : List ℕ). record { listed = not (alike x.bytes b); begins = y.begins }) (sym h.bytes)

-- so does each line of a text, wherever it stands among them
pub stands-in : (s : List ℕ) (before : List Line) (x : Line) → LineOf s before x → StandsIn s x
unfolding lines_in
stands-in s before x l = go before (subst (AllStand s) l.whole (all-stand s 0))
  where
    go : (ys : List Line) → AllStand s (ys ++ (x ∷ l.after)) → StandsIn s x
    go [] h = h.0
    go (y ∷ ys) h = go ys h.1

-- and one that is found by its key
pub occurrence-stands : (s k : List ℕ) (n : ℕ) → OneStands s (occurrence k n (lines_in s))
unfolding occurrence lines_in
occurrence-stands s k n = nth-stands s (n - 1) (with_key k (lines_from s 0)) (with-stand s k (lines_from s 0) (all-stand s 0))
