-- One line on: what is looked for from a line on is the line, or is looked for behind its end.
-- Assumes nothing.
use Prim.Native.Nat.{ℕ, ◌+◌, ◌-◌, ◌≤◌, ◌<◌}
use native.Mathlib.Omega.{arith}
use mathlib.Core.Path.{◌≡◌, sym, ap, ◌∙◌}
use mathlib.Core.Bool.{Bool, true, false}
use mathlib.Core.List.{List}
use mathlib.Core.Option.{Option, none, some}
use lib.ListN.{length, take, drop}
use lib.Seq.{slice}
use Rattle.text.specs.Inner.{PartEnd}
use Rattle.transcripts.specs.Transcripts.{key_of, has_key}
use Rattle.transcripts.specs.Inner.{lines_from, line_at, behind_others, first_or, first_keyed}
use Rattle.transcripts.proofs.LineLaws.{from-none, from_next, part-taken}
use Rattle.transcripts.proofs.KeyLaws.{key-none, key-some}
use Rattle.transcripts.proofs.OccurrenceLaws.{behind-none, behind-miss, behind-hit, behind_more}

module _ (s : List ℕ) (at e : ℕ) (h : at < length s) (p : PartEnd 10 s at e) where
  -- the line, as the code takes it
  abbrev taken : List ℕ
  taken = take (e - at) (drop at s)

  line-is : taken ≡ slice at e s
  line-is = part-taken s at e p.low

  module _ (k : List ℕ) where
    pub key-of-line : (b : Bool) → b ≡ has_key k taken → has_key k (slice at e s) ≡ b
    key-of-line b q = ap (has_key k) (sym line-is) ∙ sym q

    pub seek-past : (n : ℕ) → false ≡ has_key k taken → behind_others k n (lines_from s at) ≡ behind_others k n (lines_from s (e + 1))
    seek-past n q =
        ap (behind_others k n) (from_next s at e h p) ∙ behind-miss k (line_at s at e) (lines_from s (e + 1)) n (key-of-line false q)

    pub seek-here : true ≡ has_key k taken → behind_others k 0 (lines_from s at) ≡ some (line_at s at e)
    seek-here q = ap (behind_others k 0) (from_next s at e h p) ∙ behind-hit k (line_at s at e) (lines_from s (e + 1)) (key-of-line true q)

    pub seek-on : (n : ℕ) → true ≡ has_key k taken → 0 < n
        → behind_others k n (lines_from s at) ≡ behind_others k (n - 1) (lines_from s (e + 1))
    seek-on n q l =
        ap (behind_others k n) (from_next s at e h p) ∙ behind_more k (line_at s at e) (lines_from s (e + 1)) n (key-of-line true q) l

  -- a line without a key, and one with
  module _ (m : ℕ) (q : PartEnd 61 taken 0 m) where
    pub no_key : length taken ≤ m → key_of (slice at e s) ≡ none
    no_key l = ap key_of (sym line-is) ∙ key-none taken m q (omega (arith, q.high))

    pub some_key : m < length taken → key_of (slice at e s) ≡ some (slice 0 m taken)
    some_key l = ap key_of (sym line-is) ∙ key-some taken m q l

    pub first_past : length taken ≤ m → first_keyed (lines_from s at) ≡ first_keyed (lines_from s (e + 1))
    first_past l =
        ap first_keyed (from_next s at e h p)
        ∙ ap (λ (o : Option (List ℕ)). first_or o (line_at s at e) (first_keyed (lines_from s (e + 1)))) (no_key l)

    pub first-here : m < length taken → first_keyed (lines_from s at) ≡ some (line_at s at e)
    first-here l =
        ap first_keyed (from_next s at e h p)
        ∙ ap (λ (o : Option (List ℕ)). first_or o (line_at s at e) (first_keyed (lines_from s (e + 1)))) (some_key l)

-- behind the last line
pub seek-none : (s k : List ℕ) (n at : ℕ) → length s ≤ at → behind_others k n (lines_from s at) ≡ none
seek-none s k n at h = ap (behind_others k n) (from-none s at h) ∙ behind-none k n

pub first-none : (s : List ℕ) (at : ℕ) → length s ≤ at → first_keyed (lines_from s at) ≡ none
first-none s at h = ap first_keyed (from-none s at h)
