-- Laws of the lines of a text from a place on, one by one; and that each stands where it says.
-- Assumes nothing.
use Prim.Native.Nat.{ℕ, ◌+◌, ◌-◌, ◌≤◌, ◌<◌}
use native.Mathlib.Decide.{dec_lt}
use native.Mathlib.Omega.{arith}
use mathlib.Core.Path.{◌≡◌, refl, sym, ap, ◌∙◌}
use mathlib.Core.List.{List, [], ◌∷◌}
use lib.ListN.{length, get_or, take, drop}
use lib.Seq.{slice, length-slice}
use mathlib.Core.Bool.{Bool, ◌&&◌}
use lib.Pointwise.{pointwise}
use Rattle.std.proofs.Common.{nat_eq}
use Rattle.std.specs.Prelude as option
use Rattle.std.specs.Prelude.{Some, None}
use Rattle.lists.specs.Lists.{alike}
use Rattle.text.specs.Text.{parts}
use Rattle.text.specs.Lines.{lines_of}
use Rattle.text.specs.Inner.{PartEnd}
use Rattle.text.proofs.Fields.{drop-take}
use Rattle.text.proofs.Lines.{lines_none, lines_next}
use Rattle.transcripts.specs.Transcripts.{standing, lines_in}
use Rattle.transcripts.specs.declared.lines.Span.{Span}
use Rattle.transcripts.specs.Inner.{lines_from, line_at, at_span}

pub from-none : (s : List ℕ) (at : ℕ) → length s ≤ at → lines_from s at ≡ []
from-none s at h = ap (standing at) (lines_none s at h)

pub from_next : (s : List ℕ) (at e : ℕ) → at < length s → PartEnd 10 s at e → lines_from s at ≡ line_at s at e ∷ lines_from s (e + 1)
from_next s at e h p =
    let len : at + length (slice at e s) ≡ e = omega (arith, length-slice at e s p.high, p.low) in
    ap (standing at) (lines_next s at e h p)
    ∙ ap (λ (k : ℕ). record { begins = at; ends = k; bytes = slice at e s } ∷ standing (k + 1) (lines_of (drop (e + 1) s))) len

pub from_start : (s : List ℕ) → lines_in s ≡ lines_from s 0
unfolding lines_in
from_start s = refl

-- a part of the text, as the code takes it
pub part-taken : (s : List ℕ) (from e : ℕ) → from ≤ e → take (e - from) (drop from s) ≡ slice from e s
part-taken s from e h =
    let k : from + (e - from) ≡ e = omega arith in
    sym (drop-take from (e - from) s) ∙ ap (λ (n : ℕ). drop from (take n s)) k

-- a part ends at one place
pub one_end : (d : ℕ) (s : List ℕ) (from e e' : ℕ) → PartEnd d s from e → PartEnd d s from e' → e ≡ e'
one_end d s from e e' p q = omega (arith, is e p, is e' q, p.low, q.low)
  where
    first : (x : ℕ) → PartEnd d s from x → get_or (parts d (drop from s)) 0 [] ≡ slice from x s
    first x p = go (dec_lt x (length s))
      where
        go : Dec (x < length s) → get_or (parts d (drop from s)) 0 [] ≡ slice from x s
        go (yes h) = ap (λ (ls : List (List ℕ)). get_or ls 0 []) (p.more h)
        go (no h) = ap (λ (ls : List (List ℕ)). get_or ls 0 []) (p.last (omega (arith, p.high)))

    is : (x : ℕ) → PartEnd d s from x → length (get_or (parts d (drop from s)) 0 []) ≡ x - from
    is x p = ap length (first x p) ∙ length-slice from x s p.high

-- the same place is told
abbrev begins_in : option.Option Span → ℕ
begins_in None = 0
begins_in (Some x) = x.begins

abbrev ends_in : option.Option Span → ℕ
ends_in None = 0
ends_in (Some x) = x.ends

pub span_is : {a e b f : ℕ} → at_span a e ≡ at_span b f → (b ≡ a) × (f ≡ e)
span_is q = (sym (ap begins_in q), sym (ap ends_in q))
