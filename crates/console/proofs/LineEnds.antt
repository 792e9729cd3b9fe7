-- Where a line ends: at a place of the block, where the part that begins with it ends. So a search for the part's end finds it.
-- Assumes nothing.
use Prim.Native.Nat.{ℕ, ◌+◌, ◌-◌, ◌≤◌, ◌<◌}
use native.Mathlib.Decide.{dec_lt}
use native.Mathlib.Omega.{arith}
use mathlib.Core.Path.{◌≡◌, sym, ap, ◌∙◌}
use mathlib.Core.List.{List, []}
use lib.ListN.{length, get_or, take, drop}
use lib.Seq.{slice, length-slice}
use borrow.Author.Tests.{le-leb, lt-leb}
use Rattle.text.specs.Text.{parts}
use Rattle.text.specs.Inner.{PartEnd}
use Rattle.text.proofs.Fields.{drop-take, until, part_end}
use Rattle.console.specs.Sheet.{line_end}

pub end-past : (s : List ℕ) (from : ℕ) → length s < from → length s ≡ line_end s from
unfolding line_end
end-past s from h = rw (lt-leb from (length s) h)

first_part : {s : List ℕ} {from e : ℕ} → PartEnd 10 s from e → get_or (parts 10 (drop from s)) 0 [] ≡ slice from e s
first_part {s} {from} {e} p = go (dec_lt e (length s))
  where
    go : Dec (e < length s) → get_or (parts 10 (drop from s)) 0 [] ≡ slice from e s
    go (yes h) = ap (λ (ls : List (List ℕ)). get_or ls 0 []) (p.more h)
    go (no h) = ap (λ (ls : List (List ℕ)). get_or ls 0 []) (p.last (omega (arith, p.high)))

pub end-within : (s : List ℕ) (from e : ℕ) → from ≤ length s → PartEnd 10 s from e → e ≡ line_end s from
unfolding line_end
end-within s from e h p = rw (le-leb from (length s) h) (omega (arith, ap length (first_part p), length-slice from e s p.high, p.low))

-- a line's end as a caller needs it
pub record LineEnd (s : List ℕ) (from e : ℕ) : Type 0 where
  pub high : e ≤ length s
  pub past : length s < from → e ≡ length s
  pub line : from ≤ length s → PartEnd 10 s from e

pub line-end : (s : List ℕ) (from : ℕ) → LineEnd s from (line_end s from)
line-end s from = go (dec_lt (length s) from)
  where
    go : Dec (length s < from) → LineEnd s from (line_end s from)
    go (yes h) = record { high = omega (arith, end-past s from h); past = λ k. sym (end-past s from h); line = λ k. absurd (omega arith) }
    go (no h) =
        let p = part_end 10 s from (omega arith) in
        rw (end-within s from (from + until 10 (drop from s)) (omega arith) p) at (found p)
      where
        found : PartEnd 10 s from (from + until 10 (drop from s)) → LineEnd s from (from + until 10 (drop from s))
        found p = record { high = p.high; past = λ k. absurd (omega arith); line = λ k. p }

-- where a line ends in the block, it begins in it
pub line-within : {s : List ℕ} {from e : ℕ} → LineEnd s from e → e < length s → from ≤ length s
line-within {s} {from} {e} E h = go (dec_lt (length s) from)
  where
    go : Dec (length s < from) → from ≤ length s
    go (yes k) = absurd (omega (arith, E.past k))
    go (no k) = omega arith

-- a line, as the code takes it
pub line_taken : (s : List ℕ) (from e : ℕ) → from ≤ e → take (e - from) (drop from s) ≡ slice from e s
line_taken s from e h =
    let k : from + (e - from) ≡ e = omega arith in
    sym (drop-take from (e - from) s) ∙ ap (λ (n : ℕ). slice from n s) k
