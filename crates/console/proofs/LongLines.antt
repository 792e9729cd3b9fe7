-- An over-long line is one line however it is cut: 73 of its bytes, with whatever follows, are not understood either.
-- Assumes nothing.
use Prim.Native.Nat.{ℕ, ◌+◌, ◌<◌}
use native.Mathlib.Omega.{arith}
use native.Mathlib.Decide.{dec_lt}
use mathlib.Core.Path.{◌≡◌, sym, ap, ◌∙◌}
use mathlib.Core.List.{List, ◌++◌}
use lib.ListN.{length, take, length-append}
use lib.Seq.{length-take-le, take_all}
use Rattle.limits.specs.Limits.{longest_line}
use Rattle.console.specs.Line.{line_of}
use Rattle.console.proofs.WordLaws.{line-long}

pub cut_line : (a b : List ℕ) → line_of (take (longest_line + 1) a ++ b) ≡ line_of (a ++ b)
cut_line a b = go (dec_lt (longest_line + 1) (length a))
  where
    go : Dec (longest_line + 1 < length a) → line_of (take (longest_line + 1) a ++ b) ≡ line_of (a ++ b)
    go (yes h) =
        line-long (take (longest_line + 1) a ++ b)
        (omega (arith, length-append (take (longest_line + 1) a) b, length-take-le (longest_line + 1) a (omega arith)))
        ∙ sym (line-long (a ++ b) (omega (arith, length-append a b)))
    go (no h) = ap (λ (x : List ℕ). line_of (x ++ b)) (take_all (longest_line + 1) a (omega arith))
