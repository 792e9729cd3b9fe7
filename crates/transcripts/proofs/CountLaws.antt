-- Lines counted off up to a place: those counted and those that are left are all of them.
-- Assumes nothing.
use Prim.Native.Nat.{ℕ, ◌+◌, ◌-◌, ◌≤◌, ◌<◌}
use native.Mathlib.Omega.{arith}
use mathlib.Core.Path.{◌≡◌, ap, subst, ◌∙◌}
use mathlib.Core.Bool.{true, false}
use mathlib.Core.List.{List, ◌∷◌}
use lib.ListN.{length, take, drop}
use Rattle.text.specs.Inner.{PartEnd}
use Rattle.transcripts.specs.Transcripts.{Line, has_key}
use Rattle.transcripts.specs.Inner.{line_at, occurrences, Between, here, next, Counted}
use Rattle.transcripts.proofs.LineLaws.{one_end}
use Rattle.transcripts.proofs.OccurrenceLaws.{count_none, count-miss, count-hit}
use Rattle.transcripts.proofs.TurnLaws.{key-of-line}

-- of the lines xs, n have the key so far, and those from `at` on are left
pub record Rest (k s : List ℕ) (to at n : ℕ) (xs : List Line) : Type 0 where
  pub lines : List Line
  pub between : Between s to at lines
  pub sum : n + occurrences k lines ≡ occurrences k xs

pub record Counting (k s : List ℕ) (from to at n : ℕ) : Type 0 where
  pub rest : (xs : List Line) → Between s to from xs → Rest k s to at n xs
  pub few : n ≤ at

pub counting-start : (k s : List ℕ) (from to : ℕ) → Counting k s from to from 0
counting-start k s from to = record { rest = λ xs b. record { lines = xs; between = b; sum = omega arith }; few = omega arith }

module _ (k s : List ℕ) (from to at n : ℕ) (c : Counting k s from to at n) where
  pub counting-end : to ≤ at → Counted k s from to n
  counting-end h = record { right = λ xs b. go xs (c.rest xs b).lines (c.rest xs b).between (c.rest xs b).sum }
    where
      go : (xs ls : List Line) → Between s to at ls → n + occurrences k ls ≡ occurrences k xs → n ≡ occurrences k xs
      go xs ls (here q) e = omega (arith, e, count_none k)
      go xs ls (next f ys l m p b) e = absurd (omega arith)

  module _ (e : ℕ) (l : at < to) (h : at < length s) (p : PartEnd 10 s at e) where
    -- the next of the lines that are left is the one at `at`
    onward : (d : ℕ) → ((ys : List Line) → occurrences k (line_at s at e ∷ ys) ≡ d + occurrences k ys) → d ≤ 1
        → Counting k s from to (e + 1) (n + d)
    onward d f few = record {
      rest = λ xs b. go xs (c.rest xs b).lines (c.rest xs b).between (c.rest xs b).sum;
      few = omega (arith, c.few, p.low);
    }
      where
        go : (xs ls : List Line) → Between s to at ls → n + occurrences k ls ≡ occurrences k xs → Rest k s to (e + 1) (n + d) xs
        go xs ls (here q) g = absurd (omega arith)
        go xs ls (next e' ys m m' p' b) g =
            let same : e' ≡ e = one_end 10 s at e' e p' p in
            record {
              lines = ys;
              between = subst (λ (i : ℕ). Between s to (i + 1) ys) same b;
              sum = omega (arith, g, ap (λ (i : ℕ). occurrences k (line_at s at i ∷ ys)) same, f ys);
            }

    pub counting-past : false ≡ has_key k (take (e - at) (drop at s)) → Counting k s from to (e + 1) n
    counting-past q =
        let zero : n + 0 ≡ n = omega arith in
        subst (λ (i : ℕ). Counting k s from to (e + 1) i) zero
        (onward 0 (λ ys. count-miss k (line_at s at e) ys (key-of-line s at e h p k false q) ∙ omega arith) (omega arith))

    pub counting-here : true ≡ has_key k (take (e - at) (drop at s)) → Counting k s from to (e + 1) (n + 1)
    counting-here q = onward 1 (λ ys. count-hit k (line_at s at e) ys (key-of-line s at e h p k true q) ∙ omega arith) (omega arith)
