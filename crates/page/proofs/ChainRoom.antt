-- Room for the lines of the chains that are shown. A program stands in the chain of its state, once: so these chains
-- together weigh no more than all programs.
-- Assumes nothing.
use Prim.Native.Nat.{ℕ, zero, suc, ◌+◌, ◌*◌, ◌<◌, ◌≤◌}
use native.Mathlib.Omega.{arith}
use mathlib.Core.Path.{◌≡◌, refl}
use mathlib.Core.Bool.{Bool, true, false}
use mathlib.Core.List.{List, [], ◌∷◌, ◌++◌, map}
use lib.ListN.{length, get_or, length-append}
use Rattle.lists.specs.Lists.{count, every, up_to, join}
use Rattle.lists.proofs.Laws.{count-append, from-once}
use Rattle.lists.proofs.Tests.{clash, both, up_to-true}
use Rattle.text.specs.Text.{text, digits, decimal, between}
use Rattle.text.proofs.Laws.{entry_length, decimal-length}
use Rattle.records.specs.Records.{Known, known, all}
use Rattle.rules.specs.Book.{Book, state_of}
use Rattle.rules.specs.Sound.{Chains}
use Rattle.rules.proofs.shared.Places.{known-true, known_is, all_one}
use Rattle.page.specs.Page.{Line, bytes_of, bytes, chain_key, chained, chain_line, chain_lines}
use Rattle.page.proofs.Weights.{weigh, weigh-fewer, weigh-append}

-- a program's number and a comma
abbrev pub mark : ℕ → ℕ
mark p = suc (length (decimal p))

between-length : (c : List ℕ) → length (between 44 (map decimal c)) ≤ weigh mark c
between-length [] = omega arith
between-length (p ∷ []) = omega arith
between-length (p ∷ q ∷ qs) = omega (arith, length-append (decimal p) (44 ∷ between 44 (map decimal (q ∷ qs))), between-length (q ∷ qs))

chain_length : (s : ℕ) (c : List ℕ) → s < 10 → length (bytes_of (chain_line s c)) ≤ 8 + weigh mark c
chain_length s c h = omega (
  arith,
  entry_length (text chain_key ++ decimal s) (between 44 (map decimal c)),
  length-append (text chain_key) (decimal s),
  decimal-length 0 s h,
  between-length c,
)

marks-weigh : weigh mark all ≡ 87
unfolding all decimal digits
marks-weigh = refl

-- states are 1 to 6
abbrev pub States : List ℕ → Type 0
States ss = every (up_to 1 6) ss ≡ true

module _ (m : List (List ℕ)) where
  -- the chains of some states, one after the other, and their lines
  abbrev pub chains_of : List ℕ → List ℕ
  chains_of ss = join (map (λ s. get_or m s []) ss)

  abbrev pub lines_of : List ℕ → List Line
  lines_of ss = map (λ s. chain_line s (get_or m s [])) ss

  pub lines-length : (ss : List ℕ) → States ss → length (bytes (lines_of ss)) ≤ 8 * length ss + weigh mark (chains_of ss)
  unfolding bytes
  lines-length [] e = omega arith
  lines-length (s ∷ ss) e =
      let h = both (up_to 1 6 s) (every (up_to 1 6) ss) e in
      let t = up_to-true 1 6 s h.0 in
      omega (
        arith,
        length-append (bytes_of (chain_line s (get_or m s []))) (bytes (lines_of ss)),
        chain_length s (get_or m s []) (omega arith),
        weigh-append mark (get_or m s []) (chains_of ss),
        lines-length ss h.1,
      )

module _ (b : Book) (m : List (List ℕ)) (C : Chains b m) where
  -- a program is in the chain of its state, and none but programs are in any
  program-count : (x : ℕ) → Known x → (ss : List ℕ) → States ss → count x (chains_of m ss) ≡ count (state_of b x) ss
  program-count x K [] e = refl
  program-count x K (s ∷ ss) e =
      let h = both (up_to 1 6 s) (every (up_to 1 6) ss) e in
      let t = up_to-true 1 6 s h.0 in
      omega (arith, count-append x (get_or m s []) (chains_of m ss), C.member s x (omega arith) (omega arith) K, program-count x K ss h.1)

  absent : (x s : ℕ) → 1 ≤ s → s < 7 → known x ≡ false → count x (get_or m s []) ≡ 0
  absent x s l h e = go (count x (get_or m s [])) refl
    where
      go : (n : ℕ) → count x (get_or m s []) ≡ n → count x (get_or m s []) ≡ 0
      go zero z = z
      go (suc n) z = clash (known_is x (C.within s x l h (omega arith))) e

  other-count : (x : ℕ) → known x ≡ false → (ss : List ℕ) → States ss → count x (chains_of m ss) ≡ 0
  other-count x k [] e = refl
  other-count x k (s ∷ ss) e =
      let h = both (up_to 1 6 s) (every (up_to 1 6) ss) e in
      let t = up_to-true 1 6 s h.0 in
      omega (arith, count-append x (get_or m s []) (chains_of m ss), absent x s (omega arith) (omega arith) k, other-count x k ss h.1)

  -- the states shown are some of 1 to 6, each once
  shown-once : (x : ℕ) → count x (chains_of m chained) ≤ count x all
  shown-once x = go (known x) refl
    where
      go : (t : Bool) → known x ≡ t → count x (chains_of m chained) ≤ count x all
      go true e =
          let K = known-true x e in
          omega (arith, program-count x K chained refl, from-once (state_of b x) 1 6, all_one x K)
      go false e = omega (arith, other-count x e chained refl)

  pub chain-room : length (bytes (chain_lines m)) ≤ 119
  unfolding chain_lines
  chain-room = omega (arith, lines-length m chained refl, weigh-fewer mark (chains_of m chained) all shown-once, marks-weigh)
