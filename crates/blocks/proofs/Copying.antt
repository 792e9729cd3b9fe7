-- Bytes further back copied to the front: what is held of a line that goes on behind the block.
-- Assumes nothing.
use Prim.Native.Nat.{ℕ, ◌+◌, ◌-◌, ◌≤◌, ◌<◌, min}
use native.Mathlib.Nat.{zero-add}
use native.Mathlib.Omega.{arith}
use native.Mathlib.Decide.{dec_le, dec_lt}
use mathlib.Core.Path.{◌≡◌, sym, ap, ◌∙◌, refl, ap₂}
use mathlib.Core.Bool.{Bool, true, false, ◌&&◌}
use mathlib.Core.List.{List, [], ◌++◌, ◌∷◌}
use lib.ListN.{length, take, drop, length-take, length-drop, get_or, set, length-set, take-append-drop}
use lib.Seq.{slice, take-take, take_all, length-take-le, take-suc, take-suc-set, drop-set-lt, drop-drop, get_or-drop, get_or-take, length-slice}
use lib.Dec.{leb}
use borrow.Author.Tests.{le-leb, lt-leb}
use Rattle.std.specs.List.{copy_within}
use Rattle.text.proofs.Fields.{drop-take}
use Rattle.rules.specs.Engine.{front}
use Rattle.blocks.specs.Blocks.{most, Carried, carried}
use native.Mathlib.Numerals.{add-one}

-- places of the block, and others
pub carried-part : (s : List ℕ) (from to : ℕ) → from ≤ to → to ≤ length s
    → carried s from to ≡ record { held = length (take most (slice from to s)); block = front (take most (slice from to s)) s }
unfolding carried
carried-part s from to a e = rw (le-leb from to a, le-leb to (length s) e, carried)

pub carried-turned : (s : List ℕ) (from to : ℕ) → to < from → record { held = 0; block = s } ≡ carried s from to
unfolding carried
carried-turned s from to a = rw (lt-leb from to a, carried)

pub carried-past : (s : List ℕ) (from to : ℕ) → from ≤ to → length s < to → record { held = 0; block = s } ≡ carried s from to
unfolding carried
carried-past s from to a e = rw (le-leb from to a, lt-leb to (length s) e, carried)

-- `most` bytes are held at most
pub held-few : (s : List ℕ) (from to : ℕ) (x : Carried) → x ≡ carried s from to → x.held ≤ most
unfolding carried
held-few s from to x e = rw (ap (λ (y : Carried). y.held) e) (go (leb from to && leb to (length s)))
  where
    kept : List ℕ
    kept = take most (slice from to s)

    carrying : Bool → Carried
    carrying b = elim b [ true ↦ record { held = length kept; block = front kept s } | false ↦ record { held = 0; block = s } ]

    go : (b : Bool) → (carrying b).held ≤ most
    go true = omega (arith, length-take most (slice from to s))
    go false = omega arith

-- what is copied: `most` of the bytes, or all where there are fewer
module _ (s : List ℕ) (from to n : ℕ) (a : from ≤ to) (e : to ≤ length s) (m : n ≡ min (to - from) most) where
  part : slice from to s ≡ take (to - from) (drop from s)
  part =
      let k : to ≡ from + (to - from) = omega arith in
      ap (λ (i : ℕ). drop from (take i s)) k ∙ drop-take from (to - from) s

  kept : take n (drop from s) ≡ take most (slice from to s)
  kept = go (dec_le most (to - from)) ∙ sym (ap (take most) part)
    where
      go : Dec (most ≤ to - from) → take n (drop from s) ≡ take most (take (to - from) (drop from s))
      go (yes h) =
          let k : n ≡ most = omega arith in
          ap (λ (i : ℕ). take i (drop from s)) k ∙ sym (take-take most (to - from) (drop from s) h)
      go (no h) =
          let k : n ≡ to - from = omega arith in
          ap (λ (i : ℕ). take i (drop from s)) k
          ∙ sym (take_all most (take (to - from) (drop from s)) (omega (arith, length-take (to - from) (drop from s))))

  pub carried-is : {s' : List ℕ} → s' ≡ copy_within s from (from + n) 0 → record { held = n; block = s' } ≡ carried s from to
  carried-is {s'} w =
      let i : from + n - from ≡ n = omega arith in
      let long : n ≡ length (take n (drop from s)) =
      sym (length-take-le n (drop from s) (omega (arith, length-drop from s))) in
      let held : n ≡ length (take most (slice from to s)) = long ∙ ap length kept in
      let block : s' ≡ front (take most (slice from to s)) s =
      w ∙ ap (λ (k : ℕ). take k (drop from s) ++ drop (0 + k) s) i ∙ ap (λ (xs : List ℕ). xs ++ drop (0 + n) s) kept
      ∙ ap (λ (k : ℕ). take most (slice from to s) ++ drop k s) (zero-add n ∙ held) in
      (λ j. record { held = held j; block = block j }) ∙ sym (carried-part s from to a e)

-- Laws of bytes that are copied one by one, for whoever proves about such a copy: where i are copied, from place i on the block is as
-- it was, so the next is read as it was.
-- i of the bytes between two places stand at the front
pub record Copied (before : List ℕ) (from to i : ℕ) (after : List ℕ) : Type 0 where
  pub front : take i after ≡ take i (slice from to before)
  pub behind : drop i after ≡ drop i before
  pub same : length after ≡ length before

pub copied_none : {l : List ℕ} {from to : ℕ} → Copied l from to 0 l
copied_none = record { front = refl; behind = refl; same = refl }

module _ {l₀ l : List ℕ} {from to i : ℕ} (h : Copied l₀ from to i l) where
  -- the byte to be copied is as it was
  copied_byte : from + i < to → get_or l (from + i) 0 ≡ get_or (slice from to l₀) i 0
  copied_byte b =
      let e : from + i ≡ i + from = omega arith in
      ap (λ (k : ℕ). get_or l k 0) e
      ∙ sym (get_or-drop i l from 0)
      ∙ ap (λ (xs : List ℕ). get_or xs from 0) h.behind
      ∙ get_or-drop i l₀ from 0
      ∙ ap (λ (k : ℕ). get_or l₀ k 0) (sym e)
      ∙ sym (get_or-take to l₀ (from + i) 0 b)
      ∙ sym (get_or-drop from (take to l₀) i 0)

  -- a turn of the loop
  pub copied-turn : from + i < to → to ≤ length l₀ → Copied l₀ from to (i + 1) (set l i (get_or l (from + i) 0))
  copied-turn b e =
      let v : ℕ = get_or l (from + i) 0 in
      record {
        front = rw (add-one i)
            (take-suc-set l i v (omega (arith, h.same))
            ∙ ap₂ (λ (xs : List ℕ) (x : ℕ). xs ++ (x ∷ [])) h.front (copied_byte b)
            ∙ sym (take-suc (slice from to l₀) i 0 (omega (arith, length-slice from to l₀ e))));
        behind = drop-set-lt (i + 1) l i v (omega arith) ∙ sym (drop-drop 1 i l) ∙ ap (drop 1) h.behind ∙ drop-drop 1 i l₀;
        same = length-set l i v ∙ h.same;
      }

  -- `most` of them, or all where there are fewer
  copied-most : to ≤ length l₀ → i ≤ most → (i < most → i ≡ to - from) → take i l ≡ take most (slice from to l₀)
  copied-most e many few = h.front ∙ go (dec_lt i most)
    where
      go : Dec (i < most) → take i (slice from to l₀) ≡ take most (slice from to l₀)
      go (yes s) =
          let n = length-slice from to l₀ e in
          take_all i (slice from to l₀) (omega (arith, few s)) ∙ sym (take_all most (slice from to l₀) (omega (arith, few s)))
      go (no s) = let n : i ≡ most = omega arith in ap (λ (k : ℕ). take k (slice from to l₀)) n

  -- so the block is what is carried
  pub copied-whole : from ≤ to → to ≤ length l₀ → i ≤ most → i ≤ to - from → (i < most → i ≡ to - from)
      → record { held = i; block = l } ≡ carried l₀ from to
  copied-whole a e many all few =
      let kept : take i l ≡ take most (slice from to l₀) = copied-most e many few in
      let n : length (take i l) ≡ i = length-take-le i l (omega (arith, h.same)) in
      let held : i ≡ length (take most (slice from to l₀)) = sym n ∙ ap length kept in
      let block : l ≡ front (take most (slice from to l₀)) l₀ =
      sym (take-append-drop i l) ∙ ap₂ (λ (xs : List ℕ) (ys : List ℕ). xs ++ ys) kept h.behind
      ∙ ap (λ (k : ℕ). take most (slice from to l₀) ++ drop k l₀) held
      in
      (λ i. record { held = held i; block = block i }) ∙ sym (carried-part l₀ from to a e)
