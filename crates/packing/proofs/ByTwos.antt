-- Laws of numbers in bytes, for whoever proves about them: two bytes are a number below 65,536, and eight are four such; and what stands at a place of the bytes.
-- Assumes nothing.
use Prim.Native.Nat.{ℕ, suc, ◌+◌, ◌*◌, ◌/◌, ◌%◌, ◌<◌, ◌≤◌}
use native.Mathlib.Numerals.{add-one}
use native.Mathlib.Omega.{arith}
use mathlib.Core.Path.{◌≡◌, refl, sym, ap, ap₂, subst, ◌∙◌}
use mathlib.Core.List.{List, [], ◌∷◌, ◌++◌}
use lib.Dec.{ltb}
use lib.ListN.{length, get_or, take, drop}
use lib.Seq.{drop-cons}
use Rattle.text.specs.Inner.{Wrote}
use Rattle.text.proofs.Laws.{wrote_then}
use Rattle.records.specs.declared.Program.{Program}
use Rattle.packing.specs.Packed.{in_bytes, of_bytes, figure_at, why_of, program_at}

-- the lowest byte, and the others
figure-step : (k : ℕ) (s : List ℕ) (i : ℕ) → i < length s → figure_at (suc k) s i ≡ get_or s i 0 + 256 * figure_at k s (suc i)
figure-step k s i h = ap (of_bytes (suc k)) (drop-cons s i 0 h)

pub figure-two : (s : List ℕ) (i : ℕ) → i + 2 ≤ length s → get_or s i 0 + 256 * get_or s (i + 1) 0 ≡ figure_at 2 s i
figure-two s i h = rw (add-one i) (omega (arith, figure-step 1 s i (omega arith), figure-step 0 s (suc i) (omega arith)))

-- the lowest two bytes, and the others, which stand from j on
figure-pair : (k : ℕ) (s : List ℕ) (i j : ℕ) → j ≡ i + 2 → j ≤ length s
    → figure_at (suc (suc k)) s i ≡ figure_at 2 s i + 65536 * figure_at k s j
figure-pair k s i j e h =
    let f : j ≡ suc (suc i) = omega arith in
    rw f (omega (
      arith,
      figure-step (suc k) s i (omega arith),
      figure-step k s (suc i) (omega arith),
      figure-step 1 s i (omega arith),
      figure-step 0 s (suc i) (omega arith),
    ))

pub figure-eight : (s : List ℕ) (i a b c d : ℕ) → i + 8 ≤ length s
    → a ≡ figure_at 2 s i → b ≡ figure_at 2 s (i + 2) → c ≡ figure_at 2 s (i + 4) → d ≡ figure_at 2 s (i + 6)
    → a + 65536 * (b + 65536 * (c + 65536 * d)) ≡ figure_at 8 s i
figure-eight s i a b c d h ea eb ec ed =
    omega (
      arith,
      figure-pair 6 s i (i + 2) refl (omega arith),
      figure-pair 4 s (i + 2) (i + 4) (omega arith) (omega arith),
      figure-pair 2 s (i + 4) (i + 6) (omega arith) (omega arith),
    )

-- the same of the bytes of a number
bytes_pair : (k n : ℕ) → in_bytes 2 (n % 65536) ++ in_bytes k (n / 65536) ≡ in_bytes (suc (suc k)) n
bytes_pair k n =
    let a : n % 65536 % 256 ≡ n % 256 = omega arith in
    let d : n / 256 ≡ 256 * (n / 65536) + n % 65536 / 256 = omega arith in
    let b : n % 65536 / 256 % 256 ≡ n / 256 % 256 = rw d (omega arith) in
    let c : n / 65536 ≡ n / 256 / 256 = omega arith in
    ap₂ (λ x y. x ∷ y) a (ap₂ (λ x y. x ∷ y) b (ap (in_bytes k) c))

bytes-eight : (n : ℕ)
    → in_bytes 2 (n % 65536) ++ (in_bytes 2 (n / 65536 % 65536) ++ (in_bytes 2 (n / 4294967296 % 65536) ++ in_bytes 2 (n / 281474976710656)))
    ≡ in_bytes 8 n
bytes-eight n =
    let c : n / 4294967296 ≡ n / 65536 / 65536 = omega arith in
    let d : n / 281474976710656 ≡ n / 65536 / 65536 / 65536 = omega arith in
    ap₂ (λ (x y : ℕ). in_bytes 2 (n % 65536) ++ (in_bytes 2 (n / 65536 % 65536) ++ (in_bytes 2 (x % 65536) ++ in_bytes 2 y))) c d
    ∙ ap (λ (l : List ℕ). in_bytes 2 (n % 65536) ++ (in_bytes 2 (n / 65536 % 65536) ++ l)) (bytes_pair 2 (n / 65536 / 65536))
    ∙ ap (λ (l : List ℕ). in_bytes 2 (n % 65536) ++ l) (bytes_pair 4 (n / 65536))
    ∙ bytes_pair 6 n

pub wrote-pair : {l₀ l₁ l₂ : List ℕ} {at₀ at₁ at₂ : ℕ} (n : ℕ) → n < 65536 → Wrote l₀ at₀ (n % 256 ∷ []) l₁ at₁
    → Wrote l₁ at₁ (n / 256 ∷ []) l₂ at₂ → Wrote l₀ at₀ (in_bytes 2 n) l₂ at₂
wrote-pair {l₀} {l₁} {l₂} {at₀} {at₁} {at₂} n h a b =
    let e : n / 256 ≡ n / 256 % 256 = omega arith in
    subst (λ (k : ℕ). Wrote l₀ at₀ (n % 256 ∷ k ∷ []) l₂ at₂) e (wrote_then (n % 256 ∷ []) (n / 256 ∷ []) a b)

pub wrote-eight : {l₀ l₁ l₂ l₃ l₄ : List ℕ} {at₀ at₁ at₂ at₃ at₄ : ℕ} (n : ℕ) → Wrote l₀ at₀ (in_bytes 2 (n % 65536)) l₁ at₁
    → Wrote l₁ at₁ (in_bytes 2 (n / 65536 % 65536)) l₂ at₂
    → Wrote l₂ at₂ (in_bytes 2 (n / 4294967296 % 65536)) l₃ at₃ → Wrote l₃ at₃ (in_bytes 2 (n / 281474976710656)) l₄ at₄
    → Wrote l₀ at₀ (in_bytes 8 n) l₄ at₄
wrote-eight {l₀} {l₁} {l₂} {l₃} {l₄} {at₀} {at₁} {at₂} {at₃} {at₄} n a b c d =
    let x = in_bytes 2 (n / 4294967296 % 65536) in
    let y = in_bytes 2 (n / 281474976710656) in
    subst (λ (s : List ℕ). Wrote l₀ at₀ s l₄ at₄) (bytes-eight n)
    (wrote_then (in_bytes 2 (n % 65536)) (in_bytes 2 (n / 65536 % 65536) ++ (x ++ y)) a
    (wrote_then (in_bytes 2 (n / 65536 % 65536)) (x ++ y) b (wrote_then x y c d)))

-- bytes from place i on; those behind the first stand from j on
taken_next : (k : ℕ) (s : List ℕ) (i j : ℕ) → j ≡ i + 1 → j ≤ length s → take (suc k) (drop i s) ≡ get_or s i 0 ∷ take k (drop j s)
taken_next k s i j e h =
    ap (take (suc k)) (drop-cons s i 0 (omega arith)) ∙ ap (λ (n : ℕ). get_or s i 0 ∷ take k (drop n s)) (sym (e ∙ add-one i))

five : (s : List ℕ) (o : ℕ) → o + 6 ≤ length s
    → take 5 (drop (o + 1) s) ≡ get_or s (o + 1) 0 ∷ get_or s (o + 2) 0 ∷ get_or s (o + 3) 0 ∷ get_or s (o + 4) 0 ∷ get_or s (o + 5) 0 ∷ []
five s o h =
    taken_next 4 s (o + 1) (o + 2) (omega arith) (omega arith)
    ∙ ap (λ (l : List ℕ). get_or s (o + 1) 0 ∷ l) (taken_next 3 s (o + 2) (o + 3) (omega arith) (omega arith)
    ∙ ap (λ (l : List ℕ). get_or s (o + 2) 0 ∷ l) (taken_next 2 s (o + 3) (o + 4) (omega arith) (omega arith)
    ∙ ap (λ (l : List ℕ). get_or s (o + 3) 0 ∷ l) (taken_next 1 s (o + 4) (o + 5) (omega arith) (omega arith)
    ∙ ap (λ (l : List ℕ). get_or s (o + 4) 0 ∷ l) (taken_next 0 s (o + 5) (o + 6) (omega arith) (omega arith)))))

-- a record, from its parts
pub program-is : (s : List ℕ) (o : ℕ) (r : Program) (n : ℕ) → o + 29 ≤ length s → r.used ≡ ltb 0 (get_or s o 0)
    → r.name ≡ get_or s (o + 1) 0 ∷ get_or s (o + 2) 0 ∷ get_or s (o + 3) 0 ∷ get_or s (o + 4) 0 ∷ get_or s (o + 5) 0 ∷ []
    → r.priority ≡ figure_at 2 s (o + 6) → r.state ≡ get_or s (o + 8) 0 → n ≡ figure_at 2 s (o + 10) → r.why ≡ why_of (get_or s (o + 9) 0) n
    → r.due ≡ figure_at 8 s (o + 12) → r.interval ≡ figure_at 8 s (o + 20) → r.suspend ≡ ltb 0 (get_or s (o + 28) 0) → r ≡ program_at s o
unfolding program_at
program-is s o r n h used name priority state count why due interval suspend = λ i. record {
  used = used i;
  name = (name ∙ sym (five s o (omega arith))) i;
  priority = priority i;
  state = state i;
  why = (why ∙ ap (why_of (get_or s (o + 9) 0)) count) i;
  due = due i;
  interval = interval i;
  suspend = suspend i;
}
