-- Laws of an answer that is written from a place of a lent buffer on, for whoever proves about such a buffer: six numbers of eight bytes
-- each, those behind the answer's number, and how long they are.
-- Assumes nothing.
use Prim.Native.Nat.{ℕ, ◌*◌, ◌≤◌}
use native.Mathlib.Omega.{arith}
use mathlib.Core.Path.{◌≡◌, refl, sym, ap, ap₂, ◌∙◌}
use mathlib.Core.Bool.{Bool, cond}
use mathlib.Core.List.{List, [], ◌∷◌, ◌++◌, map}
use lib.ListN.{length, take, replicate}
use borrow.Author.Tests.{le-leb}
use Rattle.lists.specs.Lists.{join}
use Rattle.text.specs.Inner.{Wrote}
use Rattle.text.proofs.Laws.{parts-start, parts-step, parts-end, wrote_then, wrote-front}
use Rattle.rules.specs.Engine.{front}
use Rattle.page.proofs.Writing.{wrote_as}
use Rattle.rules.specs.declared.Answer.{Answer}
use Rattle.rules.specs.Answers.{number, values}
use Rattle.packing.specs.Packed.{in_bytes}
use Rattle.board.specs.Board.{figures, figures_length, answering}
use Rattle.board.proofs.SixValues.{six}

-- six writes, and those behind that of the answer's number
pub six-wrote : {l₀ l₁ l₂ l₃ l₄ l₅ l₆ : List ℕ} {at₀ at₁ at₂ at₃ at₄ at₅ at₆ : ℕ} (a b c d e f : ℕ) → Wrote l₀ at₀ (in_bytes 8 a) l₁ at₁
    → Wrote l₁ at₁ (in_bytes 8 b) l₂ at₂ → Wrote l₂ at₂ (in_bytes 8 c) l₃ at₃
    → Wrote l₃ at₃ (in_bytes 8 d) l₄ at₄ → Wrote l₄ at₄ (in_bytes 8 e) l₅ at₅ → Wrote l₅ at₅ (in_bytes 8 f) l₆ at₆
    → Wrote l₀ at₀ (join (map (in_bytes 8) (a ∷ b ∷ c ∷ d ∷ e ∷ f ∷ []))) l₆ at₆
six-wrote a b c d e f u v w x y z =
    parts-end
    (parts-step (parts-step (parts-step (parts-step (parts-step (parts-step
    (parts-start (map (in_bytes 8) (a ∷ b ∷ c ∷ d ∷ e ∷ f ∷ []))) u) v) w) x) y) z)

pub figures-wrote : {l₀ l₁ l₂ : List ℕ} {at₀ at₁ at₂ : ℕ} (a : Answer) (n : ℕ) (vs : List ℕ) → n ≡ number a → vs ≡ six a
    → Wrote l₀ at₀ (in_bytes 8 n) l₁ at₁ → Wrote l₁ at₁ (join (map (in_bytes 8) vs)) l₂ at₂
    → Wrote l₀ at₀ (figures (number a) (values a)) l₂ at₂
unfolding figures
figures-wrote a n vs e f v w =
    wrote_as (ap₂ (λ (k : ℕ) (xs : List ℕ). join (map (in_bytes 8) (k ∷ xs))) (sym e) (sym f))
    (wrote_then (in_bytes 8 n) (join (map (in_bytes 8) vs)) v w)

-- a number, and four values
pub four-wrote : {l₀ l₁ l₂ : List ℕ} {at₀ at₁ at₂ : ℕ} (n a b c d : ℕ) → Wrote l₀ at₀ (in_bytes 8 n) l₁ at₁
    → Wrote l₁ at₁ (join (map (in_bytes 8) (a ∷ b ∷ c ∷ d ∷ 0 ∷ 0 ∷ []))) l₂ at₂ → Wrote l₀ at₀ (figures n (a ∷ b ∷ c ∷ d ∷ [])) l₂ at₂
unfolding figures
four-wrote n a b c d v w = wrote_then (in_bytes 8 n) (join (map (in_bytes 8) (a ∷ b ∷ c ∷ d ∷ 0 ∷ 0 ∷ []))) v w

-- a number of eight bytes, and six more
six-long : (vs : List ℕ) → length (take 6 (vs ++ replicate {A = ℕ} 6 0)) ≡ 6
six-long [] = refl
six-long (a ∷ []) = refl
six-long (a ∷ b ∷ []) = refl
six-long (a ∷ b ∷ c ∷ []) = refl
six-long (a ∷ b ∷ c ∷ d ∷ []) = refl
six-long (a ∷ b ∷ c ∷ d ∷ e ∷ []) = refl
six-long (a ∷ b ∷ c ∷ d ∷ e ∷ f ∷ vs) = refl

longs-length : (vs : List ℕ) → length (join (map (in_bytes 8) vs)) ≡ 8 * length vs
longs-length [] = refl
longs-length (v ∷ vs) = omega (arith, longs-length vs)

pub figures-length : (a : ℕ) (vs : List ℕ) → length (figures a vs) ≡ 56
unfolding figures
figures-length a vs =
    omega (arith, longs-length (a ∷ take 6 (vs ++ replicate {A = ℕ} 6 0)), six-long vs)

-- an answer that is written to the bytes lent for it, where these are enough
pub answering-wrote : (a : ℕ) (vs buf : List ℕ) {buf' : List ℕ} {n : ℕ} → figures_length ≤ length buf → Wrote buf 0 (figures a vs) buf' n
    → buf' ≡ answering a vs buf
answering-wrote a vs buf h w =
    wrote-front w (omega (arith, figures-length a vs))
    ∙ sym (ap (λ (b : Bool). cond b (front (figures a vs) buf) buf) (le-leb figures_length (length buf) h))
