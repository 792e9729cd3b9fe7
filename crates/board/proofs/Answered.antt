-- Laws of an answer as bytes, and the room for them: a number and six values of eight bytes each.
-- Assumes nothing.
use Prim.Native.Nat.{ℕ, ◌<◌, ◌≤◌}
use mathlib.Core.Path.{◌≡◌, sym, ap, ◌∙◌}
use mathlib.Core.Bool.{Bool, cond}
use mathlib.Core.List.{List, ◌∷◌, ◌++◌, map}
use lib.ListN.{length, take, replicate}
use borrow.Author.Tests.{le-leb, lt-leb}
use Rattle.lists.specs.Lists.{join}
use Rattle.rules.specs.Engine.{front}
use Rattle.packing.specs.Packed.{in_bytes}
use Rattle.board.specs.Board.{figures, figures_length, answering}

-- an answer goes to the bytes lent for it, where these are enough
module _ (a : ℕ) (vs buf : List ℕ) where
  pub answering-not : length buf < figures_length → answering a vs buf ≡ buf
  answering-not h = ap (λ (b : Bool). cond b (front (figures a vs) buf) buf) (lt-leb figures_length (length buf) h)

  pub answering-put : {buf' : List ℕ} (xs : List ℕ) → xs ≡ take 6 (vs ++ replicate {A = ℕ} 6 0) → figures_length ≤ length buf
      → buf' ≡ front (join (map (in_bytes 8) (a ∷ xs))) buf
      → buf' ≡ answering a vs buf
  unfolding figures
  answering-put xs e h w =
      w ∙ ap (λ (ys : List ℕ). front (join (map (in_bytes 8) (a ∷ ys))) buf) e
      ∙ sym (ap (λ (b : Bool). cond b (front (figures a vs) buf) buf) (le-leb figures_length (length buf) h))
