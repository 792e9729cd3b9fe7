-- What PAGE hands back, by the paths of the code: 8,192 bytes are room for the page of sound tables, and a buffer that
-- was long enough begins with the page.
-- Assumes nothing.
use Prim.Native.Nat.{ℕ, ◌<◌, ◌≤◌}
use native.Mathlib.Omega.{arith}
use mathlib.Core.Path.{◌≡◌, sym, ap, ◌∙◌}
use mathlib.Core.Bool.{Bool, true, false}
use mathlib.Core.List.{List, [], ◌∷◌, ◌++◌}
use lib.Dec.{leb}
use lib.ListN.{length, drop}
use borrow.Author.Tests.{le-leb, lt-leb}
use Rattle.tables.specs.declared.Tables.{Tables}
use Rattle.tables.specs.Tables.{plain, Arrays}
use Rattle.tables.specs.Sound.{sound}
use Rattle.tables.proofs.Agree.{sound-clauses}
use Rattle.tables.proofs.Plain.{sound-plain}
use Rattle.page.specs.Page.{page}
use Rattle.rules.specs.Engine.{beside, front, not_sound, paged_in, written_in}
use Rattle.page.specs.Paging.{Written, written, paged}
use Rattle.page.specs.Inner.{Fits}
use Rattle.limits.specs.Limits.{page_room}
use Rattle.page.proofs.Room.{page-room}

pub can-page : (t : Tables) → Arrays t → sound t ≡ true → Fits t page_room
can-page t A e =
    let S = sound-clauses t e in
    record { tracks = S.limits.most; numbers = S.limits.few; room = page-room (plain t) (sound-plain t A S) }

module _ (t : Tables) (buf : List ℕ) where
  abbrev bytes : List ℕ
  bytes = page (plain t)

  -- a number, its value, a buffer
  abbrev handed : ℕ → ℕ → List ℕ → Written
  handed k n after = record { number = k; values = n ∷ []; tables = t; buffer = after }

  by-sound : (b : Bool) → sound t ≡ b → paged t buf ≡ elim b [ true ↦ written t buf | false ↦ beside buf (not_sound t) ]
  unfolding paged_in
  by-sound b e = ap (λ (x : Bool). elim x [ true ↦ written t buf | false ↦ beside buf (not_sound t) ]) e

  by-room : (b : Bool) → leb (length bytes) (length buf) ≡ b
      → written t buf ≡ elim b [ true ↦ handed 0 (length bytes) (front bytes buf) | false ↦ handed 12 (length bytes) buf ]
  unfolding written_in
  by-room b e = ap (λ (x : Bool). elim x [ true ↦ handed 0 (length bytes) (front bytes buf) | false ↦ handed 12 (length bytes) buf ]) e

  pub handed-unsound : sound t ≡ false → beside buf (not_sound t) ≡ paged t buf
  handed-unsound e = sym (by-sound false e)

  pub handed-short : (n : ℕ) → sound t ≡ true → n ≡ length bytes → length buf < n → handed 12 n buf ≡ paged t buf
  handed-short n e k h =
      ap (λ (x : ℕ). handed 12 x buf) k
      ∙ sym (by-sound true e ∙ by-room false (lt-leb (length bytes) (length buf) (omega arith)))

  pub handed-done : (n : ℕ) (l : List ℕ) → sound t ≡ true → n ≡ length bytes → n ≤ length buf → l ≡ bytes
      → handed 0 n (l ++ drop n buf) ≡ paged t buf
  handed-done n l e k h same =
      let room : length bytes ≤ length buf = omega arith in
      rw (k, same) (sym (by-sound true e ∙ by-room true (le-leb (length bytes) (length buf) room)))
