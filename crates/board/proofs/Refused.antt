-- What is refused, with 2 or more, leaves what was lent but for the bytes of the answer. A line on tables in bytes changes neither these
-- nor the page's buffer: bytes in packed form are what packing the tables that they say gives, and others are never packed anew. A text
-- that is not run leaves the buffer for its output. Assumes nothing.
use Prim.Native.Nat.{ℕ, ◌≤◌}
use native.Mathlib.Omega.{arith}
use mathlib.Core.Path.{◌≡◌, refl, ap, subst, sym, ◌∙◌}
use mathlib.Core.Bool.{Bool, true, false}
use mathlib.Core.List.{List}
use lib.Dec.{leb}
use lib.ListN.{length}
use Rattle.packing.specs.Packed.{packed, unpacked, is_packed}
use Rattle.packing.proofs.OneForm.{packed-back}
use Rattle.board.specs.Board.{figures_length, Boarded, AsGiven, boarded, longest, Ran, ran}
use Rattle.board.proofs.Agreed.{taken, by_form}
use Rattle.board.proofs.Whole.{by_answer, by_size}
use Rattle.console.proofs.Refusing.{keyed-kept}

module _ (s line page buf : List ℕ) where
  abbrev Claim : Boarded → Type 0
  Claim r = 2 ≤ r.number → AsGiven s page r

  by-taken : is_packed s ≡ true → (b : Bool) → Claim (taken s line page buf b)
  by-taken is true h =
      let k = keyed-kept (unpacked s) page line in
      record { tables = ap packed (k.tables h) ∙ packed-back s is; page = k.buffer h }
  by-taken is false h = record { tables = refl; page = refl }

  pub board-refused : 2 ≤ (boarded s line page buf).number → AsGiven s page (boarded s line page buf)
  board-refused = go (is_packed s) refl
    where
      go : (b : Bool) → is_packed s ≡ b → Claim (boarded s line page buf)
      go true e = subst Claim (sym (by_form s line page buf true e)) (by-taken e (leb figures_length (length buf)))
      go false e = subst Claim (sym (by_form s line page buf false e)) (λ h. record { tables = refl; page = refl })

module _ (s out buf : List ℕ) where
  abbrev Stays : Ran → Type 0
  Stays r = 2 ≤ r.number → r.buffer ≡ out

  by-room : (b : Bool) → Stays (by_answer s out buf b)
  by-room true h = absurd (omega arith)
  by-room false h = refl

  pub run-refused : 2 ≤ (ran s out buf).number → (ran s out buf).buffer ≡ out
  run-refused = go (leb (length s) longest) refl
    where
      go : (b : Bool) → leb (length s) longest ≡ b → Stays (ran s out buf)
      go true e = subst Stays (sym (by_size s out buf true e)) (by-room (leb figures_length (length buf)))
      go false e = subst Stays (sym (by_size s out buf false e)) (λ h. refl)
