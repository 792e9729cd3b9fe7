-- The line that is not well formed, as `ok_or` hands it on.
-- Assumes nothing.
use Prim.Native.Nat.{ℕ, ◌≤◌}
use mathlib.Core.Path.{◌≡◌, sym, ap, subst, ◌∙◌}
use mathlib.Core.List.{List}
use Rattle.std.specs.Prelude.{Option, None, Result, Ok, Err}
use Rattle.std.specs.Option.{ok_or}
use Rattle.std.specs.Result.{IsErr, IsErrAnd}
use Rattle.reader.specs.declared.parts.BadLine.{BadLine}
use Rattle.reader.specs.Order.{Place, first_bad}
use Rattle.reader.specs.Walks.{Stops}

abbrev line_in : {A : Type 0} → Result A BadLine → ℕ
line_in (Ok x) = 0
line_in (Err b) = b.0

-- where nothing was there, the number is the one that was given
pub bad_line : {A : Type 0} {o : Option A} {e b : BadLine} → Err e ≡ ok_or o b → o ≡ None → e.0 ≡ b.0
bad_line {A} {o} {e} {b} v n = ap (λ (r : Result A BadLine). line_in r) (v ∙ ap (λ (x : Option A). ok_or x b) n)

pub stops_with : {p : Place} {line k : ℕ} {ls : List (List ℕ)} {e : BadLine} → e.0 ≡ k → 1 ≤ k → first_bad p line ls ≡ k → Stops p line ls e
stops_with {e = e} q h f = record { some = rw q h; scan = f ∙ sym q }

-- what `?` hands on is the same
pub handed_on : {T : Type 0} (C : Result T BadLine → Type 0) {e : BadLine} {r : Result T BadLine} → IsErr r × IsErrAnd r (λ x. x ≡ e) → C (Err e) → C r
handed_on {T} C {e} {r} f k = go r f.1
  where
    go : (r : Result T BadLine) → IsErrAnd r (λ x. x ≡ e) → C r
    go (Ok x) g = absurd g
    go (Err b) g = subst (λ (x : BadLine). C (Err x)) (sym g) k
