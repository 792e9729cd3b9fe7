-- Laws of the line at a place: its key and its value.
-- Assumes nothing.
use Prim.Native.Nat.{ℕ, ◌+◌, ◌≤◌}
use native.Mathlib.Omega.{arith}
use mathlib.Core.Path.{◌≡◌, sym, subst, ap}
use mathlib.Core.List.{List, []}
use mathlib.Core.Option.{Option, none, some, none-ne-some}
use lib.Seq.{slice}
use Rattle.shapes.specs.Inner.{LineIs, NoLine, unended, keyless, shapeless, ValueIs}
use lib.ListN.{length, drop_of_length-le}
use Rattle.text.specs.Text.{parts}

-- a key that is another one
pub value_as : {s key key' : List ℕ} {at from to : ℕ} → key ≡ key' → ValueIs s at key from to → ValueIs s at key' from to
value_as {s} {at = at} {from} {to} e v = subst (λ (k : List ℕ). ValueIs s at k from to) e v

pub no-line-as : {s key key' : List ℕ} {at : ℕ} → key ≡ key' → NoLine {A = List ℕ} some s at key → NoLine {A = List ℕ} some s at key'
no-line-as {s} {at = at} e v = subst (λ (k : List ℕ). NoLine {A = List ℕ} some s at k) e v

-- a value with and without a shape
module _ {A : Type 0} (shape : List ℕ → Option A) {s key : List ℕ} {at : ℕ} where
  pub line-shaped : {from to : ℕ} {a : A} → ValueIs s at key from to → shape (slice from to s) ≡ some a → LineIs shape s at key a (to + 1)
  line-shaped {from} {to} v e =
      record { value = slice from to s; cut = v.cut; beyond = omega (arith, v.beyond); within = omega (arith, v.high); shaped = e }

  pub line-unshaped : {from to : ℕ} → ValueIs s at key from to → shape (slice from to s) ≡ none → NoLine shape s at key
  line-unshaped {from} {to} v e = shapeless (slice from to s) (to + 1) v.cut e

  pub line-unkeyed : NoLine {A = List ℕ} some s at key → NoLine shape s at key
  line-unkeyed (unended l e) = unended l e
  line-unkeyed (keyless l next e k) = keyless l next e k
  line-unkeyed (shapeless v next e k) = absurd (none-ne-some v (sym k))

-- Behind the last byte there is no line; for whoever proves about lines.
pub past_end : {A : Type 0} (shape : List ℕ → Option A) (s key : List ℕ) (at : ℕ) → length s ≤ at → NoLine shape s at key
unfolding parts
past_end shape s key at h = unended [] (ap (parts 10) (drop_of_length-le s h))
