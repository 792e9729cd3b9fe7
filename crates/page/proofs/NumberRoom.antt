-- Room for the lines of the resource numbers: each has at most 18 bytes besides its number, and there are at most 16.
-- Assumes nothing.
use Prim.Native.Nat.{ℕ, ◌+◌, ◌≤◌}
use native.Mathlib.Omega.{arith}
use native.Mathlib.Decide.{ℕ_discrete}
use mathlib.Core.Path.{◌≡◌, refl, ap}
use mathlib.Core.List.{List}
use lib.ListN.{length, length-append}
use lib.Dec.{ltb}
use Rattle.lists.specs.Lists.{count, from}
use Rattle.lists.proofs.Laws.{from_in}
use Rattle.text.specs.Text.{digits, decimal}
use Rattle.records.specs.declared.Resource.{Resource}
use Rattle.records.specs.Numbers.{globally, number_at}
use Rattle.rules.specs.Book.{Book}
use Rattle.rules.specs.Sound.{Limits}
use Rattle.page.specs.Page.{Line, bytes, party, or_dash, number_line, number_lines}
use Rattle.page.proofs.Writing.{pieces-join, number-none, number-some}
use Rattle.page.proofs.Widths.{gain-most, party-length, or_dash-length}
use Rattle.page.proofs.Weights.{weigh, weigh-from, lines-weigh}

abbrev number : ℕ → ℕ
number r = 18 + length (decimal r)

-- a line, by its owner and its lock
pub number-length : (r : ℕ) (x : Resource)
    → length (bytes (number_line r x)) ≤ 10 + length (decimal r) + length (party x.owner) + length (or_dash (ltb 0 x.lock) x.lock)
number-length r x = go (ℕ_discrete x.owner 0)
  where
    go : Dec (x.owner ≡ 0)
        → length (bytes (number_line r x)) ≤ 10 + length (decimal r) + length (party x.owner) + length (or_dash (ltb 0 x.lock) x.lock)
    go (yes e) = omega (arith, ap length (number-none r x e))
    go (no n) = rw (number-some r x n) (simp length-append (omega arith))

number-most : (r : ℕ) (x : Resource) → x.owner ≤ globally → x.lock ≤ 32 → length (bytes (number_line r x)) ≤ number r
number-most r x h k =
    omega (
      arith,
      number-length r x,
      party-length x.owner (omega arith),
      gain-most x.owner,
      or_dash-length (ltb 0 x.lock) 1 x.lock (omega arith),
    )

-- nine numbers of one digit, seven of two
numbers-weigh : (n : ℕ) → n ≤ 16 → weigh number (from 1 n) ≤ 311
unfolding decimal digits
numbers-weigh n h = weigh-from number 1 n 16 311 h refl

pub number-room : (b : Book) → Limits b → length (bytes (number_lines b.numbers b.resources)) ≤ 311
unfolding number_lines
number-room b L = omega (
  arith,
  ap length (pieces-join line_of (from 1 b.numbers)),
  lines-weigh number (λ r. bytes (line_of r)) (from 1 b.numbers) each,
  numbers-weigh b.numbers L.few,
)
  where
    line_of : ℕ → List Line
    line_of r = number_line r (number_at b.resources r)

    each : (r : ℕ) → 1 ≤ count r (from 1 b.numbers) → length (bytes (line_of r)) ≤ number r
    each r k =
        let f = from_in r 1 b.numbers k in
        let ours : (1 ≤ r) × (r ≤ b.numbers) = (f.0, omega arith) in
        number-most r (number_at b.resources r) (L.owner r ours) (L.locker r ours)
