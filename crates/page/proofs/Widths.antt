-- How many bytes a line has, and the values in it: a number, a holder, what may be absent. A line has
-- two bytes besides its key and its value.
-- Assumes nothing.
use Prim.Native.Nat.{ℕ, zero, suc, ◌+◌, ◌*◌, ◌/◌, ◌%◌, ◌<◌, ◌≤◌}
use Prim.Native.String.{String}
use native.Mathlib.Omega.{arith}
use native.Mathlib.Decide.{dec_lt}
use mathlib.Core.Path.{◌≡◌, ap}
use mathlib.Core.Bool.{Bool, true, false, cond}
use mathlib.Core.List.{[], ◌∷◌}
use lib.ListN.{length, length-append}
use lib.Dec.{eqb}
use Rattle.text.specs.Text.{text, digits, decimal, entry}
use Rattle.text.proofs.Laws.{entry_length, ten, digits-small, digits_step, decimal-length, decimal-most}
use Rattle.records.specs.Numbers.{globally}
use Rattle.page.specs.Page.{party, or_dash}

-- a higher number has no fewer digits
small-length : (f n : ℕ) → n < 10 → length (digits (suc f) n) ≡ 1
small-length f n h = ap length (digits-small f n h)

step-length : (f n : ℕ) → 10 ≤ n → length (digits (suc f) n) ≡ suc (length (digits f (n / 10)))
step-length f n h = rw (digits_step f n h) (omega (arith, length-append (digits f (n / 10)) ((48 + n % 10) ∷ [])))

digits-rise : (f m n : ℕ) → m ≤ n → length (digits f m) ≤ length (digits f n)
unfolding digits
digits-rise zero m n h = omega arith
digits-rise (suc f) m n h = go (dec_lt m 10) (dec_lt n 10) (digits-rise f (m / 10) (n / 10) (omega arith))
  where
    go : Dec (m < 10) → Dec (n < 10) → length (digits f (m / 10)) ≤ length (digits f (n / 10))
        → length (digits (suc f) m) ≤ length (digits (suc f) n)
    go (yes a) (yes b) ih = omega (arith, small-length f m a, small-length f n b)
    go (yes a) (no b) ih = omega (arith, small-length f m a, step-length f n (omega arith))
    go (no a) (yes b) ih = absurd (omega arith)
    go (no a) (no b) ih = omega (arith, step-length f m (omega arith), step-length f n (omega arith))

pub decimal-rise : (m n : ℕ) → m ≤ n → length (decimal m) ≤ length (decimal n)
unfolding decimal
decimal-rise m n h = digits-rise 20 m n h

-- a line with a number of at most f + 1 digits
pub figure-length : (key : String) (f n : ℕ) → n < ten (suc f) → length (entry (text key) (decimal n)) ≤ length (text key) + f + 3
figure-length key f n h = omega (arith, entry_length (text key) (decimal n), decimal-length f n h)

-- and with any number
pub figure-most : (key : String) (n : ℕ) → length (entry (text key) (decimal n)) ≤ length (text key) + 22
figure-most key n = omega (arith, entry_length (text key) (decimal n), decimal-most n)

-- half of what `global` has over the two bytes of a program's number
abbrev pub gain : ℕ → ℕ
gain h = cond (eqb h globally) 2 0

pub gain-most : (h : ℕ) → gain h ≤ 2
gain-most h = go (eqb h globally)
  where
    go : (t : Bool) → cond t 2 0 ≤ 2
    go true = omega arith
    go false = omega arith

pub party-length : (h : ℕ) → h < 100 → length (party h) ≤ 2 + 2 * gain h
party-length h b = go (eqb h globally)
  where
    go : (t : Bool) → length (cond t (text "global") (decimal h)) ≤ 2 + 2 * cond t 2 0
    go true = omega arith
    go false = omega (arith, decimal-length 1 h b)

pub party-most : (h : ℕ) → length (party h) ≤ 20
party-most h = go (eqb h globally)
  where
    go : (t : Bool) → length (cond t (text "global") (decimal h)) ≤ 20
    go true = omega arith
    go false = decimal-most h

-- a dash is no longer than a number
pub or_dash-length : (t : Bool) (f n : ℕ) → n < ten (suc f) → length (or_dash t n) ≤ suc f
or_dash-length true f n h = decimal-length f n h
or_dash-length false f n h = omega arith

pub or_dash-most : (t : Bool) (n : ℕ) → length (or_dash t n) ≤ 20
or_dash-most true n = decimal-most n
or_dash-most false n = omega arith
