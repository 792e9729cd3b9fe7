-- The first due beyond a moment, by division: of a timer's dues it is the one that lies beyond the moment, and not by more than an interval.
-- There is only one such due, so how it was reached is no matter: over a moment between, too.
-- Assumes nothing.
use Prim.Native.Nat.{ℕ, suc, ◌+◌, ◌-◌, ◌*◌, ◌/◌, ◌≤◌, ◌<◌}
use native.Mathlib.Omega.{arith}
use native.Mathlib.Decide.{dec_lt}
use native.Mathlib.Nat.{one-mul, suc-mul, add-mul, mul-le-mul_right, div-mul-le_self, lt-div-mul-add}
use native.Mathlib.Numerals.{add-one}
use mathlib.Core.Path.{◌≡◌, sym, ap, ◌∙◌}
use mathlib.Core.Bool.{Bool, cond}
use borrow.Author.Tests.{eq-eqb, ne_eqb}
use Rattle.timers.specs.Inner.{due_beyond}

-- x is a due of the timer d, d + i, d + 2 i .., beyond `now`, by an interval at most
pub record Beyond (now d i x : ℕ) : Type 0 where
  pub steps : ℕ
  pub is : x ≡ d + steps * i
  pub above : now < x
  pub near : x ≤ now + i

-- more steps lead an interval further
further : (i m k : ℕ) → m < k → m * i + i ≤ k * i
further i m k h = omega (arith, mul-le-mul_right {m = suc m} {n = k} i h, suc-mul m i)

pub beyond-one : {now d i x y : ℕ} → Beyond now d i x → Beyond now d i y → x ≡ y
beyond-one {now} {d} {i} {x} {y} X Y = go (dec_lt X.steps Y.steps) (dec_lt Y.steps X.steps)
  where
    go : Dec (X.steps < Y.steps) → Dec (Y.steps < X.steps) → x ≡ y
    go (yes h) k = absurd (omega (arith, further i X.steps Y.steps h, X.is, X.above, Y.is, Y.near))
    go (no h) (yes k) = absurd (omega (arith, further i Y.steps X.steps k, Y.is, Y.above, X.is, X.near))
    go (no h) (no k) =
        let e : X.steps ≡ Y.steps = omega (arith, h, k) in
        X.is ∙ ap (λ (m : ℕ). d + m * i) e ∙ sym Y.is

-- a timer that runs once has none
pub beyond-none : (now d i : ℕ) → i ≡ 0 → due_beyond now d i ≡ 0
unfolding due_beyond
beyond-none now d i e = ap (λ (b : Bool). cond b 0 (d + ((now - d) / i + 1) * i)) (eq-eqb i 0 e)

module _ (now d i : ℕ) (some : 1 ≤ i) (past : d ≤ now) where
  pub beyond-is : due_beyond now d i ≡ d + ((now - d) / i + 1) * i
  unfolding due_beyond
  beyond-is = ap (λ (b : Bool). cond b 0 (d + ((now - d) / i + 1) * i)) (ne_eqb i 0 (λ e. omega arith))

  one_more : ((now - d) / i + 1) * i ≡ (now - d) / i * i + i
  one_more = ap (λ (m : ℕ). m * i) (add-one ((now - d) / i)) ∙ suc-mul ((now - d) / i) i

  pub due-beyond : Beyond now d i (due_beyond now d i)
  due-beyond = record {
    steps = (now - d) / i + 1;
    is = beyond-is;
    above = omega (arith, beyond-is, one_more, lt-div-mul-add {a = now - d} {b = i} some);
    near = omega (arith, beyond-is, one_more, div-mul-le_self (now - d) i);
  }

-- over a moment between: the timer has moved beyond `now`, and then beyond a later moment
module _ (now later d i : ℕ) (some : 1 ≤ i) (past : d ≤ now) (after : now ≤ later) where
  first : Beyond now d i (due_beyond now d i)
  first = due-beyond now d i some past

  straight : Beyond later d i (due_beyond later d i)
  straight = due-beyond later d i some (omega arith)

  pub beyond-again : due_beyond now d i ≤ later → due_beyond later (due_beyond now d i) i ≡ due_beyond later d i
  beyond-again h =
      let then = due-beyond later (due_beyond now d i) i some h in
      beyond-one (record {
        steps = first.steps + then.steps;
        is = omega (arith, first.is, then.is, add-mul first.steps then.steps i);
        above = then.above;
        near = then.near;
      }) straight

  pub beyond-still : later < due_beyond now d i → due_beyond later d i ≡ due_beyond now d i
  beyond-still h = beyond-one straight (record { steps = first.steps; is = first.is; above = h; near = omega (arith, first.near) })

-- a timer that is due just now moves on by its interval
pub beyond-now : (d i : ℕ) → 1 ≤ i → due_beyond d d i ≡ d + i
beyond-now d i h =
    beyond-one (due-beyond d d i h (omega arith)) (record { steps = 1; is = omega (arith, one-mul i); above = omega arith; near = omega arith })
