-- `clock::date_of` meets its contract: the year told at once is the one in which the day falls, or the next. Assumes nothing.
use Rattle.std.proofs.Common.{ℕ, suc, ◌+◌, ◌-◌, ◌*◌, ◌/◌, ◌<◌, ◌≤◌, ◌≡◌, arith, refl, ap}
use Rattle.clock.specs.Inner.{before}
use Rattle.clock.proofs.Years.{not-past, not-far}
use Rattle.clock.proofs.date_of.Goals as goal

-- the year that is told
abbrev told : ℕ → ℕ
told d = (400 * d + 396) / 146097

-- the day falls before it
early : (d b : ℕ) → b ≡ before (told d) → d < b → (1 ≤ told d) × (before (told d - 1) ≤ d)
early d b e h = not-far d (told d) refl (omega (arith, e, h))

pub overflow_sub-result : goal.overflow_sub-result
overflow_sub-result c = (early c.args.days _ c.days_before-begins.ensures c.if-days-begins.true).0

pub overflow_sub-year : goal.overflow_sub-year
overflow_sub-year c = (early c.args.days _ c.days_before-begins.ensures c.if-days-begins.true).0

pub overflow_sub-result-then-days-begins : goal.overflow_sub-result-then-days-begins
overflow_sub-result-then-days-begins c =
    omega (arith, (early c.args.days _ c.days_before-begins.ensures c.if-days-begins.true).1, c.days_before.ensures)

pub returns-then-days-begins : goal.returns-then-days-begins
returns-then-days-begins c =
    let d = c.args.days in
    let t = early d _ c.days_before-begins.ensures c.if-days-begins.true in
    let e : suc (told d - 1) ≡ told d = omega (arith, t.0) in
    record {
      begun = t.1;
      going = omega (arith, c.if-days-begins.true, c.days_before-begins.ensures, ap before e);
      is = ap (λ (x : ℕ). d - x + 1) c.days_before.ensures;
    }

pub returns : goal.returns
returns c =
    let d = c.args.days in
    record {
      begun = omega (arith, c.if-days-begins.false, c.days_before-begins.ensures);
      going = not-past d (told d) refl;
      is = ap (λ (x : ℕ). d - x + 1) c.days_before-begins.ensures;
    }
