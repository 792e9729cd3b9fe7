-- `clock::Clock::time` meets its contract: the date is that of the days that have gone by, and the code reckons the other parts as the
-- definition does. Assumes nothing.
use Prim.Native.Nat.{ℕ, ◌+◌, ◌*◌, ◌/◌, ◌%◌, ◌≤◌}
use native.Mathlib.Omega.{arith}
use mathlib.Core.Path.{sym, ap, ◌∙◌}
use mathlib.Core.List.{List, [], ◌∷◌, ◌++◌}
use Rattle.clock.specs.Clock.{time_of}
use Rattle.clock.specs.Inner.{before}
use Rattle.clock.proofs.Years.{date-is, before-near}
use Rattle.clock.proofs.Clock.time.Goals.{After-days_before}
use Rattle.clock.proofs.Clock.time.Goals as goal

-- few days come before a year of two bytes, and few are in a clock
abbrev few : (c : After-days_before) → 400 * c.days_before.result ≤ 146097 * 65535 + 699
few c = let y = c.args.self.year in omega (arith, (before-near y).1, c.days_before.ensures ∙ ap before c.from.ensures)

pub overflow_add-days_before : goal.overflow_add-days_before
overflow_add-days_before c = omega (arith, few (goal.at.overflow_add-days_before c).After-days_before)

pub date_of-date-requires : goal.date_of-date-requires
date_of-date-requires c = omega (arith, few (goal.at.date_of-date-requires c).After-days_before)

pub returns : goal.returns
unfolding time_of
returns c =
    let t = c.args.self.ticks in
    let r = c.date_of-date.result in
    sym (ap (λ (x : List ℕ). x ++ ((t / 360_000 % 24) ∷ (t / 6_000 % 60) ∷ (t / 100 % 60) ∷ (t % 100) ∷ []))
    (date-is c.args.self.year (t / 8_640_000) _ r.year r.day (ap (λ (x : ℕ). x + t / 8_640_000) (sym (c.days_before.ensures ∙ ap before c.from.ensures)))
    c.date_of-date.ensures))
