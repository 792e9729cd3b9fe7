-- `timers::span_of` meets its contract. Assumes nothing.
use Rattle.std.proofs.Common.{◌+◌, arith}
use borrow.Author.Tests.{le-leb, lt-leb}
use Rattle.limits.specs.Limits.{most_ticks}
use Rattle.lists.proofs.Tests.{up_to-is}
use Rattle.clock.specs.Clock.{ceiling}
use Rattle.timers.proofs.Spans.{range-low, range-high, span-range, span-ceiling, span_to}
use Rattle.timers.proofs.span_of.Goals.{then-n-eq0-via-then-n-eq0, then-n-eq0-via-else-n-eq0+then-n-gt-MOST_TICKS}
use Rattle.timers.proofs.span_of.Goals as goal

pub returns-then-n-eq0 : goal.returns-then-n-eq0
returns-then-n-eq0 c =
    let a = c.args in
    elim c.then-n-eq0.branch [
      | then-n-eq0-via-then-n-eq0 w ↦ span-range a.clock a.n (range-low a.n w.if-n-eq0.true)
      | then-n-eq0-via-else-n-eq0+then-n-gt-MOST_TICKS w ↦ span-range a.clock a.n (range-high a.n w.if-n-gt-MOST_TICKS.true)
    ]

pub returns-then-clock-n : goal.returns-then-clock-n
returns-then-clock-n c =
    let a = c.args in
    span-ceiling a.clock a.n (up_to-is 1 most_ticks a.n (omega (arith, c.if-n-eq0.false)) (omega (arith, c.if-n-gt-MOST_TICKS.false)))
    (lt-leb (a.clock + a.n) ceiling (omega (arith, c.if-clock-n.true)))

pub returns : goal.returns
returns c =
    let a = c.args in
    span_to a.clock a.n (up_to-is 1 most_ticks a.n (omega (arith, c.if-n-eq0.false)) (omega (arith, c.if-n-gt-MOST_TICKS.false)))
    (le-leb (a.clock + a.n) ceiling (omega (arith, c.requires, c.if-clock-n.false)))
