-- `timers::due_beyond` meets its contract: what is added up lies beyond `now` by an interval at most. Assumes nothing.
use Prim.Native.Nat.{◌+◌, ◌-◌, ◌*◌, ◌/◌, ◌≤◌}
use mathlib.Core.Path.{sym}
use native.Mathlib.Omega.{arith}
use native.Mathlib.Nat.{div-le_self}
use Rattle.timers.proofs.Beyond.{due-beyond, beyond-none, beyond-is}
use Rattle.timers.proofs.due_beyond.Goals.{Else-interval-eq0}
use Rattle.timers.proofs.due_beyond.Goals as goal

pub returns-then-interval-eq0 : goal.returns-then-interval-eq0
returns-then-interval-eq0 c = let a = c.args in sym (beyond-none a.now a.due a.interval c.if-interval-eq0.true)

-- what is added up
sum : (c : Else-interval-eq0)
    → let a = c.args in a.due + ((a.now - a.due) / a.interval + 1) * a.interval ≤ a.now + a.interval
sum c =
    let a = c.args in
    let i : 1 ≤ a.interval = omega (arith, c.if-interval-eq0.false) in
    let p : a.due ≤ a.now = omega (arith, c.requires.due_le) in
    omega (arith, (due-beyond a.now a.due a.interval i p).near, beyond-is a.now a.due a.interval i p)

pub overflow_add-result : goal.overflow_add-result
overflow_add-result c =
    let a = c.args in
    omega (arith, div-le_self (a.now - a.due) a.interval, c.requires.interval_bound, c.if-interval-eq0.false)

pub overflow_mul-result : goal.overflow_mul-result
overflow_mul-result c = omega (arith, sum (goal.at.overflow_mul-result c).Else-interval-eq0, c.requires.interval_bound)

pub overflow_add-result-2 : goal.overflow_add-result-2
overflow_add-result-2 c = omega (arith, sum (goal.at.overflow_add-result-2 c).Else-interval-eq0, c.requires.interval_bound)

pub returns : goal.returns
returns c =
    let a = c.args in
    sym (beyond-is a.now a.due a.interval (omega (arith, c.if-interval-eq0.false)) (omega (arith, c.requires.due_le)))
