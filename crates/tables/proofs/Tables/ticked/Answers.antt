-- `tables::Tables::ticked` meets its contract: n, the ceiling, and else the ticks.
-- Assumes nothing.
use Prim.Native.Nat.{◌+◌, ◌≤◌}
use native.Mathlib.Omega.{arith}
use mathlib.Core.Path.{◌≡◌, sym, ap, ◌∙◌}
use Rattle.limits.specs.Limits.{most_ticks}
use Rattle.clock.specs.Clock.{ceiling}
use Rattle.std.specs.Prelude.{Err}
use Rattle.timers.specs.declared.NoSpan.{NoSpan}
use Rattle.timers.proofs.Spans.{not-allowed, at-ceiling, is-to}
use Rattle.tables.specs.Calls.{told}
use Rattle.tables.proofs.ManyTicks.{told-range, told-ceiling, many-ticked}
use Rattle.tables.proofs.Tables.ticked.Goals.{In-Ok}
use Rattle.tables.proofs.Tables.ticked.Goals as goal

-- where the ticks are made: n, and the clock after them
to : (c : In-Ok) → let a = c.args in
    (1 ≤ a.n) × (a.n ≤ most_ticks) × (a.self.ledger.clock.ticks + a.n ≤ ceiling)
    × (c.in-Ok.end ≡ a.self.ledger.clock.ticks + a.n)
to c =
    let a = c.args in
    is-to a.self.ledger.clock.ticks a.n c.in-Ok.end (sym c.in-Ok.ensures)

pub ticked_to-requires : goal.ticked_to-requires
ticked_to-requires c =
    let t = to (goal.at.ticked_to-requires c).In-Ok in
    record {
      orderly = c.requires.ready.orderly;
      sound = c.requires.plainly;
      low = omega (arith, t.3);
      high = omega (arith, t.2, t.3);
    }

pub returns-in-Err-NotAllowed : goal.returns-in-Err-NotAllowed
returns-in-Err-NotAllowed c =
    let a = c.args in
    ap told c.refused.ensures
    ∙ told-range a.self a.n c.requires.ready.sound
    (not-allowed a.self.ledger.clock.ticks a.n (sym c.in-Err-NotAllowed.ensures ∙ ap (λ (e : NoSpan). Err e) c.in-Err-NotAllowed.field-0-is))

pub returns-in-Err-AtCeiling : goal.returns-in-Err-AtCeiling
returns-in-Err-AtCeiling c =
    let a = c.args in
    let t = at-ceiling a.self.ledger.clock.ticks a.n (sym c.in-Err-AtCeiling.ensures ∙ ap (λ (e : NoSpan). Err e) c.in-Err-AtCeiling.field-0-is) in
    ap told c.refused-in-Err-AtCeiling.ensures ∙ told-ceiling a.self a.n c.requires.ready.sound t.0 t.1

pub returns-in-Ok : goal.returns-in-Ok
returns-in-Ok c =
    let t = to (goal.at.returns-in-Ok c).In-Ok in
    c.count_of.ensures
    ∙ many-ticked c.args.self c.requires.ready.orderly c.requires.ready.sound c.requires.plainly c.args.n t.0 t.1 t.2 _ t.3 _ _
    c.ticked_to.ensures
