-- `differing::put_parts` meets its contract: after each call the parts from the next on are due. Where the lists put nothing, the last is
-- where the two part; else it is empty. Assumes nothing.
use Prim.Native.Nat.{◌+◌}
use native.Mathlib.Omega.{arith}
use mathlib.Core.Path.{◌≡◌, sym, ap}
use mathlib.Core.Bool.{true, false}
use mathlib.Core.List.{[], ◌∷◌}
use lib.ListN.{length, drop}
use Rattle.comparing.specs.Inner.{pieces, parts_text, parting_text}
use Rattle.comparing.proofs.DifferenceLaws.{Due, due-step, due-as, due-empty, due-end, due-room}
use Rattle.comparing.proofs.PartingLaws.{behind_lists, said_parts, parts_are, lists-empty, lists-full}
use Rattle.comparing.proofs.differing.put_parts.Given.{Over}
use Rattle.comparing.proofs.differing.put_parts.Goals as goal
use Rattle.comparing.proofs.differing.put_parts.Goals.{After-put-2, After-put_all_listed-2, After-at, Then-at-begun}

-- the lists are due, the second of them, and what stands behind them
lists : (g : Over) (c : After-put-2 g)
    → let a = c.args in
    Due g.S.Sink.after a.sink.now (parts_text a.name.now a.sheet.now a.written.now) c.put-2.new.self
    (drop 2 (said_parts a.sheet.now a.written.now a.name.now))
lists g c =
    let a = c.args in
    let m = g.met.S.Sink.laws in
    due-step m (due-step m (record { whole = ap (g.S.Sink.after a.sink.now) (sym (parts_are a.sheet.now a.written.now a.name.now)) }) c.put.ensures)
    c.put-2.ensures

pub put_all_listed-requires-clause-room : goal.put_all_listed-requires-clause-room
put_all_listed-requires-clause-room g c =
    due-room g.met.S.Sink.laws (lists g (goal.at.put_all_listed-requires-clause-room g c).After-put-2) c.requires.room

pub put_all_listed-requires-2-clause-room : goal.put_all_listed-requires-2-clause-room
put_all_listed-requires-2-clause-room g c =
    let m = g.met.S.Sink.laws in
    due-room m (due-step m (lists g (goal.at.put_all_listed-requires-2-clause-room g c).After-put-2) c.put_all_listed.ensures) c.requires.room

-- what stands behind them
behind : (g : Over) (c : After-put_all_listed-2 g)
    → let a = c.args in
    Due g.S.Sink.after a.sink.now (parts_text a.name.now a.sheet.now a.written.now) c.put_all_listed-2.new.sink
    (behind_lists a.sheet.now a.written.now ∷ [])
behind g c =
    let m = g.met.S.Sink.laws in
    due-step m (due-step m (lists g (goal.at.After-put_all_listed-2 g c).After-put-2) c.put_all_listed.ensures) c.put_all_listed-2.ensures

-- how far the lists went
far : (g : Over) (c : After-at g)
    → let a = c.args in
    c.at.result ≡ c.at-begun.result + length (pieces true a.sheet.now a.written.now) + length (pieces false a.written.now a.sheet.now)
far g c =
    let a = c.args in
    let m = g.met.S.Sink.laws in
    omega (
      arith,
      c.at-begun.ensures,
      c.at.ensures,
      ap g.S.Sink.place c.put_all_listed.ensures,
      m.moved c.put-2.new.self (pieces true a.sheet.now a.written.now),
      ap g.S.Sink.place c.put_all_listed-2.ensures,
      m.moved c.put_all_listed.new.sink (pieces false a.written.now a.sheet.now),
    )

parting : (g : Over) (c : Then-at-begun g)
    → let a = c.args in
    Due g.S.Sink.after a.sink.now (parts_text a.name.now a.sheet.now a.written.now) c.put_all_listed-2.new.sink
    (parting_text a.sheet.now a.written.now ∷ [])
parting g c =
    let a = c.args in
    due-as g.met.S.Sink.laws (lists-empty a.sheet.now a.written.now (omega (arith, far g (goal.at.Then-at-begun g c).After-at, c.if-at-begun.true)))
    (behind g (goal.at.Then-at-begun g c).After-put_all_listed-2)

pub put_parting-requires-clause-room : goal.put_parting-requires-clause-room
put_parting-requires-clause-room g c =
    due-room g.met.S.Sink.laws (parting g (goal.at.put_parting-requires-clause-room g c).Then-at-begun) c.requires.room

pub returns-then-at-begun : goal.returns-then-at-begun
returns-then-at-begun g c =
    let m = g.met.S.Sink.laws in
    due-end m (due-step m (parting g (goal.at.returns-then-at-begun g c).Then-at-begun) c.put_parting.ensures)

pub returns-else-at-begun : goal.returns-else-at-begun
returns-else-at-begun g c =
    let a = c.args in
    let m = g.met.S.Sink.laws in
    let full = lists-full a.sheet.now a.written.now (omega (arith, far g (goal.at.returns-else-at-begun g c).After-at, c.if-at-begun.false)) in
    due-end m (due-empty m (due-as m full (behind g (goal.at.returns-else-at-begun g c).After-put_all_listed-2)))
