-- `tables::Tables::passed` meets its contract. The loop's invariant: the timers so far have moved on.
-- Assumes nothing.
use mathlib.Core.Path.{sym, subst, ◌∙◌}
use Rattle.std.proofs.Common.{List, ◌+◌}
use Rattle.std.proofs.lemmas.List.{set-get_or}
use Rattle.records.specs.declared.Program.{Program}
use Rattle.records.specs.Records.{missing}
use Rattle.timers.specs.Inner.{CanMove}
use Rattle.tables.proofs.Ticks.{Passing, passing-start, passing-at, passing-moved, passing-past, passing-done}
use Rattle.tables.proofs.Tables.passed.Goals.{then-falls_due, else-falls_due}
use Rattle.tables.proofs.Tables.passed.Goals as goal

pub loop-r-init : goal.loop-r-init
loop-r-init c = passing-start _ _

pub moved-requires : goal.moved-requires
moved-requires c =
    subst (CanMove c.args.now) (sym (passing-at c.args.self c.args.now c.loop-r.invariant)) (c.requires.fits c.loop-r.r-index)

pub loop-r-preserved : goal.loop-r-preserved
loop-r-preserved c =
    elim c.if-falls_due.branch [
      | then-falls_due w ↦
          rw w.r-items-is (passing-moved c.args.self c.args.now c.loop-r.invariant c.loop-r-test.true w.moved.result w.moved.ensures)
      | else-falls_due w ↦
          subst (λ (ps : List Program). Passing c.args.self c.args.now ps (c.loop-r.r-index + 1))
          (sym (w.r-items-is ∙ set-get_or c.loop-r.r-items c.loop-r.r-index missing))
          (passing-past c.args.self c.args.now c.loop-r.invariant c.loop-r-test.true c.requires.orderly.long
          (sym c.falls_due.ensures ∙ w.if-falls_due.false))
    ]

pub returns : goal.returns
returns c = passing-done c.args.self c.args.now c.loop-r.invariant c.requires.orderly c.loop-r-test.false
