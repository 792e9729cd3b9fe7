-- `read_held` reads the tracks that are held, as many as there are. What is read so far stands in the places of a table.
-- Assumes nothing.
use Prim.Native.Nat.{suc, ◌-◌}
use native.Mathlib.Omega.{arith}
use mathlib.Core.Path.{◌≡◌, refl, ap, ◌∙◌}
use Rattle.tracks.specs.Tracks.{table_at}
use Rattle.tracks.proofs.Turns.{filled-places}
use Rattle.reader.proofs.HeldLaws.{put_run, put_in, put-over, put_back, all_held, one_more}
use Rattle.reader.proofs.parts.read_held.Goals.{Joined-run, then-run+then-run-tracks, else-run}
use Rattle.reader.proofs.parts.read_held.Goals.{else-run-via-then-run+else-run-tracks, else-run-via-else-run}
use Rattle.reader.proofs.parts.read_held.Goals as goal

-- the table of the places with the run in them
put : (c : Joined-run) → let t = c.args.tracks in let x = c.in-Some.run' in
    table_at t.count t.system c.if-run.places ≡ put_run (table_at t.count t.system c.loop-run.places) x.first x.last x.holder
put c =
    let t = table_at c.args.tracks.count c.args.tracks.system in
    let u = t c.loop-run.places in
    let x = c.in-Some.run' in
    elim c.if-run.branch [
      | then-run+then-run-tracks w ↦ ap t (w.places-is ∙ w.fill.ensures)
          ∙ filled-places u c.loop-run.invariant.fitting x.first x.last x.holder (omega (arith, w.if-run.true)) (omega (arith, w.if-run-tracks.true))
          ∙ put_in u x.first x.last x.holder (suc x.last - x.first) (omega (arith, w.if-run.true)) (omega (arith, w.if-run-tracks.true)) refl
      | else-run w ↦ elim w.else-run.branch [
        | else-run-via-then-run+else-run-tracks v ↦ ap t w.places-is ∙ put-over u x.first x.last x.holder (omega (arith, v.if-run-tracks.false))
        | else-run-via-else-run v ↦ ap t w.places-is ∙ put_back u x.first x.last x.holder (omega (arith, v.if-run.false))
      ]
    ]

pub loop-run-preserved : goal.loop-run-preserved
loop-run-preserved c = one_more c.loop-run.invariant c.in-Some.ensures _ (put (goal.at.loop-run-preserved c).Joined-run)

pub returns : goal.returns
returns c =
    all_held c.args.tracks c.places-places.ensures c.loop-run.invariant c.in_default.ensures c.from_places.ensures
