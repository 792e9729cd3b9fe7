-- `finding::confine` meets its contract, test by test. Assumes nothing.
use native.Mathlib.Omega.{arith}
use mathlib.Core.Path.{sym, ◌∙◌}
use Rattle.transcripts.proofs.FindingLaws.{within-crossed, within-past, within-is}
use Rattle.transcripts.proofs.finding.confine.Goals.{then-place-via-then-place, then-place-via-else-place+then-limit_of-place}
use Rattle.transcripts.proofs.finding.confine.Goals as goal

pub returns-then-place : goal.returns-then-place
returns-then-place c =
    let a = c.args in
    c.empty_front.ensures ∙ sym (elim c.then-place.branch [
      | then-place-via-then-place w ↦ within-crossed a.original.now a.copy.now a.place w.if-place.true
      | then-place-via-else-place+then-limit_of-place w ↦
          within-past a.original.now a.copy.now a.place (omega (arith, w.if-limit_of-place.true, w.limit_of.ensures))
    ])

pub returns : goal.returns
returns c =
    let a = c.args in
    sym (within-is a.original.now a.copy.now a.place c.if-place.false (omega (arith, c.if-limit_of-place.false, c.limit_of.ensures)))
