-- `finding::locate` meets its contract: the tests in their order, and the two searches by what they find. Assumes nothing.
use mathlib.Core.Path.{◌≡◌, sym, ap, ◌∙◌}
use borrow.Author.Tests.{eqb-true}
use lib.ListN.{length}
use Rattle.std.proofs.Common.{rules, tests}
use Rattle.transcripts.specs.Finding.{told}
use Rattle.transcripts.proofs.FindingLaws.{empty-key, no-occurrence, in-original, in-copy, in-neither}
use Rattle.transcripts.proofs.finding.locate.Goals.{Else-occurrence-eq0, then-is_empty-via-then-is_empty, then-is_empty-via-else-is_empty+then-occurrence-eq0}
use Rattle.transcripts.proofs.finding.locate.Goals as goal

-- a key that is not empty
keyed : (c : Else-occurrence-eq0) → length c.args.key.now ≡ 0 → ⊥
keyed c z = search (rules, tests)

pub returns-then-is_empty : goal.returns-then-is_empty
returns-then-is_empty c =
    let a = c.args in
    ap told c.refuse.ensures ∙ sym (elim c.then-is_empty.branch [
      | then-is_empty-via-then-is_empty w ↦ empty-key a.original.now a.copy.now a.key.now a.occurrence (eqb-true _ _ (sym w.if-is_empty.ensures))
      | then-is_empty-via-else-is_empty+then-occurrence-eq0 w ↦
          no-occurrence a.original.now a.copy.now a.key.now a.occurrence w.if-occurrence-eq0.true
    ])

pub returns-in-Some : goal.returns-in-Some
returns-in-Some c =
    let a = c.args in
    ap told c.found.ensures
    ∙ sym (in-original a.original.now a.copy.now a.key.now a.occurrence (keyed (goal.at.returns-in-Some c).Else-occurrence-eq0)
    c.if-occurrence-eq0.false _ _ c.in-Some.ensures)

pub returns-in-Some-seek : goal.returns-in-Some-seek
returns-in-Some-seek c =
    let a = c.args in
    ap told c.found-in-Some-seek.ensures
    ∙ sym (in-copy a.original.now a.copy.now a.key.now a.occurrence (keyed (goal.at.returns-in-Some-seek c).Else-occurrence-eq0)
    c.if-occurrence-eq0.false c.in_default.ensures _ _ c.in-Some-seek.ensures)

pub returns : goal.returns
returns c =
    let a = c.args in
    ap told c.refuse-2.ensures
    ∙ sym (in-neither a.original.now a.copy.now a.key.now a.occurrence (keyed (goal.at.returns c).Else-occurrence-eq0)
    c.if-occurrence-eq0.false c.in_default.ensures c.in_default-seek.ensures)
