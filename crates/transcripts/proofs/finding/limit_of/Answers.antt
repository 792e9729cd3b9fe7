-- `finding::limit_of` meets its contract. Assumes nothing.
use mathlib.Core.Path.{sym, ap}
use lib.ListN.{length}
use Rattle.transcripts.specs.declared.finding.Mark.{Mark}
use Rattle.transcripts.specs.Finding.{marked}
use Rattle.transcripts.proofs.finding.limit_of.Goals as goal

pub returns-in-Original : goal.returns-in-Original
returns-in-Original c =
    let a = c.args in
    ap (λ (m : Mark). length (marked m a.original.now a.copy.now)) (sym c.in-Original.is)

pub returns-in-Copy : goal.returns-in-Copy
returns-in-Copy c =
    let a = c.args in
    ap (λ (m : Mark). length (marked m a.original.now a.copy.now)) (sym c.in-Copy.is)
