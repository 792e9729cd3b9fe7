-- `lines::has_key` meets its contract: the part before the first `=` is the key, where a part follows it. Assumes nothing.
use native.Mathlib.Omega.{arith}
use mathlib.Core.Path.{sym, ◌∙◌}
use lib.ListN.{length, take}
use borrow.Author.Tests.{le-ltb}
use Rattle.transcripts.proofs.KeyLaws.{key-none, key-some, has-none, has_some}
use Rattle.text.proofs.Fields.{same_bytes}
use Rattle.transcripts.proofs.lines.has_key.Goals as goal

pub returns-then-end-line : goal.returns-then-end-line
returns-then-end-line c =
    let a = c.args in
    let e = c.part_end-end.result in
    c.eq.ensures ∙ same_bytes (take e a.line.now) a.key.now
    ∙ sym (has_some a.key.now a.line.now _ (key-some a.line.now e c.part_end-end.ensures c.if-end-line.true))

pub returns-else-end-line : goal.returns-else-end-line
returns-else-end-line c =
    let a = c.args in
    let p = c.part_end-end.ensures in
    le-ltb c.part_end-end.result (length a.line.now) c.if-end-line.false
    ∙ sym (has-none a.key.now a.line.now (key-none a.line.now _ p (omega (arith, p.high, c.if-end-line.false))))
