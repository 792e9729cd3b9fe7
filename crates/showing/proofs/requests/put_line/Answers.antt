-- `requests::put_line` meets its contract: behind the loop the first bytes are put. Assumes nothing.
use Prim.Native.Nat.{ℕ}
use native.Mathlib.Omega.{arith}
use borrow.Author.Rules.{rules}
use mathlib.Core.Path.{sym, ap, ◌∙◌}
use mathlib.Core.List.{List, ◌++◌, append-nil}
use lib.ListN.{length-take}
use Rattle.showing.proofs.RequestLaws.{line_bytes, line-long, line-put, tail_none}
use Rattle.showing.proofs.requests.put_line.Goals as goal

pub push-requires : goal.push-requires
push-requires c =
    let l = c.args.line.now in
    (search rules, omega (arith, c.requires, line-long l, length-take c.min-n.result l, c.min-n.ensures, c.loop-b.invariant.long, c.loop-b-test.true))

pub returns-else-line-gt-LONGEST_LINE : goal.returns-else-line-gt-LONGEST_LINE
returns-else-line-gt-LONGEST_LINE c =
    let l = c.args.line.now in
    let o = c.args.out.now.items in
    line-put l o c.min-n.result (omega (arith, c.min-n.ensures)) c.loop-b.b-index (omega (arith, c.loop-b-test.false)) c.loop-b.invariant.left
    ∙ ap (λ (x : List ℕ). o ++ x) (sym (append-nil (line_bytes l)) ∙ ap (λ (x : List ℕ). line_bytes l ++ x) (sym (tail_none l c.if-line-gt-LONGEST_LINE.false)))
