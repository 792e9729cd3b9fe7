-- While a line ends in the block it is keyed in, and the next begins behind it; then no line is left that ends.
use Rattle.std.proofs.Common.{◌≡◌, ◌<◌, ◌≤◌, ℕ, List, length, sym, ap, ◌∙◌, subst, arith}
use Rattle.console.specs.Console.{keyed}
use Rattle.console.specs.Sheet.{lent, line_end}
use Rattle.console.proofs.LineEnds.{LineEnd, line-end, line-within, line_taken}
use Rattle.blocks.proofs.Going.{no_lines}
use Rattle.blocks.proofs.AllTurns.{onward-start, onward-none}
use Rattle.follow.proofs.Shown.{onward-line}
use Rattle.follow.proofs.requests.key_block.Goals as goal

ends : (s : List ℕ) (from e : ℕ) → e ≡ line_end s from → LineEnd s from e
ends s from e is = subst (LineEnd s from) (sym is) (line-end s from)

low : (s : List ℕ) (from e : ℕ) → e ≡ line_end s from → e < length s → from ≤ e
low s from e is within = let l = ends s from e is in (l.line (line-within l within)).low

pub loop-end-init : goal.loop-end-init
loop-end-init c = (c.line_end-end.ensures, onward-start _ _)

pub slice_bounds-key_line-count : goal.slice_bounds-key_line-count
slice_bounds-key_line-count c = let l = c.loop-end in low c.args.block.now l.from l.end l.invariant.0 c.loop-end-test.true

pub slice_bounds-key_line-start : goal.slice_bounds-key_line-start
slice_bounds-key_line-start c = let l = c.loop-end in low c.args.block.now l.from l.end l.invariant.0 c.loop-end-test.true

pub loop-end-smaller : goal.loop-end-smaller
loop-end-smaller c = let l = c.loop-end in omega (arith, low c.args.block.now l.from l.end l.invariant.0 c.loop-end-test.true, c.loop-end-test.true)

pub loop-end-preserved : goal.loop-end-preserved
loop-end-preserved c =
    let l = c.loop-end in
    let s : List ℕ = c.args.block.now in (
      c.line_end-end-in-loop-end.ensures,
      onward-line l.end l.invariant.1 (ends s l.from l.end l.invariant.0) c.loop-end-test.true
          (c.in_ok-keying.ensures
          ∙ ap (λ (x : List ℕ). (keyed l.keying.tables x lent).tables)
          (line_taken s l.from l.end (low s l.from l.end l.invariant.0 c.loop-end-test.true))),
    )

pub returns : goal.returns
returns c =
    let l = c.loop-end in
    let s : List ℕ = c.args.block.now in
    let e = ends s l.from l.end l.invariant.0 in
    let n = onward-none l.invariant.1 (no_lines s l.from l.end e (omega (arith, e.high, c.loop-end-test.false))) in
    record { tables = n.0; rest = n.1 }
