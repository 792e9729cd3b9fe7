-- `board_run` meets its contract, line by line (`run-keep`, `run-put`). Assumes nothing.
use Prim.Native.Nat.{ℕ, ◌+◌, ◌-◌, ◌≤◌}
use native.Mathlib.Omega.{arith}
use mathlib.Core.Path.{◌≡◌, refl, sym, ap, subst, ◌∙◌}
use mathlib.Core.Bool.{false}
use mathlib.Core.List.{List, [], ◌∷◌}
use mathlib.Core.Logic.{inl, inr}
use lib.ListN.{length, take, drop, length-drop}
use lib.Seq.{slice, length-take-le}
use borrow.Author.Tests.{ltb-true, ltb-false}
use Rattle.lists.proofs.Tests.{clash}
use Rattle.console.proofs.LineEnds.{LineEnd, line-end, line_taken}
use Rattle.board.proofs.Answered.{answering-not}
use Rattle.board.proofs.Whole.{ran_over, ran-short}
use Rattle.board.proofs.Running.{made-smallest, Shows, line-printed, run-start, Turn}
use Rattle.board.proofs.Running.{run-as, needed-small, run-keep, run-put, run_end}
use Rattle.board.proofs.board_run.Goals.{After-line_end-end, After-bytes_printed-n, then-is_full, else-is_full, then-out-used, else-out-used}
use Rattle.board.proofs.board_run.Goals as goal

pub returns-then-text-gt-LONGEST_TEXT : goal.returns-then-text-gt-LONGEST_TEXT
returns-then-text-gt-LONGEST_TEXT c =
    let a = c.args in
    (λ i. record { number = c.tell.ensures.value i; buffer = a.out.now; answer = c.tell.ensures.buf_after i })
    ∙ sym (ran_over a.text.now a.out.now a.answer.now c.if-text-gt-LONGEST_TEXT.true)

pub returns-then-answer-lt-FIGURES_LENGTH : goal.returns-then-answer-lt-FIGURES_LENGTH
returns-then-answer-lt-FIGURES_LENGTH c =
    let a = c.args in
    ap (λ (x : List ℕ). record { number = 12; buffer = a.out.now; answer = x })
    (sym (answering-not 12 (0 ∷ []) a.answer.now c.if-answer-lt-FIGURES_LENGTH.true))
    ∙ sym (ran-short a.text.now a.out.now a.answer.now c.if-text-gt-LONGEST_TEXT.false c.if-answer-lt-FIGURES_LENGTH.true)

pub loop-from-init : goal.loop-from-init
loop-from-init c =
    let a = c.args in
    record { run = run-start a.text.now a.out.now c.fresh.result.tables (made-smallest c.fresh.result c.fresh.ensures); long = refl }

ends : (c : After-line_end-end) → LineEnd c.args.text.now c.loop-from.from c.line_end-end.result
ends c =
    let s = c.args.text.now in
    let from = c.loop-from.from in
    subst (λ (e : ℕ). LineEnd s from e) (sym c.line_end-end.ensures) (line-end s from)

low : (c : After-line_end-end) → c.loop-from.from ≤ c.line_end-end.result
low c = let h = c.loop-from-test.true in ((ends c).line (omega (arith, h))).low

pub slice_bounds-print_line-count : goal.slice_bounds-print_line-count
slice_bounds-print_line-count c = low (goal.at.slice_bounds-print_line-count c).After-line_end-end

pub slice_bounds-print_line-start : goal.slice_bounds-print_line-start
slice_bounds-print_line-start c = low (goal.at.slice_bounds-print_line-start c).After-line_end-end

pub slice_bounds-print_line-end : goal.slice_bounds-print_line-end
slice_bounds-print_line-end c = (ends (goal.at.slice_bounds-print_line-end c).After-line_end-end).high

-- how many bytes it shows as, the tables after it, and the space
shows : (c : After-bytes_printed-n)
    → Shows c.loop-from.tables (slice c.loop-from.from c.line_end-end.result c.args.text.now) c.bytes_printed-n.result
    c.print_line-printed.result.tables c.print_line-printed.new.out
shows c =
    let l = c.loop-from in
    let p = c.print_line-printed in
    let s = c.args.text.now in
    let e = c.line_end-end.result in
    subst (λ (x : List ℕ). Shows l.tables x c.bytes_printed-n.result p.result.tables p.new.out)
    (line_taken s l.from e (low (goal.at.After-bytes_printed-n c).After-line_end-end))
    (line-printed l.tables (take (e - l.from) (drop l.from s)) l.space (omega (arith, l.invariant.long)) p.result c.bytes_printed-n.result p.new.out
    p.ensures c.bytes_printed-n.ensures p.auto.out)

turn : (c : After-bytes_printed-n)
    → Turn c.args.text.now c.args.out.now c.loop-from.out c.loop-from.tables c.loop-from.from
    c.loop-from.used c.loop-from.needed c.loop-from.is_full
    c.line_end-end.result c.bytes_printed-n.result c.print_line-printed.result.tables c.print_line-printed.new.out
turn c = record {
  run = c.loop-from.invariant.run;
  more = c.loop-from-test.true;
  ends = ends (goal.at.After-bytes_printed-n c).After-line_end-end;
  shows = shows c;
  long = c.print_line-printed.auto.out ∙ c.loop-from.invariant.long;
}

pub overflow_add-needed : goal.overflow_add-needed
overflow_add-needed c =
    let o = (goal.at.overflow_add-needed c).After-bytes_printed-n in
    let n = needed-small (turn o) in
    let e = (turn o).ends.high in
    omega (arith, n, e, c.if-text-gt-LONGEST_TEXT.false)

pub slice_bounds-space-end : goal.slice_bounds-space-end
slice_bounds-space-end c = (shows (goal.at.slice_bounds-space-end c).After-bytes_printed-n).within

pub slice_bounds-copy_from_slice-end-else-out-used : goal.slice_bounds-copy_from_slice-end-else-out-used
slice_bounds-copy_from_slice-end-else-out-used c =
    sym (length-take-le c.bytes_printed-n.result c.print_line-printed.new.out
    (shows (goal.at.slice_bounds-copy_from_slice-end-else-out-used c).After-bytes_printed-n).within)

pub copy_from_slice-requires : goal.copy_from_slice-requires
copy_from_slice-requires c =
    let l = c.loop-from in
    let n = c.bytes_printed-n.result in
    let fit : n ≤ length l.out - l.used = elim c.if-is_full.branch [
      | then-is_full w ↦ clash w.if-is_full.true (sym w.value-is ∙ c.if-out-used.false)
      | else-is_full w ↦ ltb-false (length l.out - l.used) n (sym w.value-is ∙ c.if-out-used.false)
    ] in
    let within = l.invariant.run.fits in
    let same = l.invariant.run.same in
    let long : l.used + n - l.used ≡ n = omega arith in
    ap (λ (k : ℕ). length (take k (drop l.used l.out))) long
    ∙ length-take-le n (drop l.used l.out) (omega (arith, length-drop l.used l.out, fit))
    ∙ sym (length-take-le n c.print_line-printed.new.out (shows (goal.at.copy_from_slice-requires c).After-bytes_printed-n).within)

pub loop-from-smaller : goal.loop-from-smaller
loop-from-smaller c = omega (arith, low (goal.at.loop-from-smaller c).After-line_end-end, c.loop-from-test.true)

pub loop-from-preserved : goal.loop-from-preserved
loop-from-preserved c =
    let l = c.loop-from in
    let n = c.bytes_printed-n.result in
    let o = turn (goal.at.loop-from-preserved c).After-bytes_printed-n in
    let f = c.if-out-used in
    record {
      run =
          elim f.branch [
            | then-out-used w ↦
                run-as w.out-is w.used-is
                (run-keep o f.is_full w.is_full-is
                (elim c.if-is_full.branch [
                  | then-is_full v ↦ inl v.if-is_full.true
                  | else-is_full v ↦ inr (ltb-true (length l.out - l.used) n (sym v.value-is ∙ w.if-out-used.true))
                ]))
            | else-out-used w ↦
                let k : l.used + n - l.used ≡ n = omega arith in
                let unfilled : l.is_full ≡ false = elim c.if-is_full.branch [
                  | then-is_full v ↦ sym v.value-is ∙ w.if-out-used.false
                  | else-is_full v ↦ v.if-is_full.false
                ] in
                let fit : n ≤ length l.out - l.used = elim c.if-is_full.branch [
                  | then-is_full v ↦ clash v.if-is_full.true (sym v.value-is ∙ w.if-out-used.false)
                  | else-is_full v ↦ ltb-false (length l.out - l.used) n (sym v.value-is ∙ w.if-out-used.false)
                ] in
                run-put o unfilled fit f.is_full (w.is_full-is ∙ unfilled) f.out w.copy_from_slice.new.self f.used (l.used + n - l.used)
                w.used-is k f.auto.out w.out-is w.copy_from_slice.ensures.after
          ];
      long = c.print_line-printed.auto.out ∙ l.invariant.long;
    }

pub returns : goal.returns
returns c =
    let l = c.loop-from in
    let a = c.args in
    run_end a.text.now a.out.now a.answer.now l.out l.tables l.from l.used l.needed l.is_full l.invariant.run
    c.loop-from-test.false
    c.put_figures.new.buf c.if-text-gt-LONGEST_TEXT.false c.if-answer-lt-FIGURES_LENGTH.false c.put_figures.ensures
