-- A line ends behind where it begins, and within its text.
use Rattle.std.proofs.Common.{◌≡◌, ◌≤◌, ℕ, List, length, arith, ap, ◌∙◌}
use Rattle.std.proofs.Math.Seq.{slice}
use Rattle.console.specs.Sheet.{line_end}
use Rattle.console.proofs.LineEnds.{line-end, line_taken}
use Rattle.desk.proofs.showing.line_at.Goals as goal

record Within (s : List ℕ) (from e : ℕ) : Type 0 where
  pub low : from ≤ e
  pub high : e ≤ length s

within : {s : List ℕ} {from e : ℕ} → e ≡ line_end s from → from ≤ length s → Within s from e
within {s} {from} {e} k h =
    let l = line-end s from in record { low = omega (arith, (l.line h).low, k); high = omega (arith, l.high, k) }

pub slice_bounds-result-count : goal.slice_bounds-result-count
slice_bounds-result-count c = omega (arith, (within c.line_end-end.ensures c.requires).low)

pub slice_bounds-result-start : goal.slice_bounds-result-start
slice_bounds-result-start c = omega (arith, (within c.line_end-end.ensures c.requires).low)

pub slice_bounds-result-end : goal.slice_bounds-result-end
slice_bounds-result-end c = omega (arith, (within c.line_end-end.ensures c.requires).high)

pub returns : goal.returns
returns c =
    let e = c.line_end-end in
    let a = c.args in
    line_taken a.transcript.now a.begins e.result (within e.ensures c.requires).low
    ∙ ap (λ (n : ℕ). slice a.begins n a.transcript.now) e.ensures
