-- `differing::line_at` meets its contract: a line ends behind where it begins, and within its text. Assumes nothing.
use Prim.Native.Nat.{ℕ, ◌≤◌}
use native.Mathlib.Omega.{arith}
use mathlib.Core.Path.{ap, ◌∙◌}
use lib.ListN.{length}
use lib.Seq.{slice}
use Rattle.console.proofs.LineEnds.{line-end, line_taken}
use Rattle.comparing.proofs.differing.line_at.Goals.{After-line_end-end}
use Rattle.comparing.proofs.differing.line_at.Goals as goal

low : (c : After-line_end-end) → c.args.begins ≤ c.line_end-end.result
low c =
    let a = c.args in omega (arith, ((line-end a.s.now a.begins).line c.requires).low, c.line_end-end.ensures)

high : (c : After-line_end-end) → c.line_end-end.result ≤ length c.args.s.now
high c = let a = c.args in omega (arith, (line-end a.s.now a.begins).high, c.line_end-end.ensures)

pub returns : goal.returns
returns c =
    let a = c.args in
    line_taken a.s.now a.begins c.line_end-end.result (low (goal.at.returns c).After-line_end-end)
    ∙ ap (λ (n : ℕ). slice a.begins n a.s.now) c.line_end-end.ensures

pub slice_bounds-result-count : goal.slice_bounds-result-count
slice_bounds-result-count c = omega (arith, low (goal.at.slice_bounds-result-count c).After-line_end-end)

pub slice_bounds-result-start : goal.slice_bounds-result-start
slice_bounds-result-start c = omega (arith, low (goal.at.slice_bounds-result-start c).After-line_end-end)

pub slice_bounds-result-end : goal.slice_bounds-result-end
slice_bounds-result-end c = omega (arith, high (goal.at.slice_bounds-result-end c).After-line_end-end)
