-- `read_head` reads the six lines of the head, and the year among them.
-- Assumes nothing.
use Prim.Native.Nat.{suc, ◌+◌}
use native.Mathlib.Omega.{arith}
use mathlib.Core.Path.{◌≡◌, subst}
use mathlib.Core.Bool.{true}
use Rattle.text.specs.Text.{text}
use Rattle.page.specs.Page.{first_word, page_key, clock_key, tracks_key, system_key, numbers_key, programs_key}
use Rattle.shapes.specs.Shapes.{figure}
use Rattle.shapes.specs.Inner.{LineIs, word_is, WordAt, FigureAt}
use Rattle.reader.specs.Walks.{HeadRead}
use Rattle.reader.proofs.BadLines.{bad_line, stops_with, handed_on}
use Rattle.reader.proofs.HeadLaws as laws
use Rattle.reader.proofs.parts.read_head.Goals.{In_ok-a, In_ok-clock, In_ok-tracks, In_ok-system, In_ok-numbers, In_ok-programs}
use Rattle.reader.proofs.parts.read_head.Goals as goal

line-1 : (c : In_ok-a) → LineIs (word_is (text first_word)) c.args.s.now c.args.at (text page_key) true c.in_ok-a.a
line-1 c = subst (WordAt _ _ _ _) c.in_ok-a.ensures.ok_part c.word_at.ensures

line-2 : (c : In_ok-clock) → LineIs figure c.args.s.now c.in_ok-a.a (text clock_key) c.in_ok-clock.clock c.in_ok-clock.b
line-2 c = subst (FigureAt figure _ _ _) c.in_ok-clock.ensures.ok_part c.figure_at.ensures

line-3 : (c : In_ok-tracks) → LineIs figure c.args.s.now c.read_year-year.result.at (text tracks_key) c.in_ok-tracks.tracks c.in_ok-tracks.c
line-3 c = subst (FigureAt figure _ _ _) c.in_ok-tracks.ensures.ok_part c.figure_at-2.ensures

line-4 : (c : In_ok-system) → LineIs figure c.args.s.now c.in_ok-tracks.c (text system_key) c.in_ok-system.system c.in_ok-system.d
line-4 c = subst (FigureAt figure _ _ _) c.in_ok-system.ensures.ok_part c.figure_at-3.ensures

line-5 : (c : In_ok-numbers) → LineIs figure c.args.s.now c.in_ok-system.d (text numbers_key) c.in_ok-numbers.numbers c.in_ok-numbers.e
line-5 c = subst (FigureAt figure _ _ _) c.in_ok-numbers.ensures.ok_part c.figure_at-4.ensures

line-6 : (c : In_ok-programs) → LineIs figure c.args.s.now c.in_ok-numbers.e (text programs_key) c.in_ok-programs.programs c.in_ok-programs.f
line-6 c = subst (FigureAt figure _ _ _) c.in_ok-programs.ensures.ok_part c.figure_at-5.ensures

pub returns-in_err-a : goal.returns-in_err-a
returns-in_err-a c =
    let v = c.in_err-a.ensures in
    let q = bad_line v.value v.ok_part in
    handed_on (HeadRead _ _) c.from_residual.ensures
    (stops_with {k = 1} (omega (arith, q)) (omega arith)
    (laws.stop-1 _ _ (subst (WordAt _ _ _ _) v.ok_part c.word_at.ensures)))

pub returns-in_err-clock : goal.returns-in_err-clock
returns-in_err-clock c =
    let v = c.in_err-clock.ensures in
    let q = bad_line v.value v.ok_part in
    handed_on (HeadRead _ _) c.from_residual-in_err-clock.ensures
    (stops_with {k = 2} (omega (arith, q)) (omega arith)
    (laws.stop-2 _ _ (line-1 (goal.at.returns-in_err-clock c).In_ok-a) (subst (FigureAt figure _ _ _) v.ok_part c.figure_at.ensures)))

pub returns-in_err-tracks : goal.returns-in_err-tracks
returns-in_err-tracks c =
    let v = c.in_err-tracks.ensures in
    let q = bad_line v.value v.ok_part in
    handed_on (HeadRead _ _) c.from_residual-in_err-tracks.ensures
    (stops_with {k = 3 + c.read_year-year.result.lines} (omega (arith, q)) (omega arith)
    (laws.stop-3 _ _ (line-1 (goal.at.returns-in_err-tracks c).In_ok-a) (line-2 (goal.at.returns-in_err-tracks c).In_ok-clock) _ c.read_year-year.ensures (subst (FigureAt figure _ _ _) v.ok_part c.figure_at-2.ensures)))

pub returns-in_err-system : goal.returns-in_err-system
returns-in_err-system c =
    let v = c.in_err-system.ensures in
    let q = bad_line v.value v.ok_part in
    handed_on (HeadRead _ _) c.from_residual-in_err-system.ensures
    (stops_with {k = suc (3 + c.read_year-year.result.lines)} (omega (arith, q)) (omega arith)
    (laws.stop-4 _ _ (line-1 (goal.at.returns-in_err-system c).In_ok-a) (line-2 (goal.at.returns-in_err-system c).In_ok-clock) _ c.read_year-year.ensures (line-3 (goal.at.returns-in_err-system c).In_ok-tracks) (subst (FigureAt figure _ _ _) v.ok_part c.figure_at-3.ensures)))

pub returns-in_err-numbers : goal.returns-in_err-numbers
returns-in_err-numbers c =
    let v = c.in_err-numbers.ensures in
    let q = bad_line v.value v.ok_part in
    handed_on (HeadRead _ _) c.from_residual-in_err-numbers.ensures
    (stops_with {k = suc (suc (3 + c.read_year-year.result.lines))} (omega (arith, q)) (omega arith)
    (laws.stop-5 _ _ (line-1 (goal.at.returns-in_err-numbers c).In_ok-a) (line-2 (goal.at.returns-in_err-numbers c).In_ok-clock) _ c.read_year-year.ensures (line-3 (goal.at.returns-in_err-numbers c).In_ok-tracks) (line-4 (goal.at.returns-in_err-numbers c).In_ok-system) (subst (FigureAt figure _ _ _) v.ok_part c.figure_at-4.ensures)))

pub returns-in_err-programs : goal.returns-in_err-programs
returns-in_err-programs c =
    let v = c.in_err-programs.ensures in
    let q = bad_line v.value v.ok_part in
    handed_on (HeadRead _ _) c.from_residual-in_err-programs.ensures
    (stops_with {k = suc (suc (suc (3 + c.read_year-year.result.lines)))} (omega (arith, q)) (omega arith)
    (laws.stop-6 _ _ (line-1 (goal.at.returns-in_err-programs c).In_ok-a) (line-2 (goal.at.returns-in_err-programs c).In_ok-clock) _ c.read_year-year.ensures (line-3 (goal.at.returns-in_err-programs c).In_ok-tracks) (line-4 (goal.at.returns-in_err-programs c).In_ok-system) (line-5 (goal.at.returns-in_err-programs c).In_ok-numbers) (subst (FigureAt figure _ _ _) v.ok_part c.figure_at-5.ensures)))

pub returns : goal.returns
returns c =
    let e : 3 + c.read_year-year.result.lines + 4 ≡ 7 + c.read_year-year.result.lines = omega arith in
    rw e (laws.head_read _ _ (line-1 (goal.at.returns c).In_ok-a) (line-2 (goal.at.returns c).In_ok-clock) _ c.read_year-year.ensures (line-3 (goal.at.returns c).In_ok-tracks) (line-4 (goal.at.returns c).In_ok-system) (line-5 (goal.at.returns c).In_ok-numbers) (line-6 (goal.at.returns c).In_ok-programs))
