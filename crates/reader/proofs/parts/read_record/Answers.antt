-- `read_record` reads the seven lines of a record, and the mark's where it stands.
-- Assumes nothing.
use Prim.Native.Nat.{ℕ, ◌+◌}
use native.Mathlib.Omega.{arith}
use mathlib.Core.Path.{◌≡◌, refl, subst}
use mathlib.Core.Bool.{Bool, true}
use mathlib.Core.List.{List}
use Rattle.text.specs.Text.{text}
use Rattle.records.specs.declared.Program.{Program}
use Rattle.records.specs.declared.Why.{Why}
use Rattle.records.specs.Names.{name_of}
use Rattle.page.specs.Page.{id_key, name_key, priority_key, state_key, why_key, due_key, interval_key}
use Rattle.shapes.specs.Shapes.{figure, figure_or_dash}
use Rattle.shapes.specs.Inner.{LineIs, FigureAt, NameAt, ReasonAt, reason_in}
use Rattle.reader.specs.Walks.{RecordRead}
use Rattle.reader.proofs.BadLines.{bad_line, stops_with, handed_on}
use Rattle.reader.proofs.MarkLaws.{mark_on, mark-off}
use Rattle.reader.proofs.RecordLaws as laws
use Rattle.reader.proofs.parts.read_record.Goals.{In_ok-id, In_ok-name, In_ok-priority, In_ok-state, In_ok-why, In_ok-due, In_ok-interval}
use Rattle.reader.proofs.parts.read_record.Goals as goal

line-1 : (c : In_ok-id) → LineIs figure c.args.s.now c.args.at (text id_key) c.in_ok-id.id c.in_ok-id.a
line-1 c = subst (FigureAt figure _ _ _) c.in_ok-id.ensures.ok_part c.figure_at.ensures

line-2 : (c : In_ok-name) → LineIs name_of c.args.s.now c.in_ok-id.a (text name_key) c.in_ok-name.name c.in_ok-name.b
line-2 c = subst (NameAt _ _ _) c.in_ok-name.ensures.ok_part c.name_at.ensures

line-3 : (c : In_ok-priority) → LineIs figure c.args.s.now c.in_ok-name.b (text priority_key) c.in_ok-priority.priority c.in_ok-priority.c
line-3 c = subst (FigureAt figure _ _ _) c.in_ok-priority.ensures.ok_part c.figure_at-2.ensures

line-4 : (c : In_ok-state) → LineIs figure c.args.s.now c.in_ok-priority.c (text state_key) c.in_ok-state.state c.in_ok-state.d
line-4 c = subst (FigureAt figure _ _ _) c.in_ok-state.ensures.ok_part c.figure_at-3.ensures

line-5 : (c : In_ok-why) → LineIs reason_in c.args.s.now c.in_ok-state.d (text why_key) c.in_ok-why.why c.in_ok-why.e
line-5 c = subst (ReasonAt _ _ _) c.in_ok-why.ensures.ok_part c.reason_at.ensures

line-6 : (c : In_ok-due) → LineIs figure_or_dash c.args.s.now c.in_ok-why.e (text due_key) c.in_ok-due.due c.in_ok-due.f
line-6 c = subst (FigureAt figure_or_dash _ _ _) c.in_ok-due.ensures.ok_part c.dashed_at.ensures

line-7 : (c : In_ok-interval) → LineIs figure_or_dash c.args.s.now c.in_ok-due.f (text interval_key) c.in_ok-interval.interval c.in_ok-interval.g
line-7 c = subst (FigureAt figure_or_dash _ _ _) c.in_ok-interval.ensures.ok_part c.dashed_at-2.ensures

pub returns-in_err-id : goal.returns-in_err-id
returns-in_err-id c =
    let v = c.in_err-id.ensures in
    let q = bad_line v.value v.ok_part in
    handed_on (RecordRead _ _ _) c.from_residual.ensures
    (λ n. stops_with {k = c.args.line + 0} (omega (arith, q)) (omega (arith, c.requires.some))
    (laws.bad-1 _ _ (subst (FigureAt figure _ _ _) v.ok_part c.figure_at.ensures) n c.args.line))

pub returns-in_err-name : goal.returns-in_err-name
returns-in_err-name c =
    let v = c.in_err-name.ensures in
    let q = bad_line v.value v.ok_part in
    handed_on (RecordRead _ _ _) c.from_residual-in_err-name.ensures
    (λ n. stops_with {k = c.args.line + 1} (omega (arith, q)) (omega (arith, c.requires.some))
    (laws.bad-2 _ _ (line-1 (goal.at.returns-in_err-name c).In_ok-id) (subst (NameAt _ _ _) v.ok_part c.name_at.ensures) n c.args.line))

pub returns-in_err-priority : goal.returns-in_err-priority
returns-in_err-priority c =
    let v = c.in_err-priority.ensures in
    let q = bad_line v.value v.ok_part in
    handed_on (RecordRead _ _ _) c.from_residual-in_err-priority.ensures
    (λ n. stops_with {k = c.args.line + 2} (omega (arith, q)) (omega (arith, c.requires.some))
    (laws.bad-3 _ _ (line-1 (goal.at.returns-in_err-priority c).In_ok-id) (line-2 (goal.at.returns-in_err-priority c).In_ok-name) (subst (FigureAt figure _ _ _) v.ok_part c.figure_at-2.ensures) n c.args.line))

pub returns-in_err-state : goal.returns-in_err-state
returns-in_err-state c =
    let v = c.in_err-state.ensures in
    let q = bad_line v.value v.ok_part in
    handed_on (RecordRead _ _ _) c.from_residual-in_err-state.ensures
    (λ n. stops_with {k = c.args.line + 3} (omega (arith, q)) (omega (arith, c.requires.some))
    (laws.bad-4 _ _ (line-1 (goal.at.returns-in_err-state c).In_ok-id) (line-2 (goal.at.returns-in_err-state c).In_ok-name) (line-3 (goal.at.returns-in_err-state c).In_ok-priority) (subst (FigureAt figure _ _ _) v.ok_part c.figure_at-3.ensures) n c.args.line))

pub returns-in_err-why : goal.returns-in_err-why
returns-in_err-why c =
    let v = c.in_err-why.ensures in
    let q = bad_line v.value v.ok_part in
    handed_on (RecordRead _ _ _) c.from_residual-in_err-why.ensures
    (λ n. stops_with {k = c.args.line + 4} (omega (arith, q)) (omega (arith, c.requires.some))
    (laws.bad-5 _ _ (line-1 (goal.at.returns-in_err-why c).In_ok-id) (line-2 (goal.at.returns-in_err-why c).In_ok-name) (line-3 (goal.at.returns-in_err-why c).In_ok-priority) (line-4 (goal.at.returns-in_err-why c).In_ok-state) (subst (ReasonAt _ _ _) v.ok_part c.reason_at.ensures) n c.args.line))

pub returns-in_err-due : goal.returns-in_err-due
returns-in_err-due c =
    let v = c.in_err-due.ensures in
    let q = bad_line v.value v.ok_part in
    handed_on (RecordRead _ _ _) c.from_residual-in_err-due.ensures
    (λ n. stops_with {k = c.args.line + 5} (omega (arith, q)) (omega (arith, c.requires.some))
    (laws.bad-6 _ _ (line-1 (goal.at.returns-in_err-due c).In_ok-id) (line-2 (goal.at.returns-in_err-due c).In_ok-name) (line-3 (goal.at.returns-in_err-due c).In_ok-priority) (line-4 (goal.at.returns-in_err-due c).In_ok-state) (line-5 (goal.at.returns-in_err-due c).In_ok-why) (subst (FigureAt figure_or_dash _ _ _) v.ok_part c.dashed_at.ensures) n c.args.line))

pub returns-in_err-interval : goal.returns-in_err-interval
returns-in_err-interval c =
    let v = c.in_err-interval.ensures in
    let q = bad_line v.value v.ok_part in
    handed_on (RecordRead _ _ _) c.from_residual-in_err-interval.ensures
    (λ n. stops_with {k = c.args.line + 6} (omega (arith, q)) (omega (arith, c.requires.some))
    (laws.bad-7 _ _ (line-1 (goal.at.returns-in_err-interval c).In_ok-id) (line-2 (goal.at.returns-in_err-interval c).In_ok-name) (line-3 (goal.at.returns-in_err-interval c).In_ok-priority) (line-4 (goal.at.returns-in_err-interval c).In_ok-state) (line-5 (goal.at.returns-in_err-interval c).In_ok-why) (line-6 (goal.at.returns-in_err-interval c).In_ok-due) (subst (FigureAt figure_or_dash _ _ _) v.ok_part c.dashed_at-2.ensures) n c.args.line))

-- the record that is made of them
made : {n : List ℕ} {p p' s s' d i : ℕ} {y : Why} {m : Bool} → p ≡ p' → s ≡ s'
    → ◌≡◌ {A = Program} (record { used = true; name = n; priority = p; state = s; suspend = m; why = y; due = d; interval = i })
    (record { used = true; name = n; priority = p'; state = s'; suspend = m; why = y; due = d; interval = i })
made {n} {d = d} {i = i} {y = y} {m = m} e f = λ j. record { used = true; name = n; priority = e j; state = f j; suspend = m; why = y; due = d; interval = i }

pub returns-in_default : goal.returns-in_default
returns-in_default c =
    laws.record-read _ _ (line-1 (goal.at.returns-in_default c).In_ok-id) (line-2 (goal.at.returns-in_default c).In_ok-name) (line-3 (goal.at.returns-in_default c).In_ok-priority) (line-4 (goal.at.returns-in_default c).In_ok-state) (line-5 (goal.at.returns-in_default c).In_ok-why) (line-6 (goal.at.returns-in_default c).In_ok-due) (line-7 (goal.at.returns-in_default c).In_ok-interval) (mark-off _ _ (line-7 (goal.at.returns-in_default c).In_ok-interval).within c.in_default.ensures) _ refl refl refl (made c.two_bytes.ensures c.byte.ensures)

pub returns : goal.returns
returns c =
    laws.record-read _ _ (line-1 (goal.at.returns c).In_ok-id) (line-2 (goal.at.returns c).In_ok-name) (line-3 (goal.at.returns c).In_ok-priority) (line-4 (goal.at.returns c).In_ok-state) (line-5 (goal.at.returns c).In_ok-why) (line-6 (goal.at.returns c).In_ok-due) (line-7 (goal.at.returns c).In_ok-interval) (mark_on _ _ _ c.in-Some.ensures) _ refl refl refl (made c.two_bytes.ensures c.byte.ensures)
