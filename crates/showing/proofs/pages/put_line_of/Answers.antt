-- `pages::put_line_of` meets its contract: the line that begins here is put where its number is 1, and there is room for it.
-- Assumes nothing.
use Prim.Native.Nat.{ℕ, ◌-◌}
use native.Mathlib.Omega.{arith}
use borrow.Author.Rules.{rules}
use mathlib.Core.Path.{◌≡◌, sym, ap, ◌∙◌}
use mathlib.Core.List.{List, [], ◌∷◌, ◌++◌, append_assoc, append-nil}
use lib.ListN.{length, take, drop, length-append}
use Rattle.text.specs.Lines.{lines_of}
use Rattle.showing.specs.Showing.{line_of_number}
use Rattle.showing.proofs.PageLaws.{number-none, number-here, number-next}
use Rattle.showing.proofs.pages.put_line_of.Goals.{Then-left-eq1}
use Rattle.showing.proofs.pages.put_line_of.Goals as goal

-- the line's bytes as the code takes them
abbrev taken : Then-left-eq1 → List ℕ
taken c = take (c.part_end-end.result - c.loop-from.from) (drop c.loop-from.from c.args.s.now)

found : (c : Then-left-eq1) → line_of_number c.args.n (lines_of c.args.s.now) ≡ taken c ++ (10 ∷ [])
found c =
    number-here c.args.s.now c.loop-from.from c.part_end-end.result c.loop-from-test.true c.part_end-end.ensures c.args.n c.loop-from.left
    c.if-left-eq1.true c.loop-from.invariant.left

pub put_bytes-requires : goal.put_bytes-requires
put_bytes-requires c =
    let t = (goal.at.put_bytes-requires c).Then-left-eq1 in
    (search rules, omega (arith, c.requires, ap length c.loop-from.invariant.same, ap length (found t), length-append (taken t) (10 ∷ [])))

pub push-requires : goal.push-requires
push-requires c =
    let t = (goal.at.push-requires c).Then-left-eq1 in (
      search rules,
      omega (
        arith,
        c.requires,
        ap length c.loop-from.invariant.same,
        ap length (found t),
        length-append (taken t) (10 ∷ []),
        ap length c.put_bytes.ensures,
        length-append c.loop-from.out.items (taken t),
      ),
    )

pub returns-then-left-eq1 : goal.returns-then-left-eq1
returns-then-left-eq1 c =
    let t = (goal.at.returns-then-left-eq1 c).Then-left-eq1 in
    c.push.ensures.items ∙ ap (λ (x : List ℕ). x ++ (10 ∷ [])) (c.put_bytes.ensures ∙ ap (λ (x : List ℕ). x ++ taken t) c.loop-from.invariant.same)
    ∙ append_assoc c.args.out.now.items (taken t) (10 ∷ []) ∙ ap (λ (x : List ℕ). c.args.out.now.items ++ x) (sym (found t))

pub loop-from-preserved : goal.loop-from-preserved
loop-from-preserved c =
    let l = c.loop-from in record {
      same = l.invariant.same;
      left =
          number-next c.args.s.now l.from c.part_end-end.result c.loop-from-test.true c.part_end-end.ensures l.left
          (omega (arith, c.if-left-eq1.false, c.if-left-eq0.false))
          ∙ l.invariant.left;
    }

pub returns : goal.returns
returns c =
    let l = c.loop-from in
    let s = c.args.s.now in
    l.invariant.same ∙ sym (append-nil c.args.out.now.items)
    ∙ ap (λ (x : List ℕ). c.args.out.now.items ++ x) (sym (number-none s l.from l.left c.loop-from-test.false) ∙ l.invariant.left)
