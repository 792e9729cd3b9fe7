-- `pages::put_page_text` meets its contract: the bytes printed are the answer's line, and each piece has room. Assumes nothing.
use Prim.Native.Nat.{ℕ}
use native.Mathlib.Omega.{arith}
use mathlib.Core.Path.{◌≡◌, sym, ap, ◌∙◌}
use mathlib.Core.List.{List, ◌++◌, append_assoc}
use lib.ListN.{length, length-append}
use lib.Seq.{length-take-le}
use Rattle.text.specs.Text.{text}
use Rattle.rules.specs.Answers.{number, values}
use Rattle.console.specs.Sheet.{answer_of}
use Rattle.showing.specs.Inner.{bad_text}
use Rattle.showing.proofs.ShownLaws.{printed-within, printed-all}
use Rattle.showing.proofs.PageLaws.{page-long}
use Rattle.showing.proofs.pages.put_page_text.Goals.{After-put_bytes-3}
use Rattle.showing.proofs.pages.put_page_text.Goals as goal

pub slice_bounds-printed-end : goal.slice_bounds-printed-end
slice_bounds-printed-end c = printed-within c.args.answer c.print_answer-n.ensures

pub slice_bounds-put_bytes-end-2 : goal.slice_bounds-put_bytes-end-2
slice_bounds-put_bytes-end-2 c =
    let p = c.print_answer-n in
    sym (length-take-le p.result p.new.out (printed-within c.args.answer p.ensures))

-- name, `: ` and the answer's line are put
put : (c : After-put_bytes-3)
    → let a = c.args in
    c.put_bytes-3.new.out.items ≡ a.out.now.items ++ (a.name.now ++ text ": " ++ answer_of (number a.answer) (values a.answer))
put c =
    let a = c.args in
    c.put_bytes-3.ensures ∙ ap (λ (x : List ℕ). c.put_bytes-2.new.out.items ++ x) (printed-all a.answer c.print_answer-n.ensures)
    ∙ ap (λ (x : List ℕ). x ++ answer_of (number a.answer) (values a.answer))
    (c.put_bytes-2.ensures ∙ ap (λ (x : List ℕ). x ++ text ": ") c.put_bytes.ensures)
    ∙ simp append_assoc

pub put_bytes-requires-3 : goal.put_bytes-requires-3
put_bytes-requires-3 c =
    let a = c.args in (
      omega arith,
      omega (
        arith,
        c.requires,
        page-long a.name.now a.s.now (number a.answer) (values a.answer),
        ap length c.put_bytes.ensures,
        length-append a.out.now.items a.name.now,
        ap length c.put_bytes-2.ensures,
        length-append c.put_bytes.new.out.items (text ": "),
        ap length (printed-all a.answer c.print_answer-n.ensures),
      ),
    )

pub put_bad-requires : goal.put_bad-requires
put_bad-requires c =
    let a = c.args in
    let line = answer_of (number a.answer) (values a.answer) in
    omega (
      arith,
      c.requires,
      page-long a.name.now a.s.now (number a.answer) (values a.answer),
      ap length (put (goal.at.put_bad-requires c).After-put_bytes-3),
      length-append a.out.now.items (a.name.now ++ text ": " ++ line),
      length-append a.name.now (text ": "),
      length-append (a.name.now ++ text ": ") line,
    )

pub returns : goal.returns
returns c =
    let a = c.args in
    c.put_bad.ensures
    ∙ ap (λ (x : List ℕ). x ++ bad_text a.s.now (number a.answer) (values a.answer)) (put (goal.at.returns c).After-put_bytes-3)
    ∙ simp append_assoc
