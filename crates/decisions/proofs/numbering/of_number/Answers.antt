-- `decisions::numbering::of_number` meets its contract: what is wanted of a number that is ours, and allocated. Assumes nothing.
use native.Mathlib.Omega.{arith}
use Prim.Native.Nat.{◌≤◌}
use mathlib.Core.Path.{◌≡◌, refl, sym, ap, ◌∙◌, subst}
use mathlib.Core.List.{List}
use Rattle.records.specs.declared.Resource.{Resource}
use Rattle.records.specs.Numbers.{number_at}
use Rattle.rules.specs.Plans.{View}
use Rattle.rules.specs.declared.Answer.TheVariants.{NotAllowed, NotAllocated}
use Rattle.decisions.specs.declared.numbering.Wanted.{Wanted}
use Rattle.decisions.specs.Inner.{Decides, settled, OfNumbers, wanted}
use Rattle.decisions.proofs.Laws.{like, stays}
use Rattle.decisions.proofs.Numbered.{wanted-not, number-strange, number-free, number-owned}
use Rattle.decisions.proofs.numbering.of_number.Goals.{After-number-x, Else-x-eq0}
use Rattle.decisions.proofs.numbering.of_number.Goals.{then-waiting-gt1-via-then-waiting-gt1}
use Rattle.decisions.proofs.numbering.of_number.Goals.{then-waiting-gt1-via-else-waiting-gt1+then-r-lt1}
use Rattle.decisions.proofs.numbering.of_number.Goals.{then-waiting-gt1-via-else-waiting-gt1+else-r-lt1+then-numbers-r}
use Rattle.decisions.proofs.numbering.of_number.Goals as goal

least : (n : After-number-x) → 1 ≤ n.args.r
least n = omega arith

most : (n : After-number-x) (v : View) → OfNumbers v n.args.numbers → n.args.r ≤ v.book.numbers
most n v O = omega (arith, O.size)

there : (n : After-number-x) (v : View) → OfNumbers v n.args.numbers
    → number_at v.book.resources n.args.r ≡ n.number-x.result
there n v O = ap (λ (xs : List Resource). number_at xs n.args.r) O.all ∙ sym n.number-x.ensures

pub returns-then-waiting-gt1 : goal.returns-then-waiting-gt1
returns-then-waiting-gt1 c = λ v O. stays v NotAllowed 0 refl
    (elim c.then-waiting-gt1.branch [
      | then-waiting-gt1-via-then-waiting-gt1 w ↦ wanted-not v _ _ _ _ c.waiting.ensures (λ a. omega arith)
      | then-waiting-gt1-via-else-waiting-gt1+then-r-lt1 w ↦
          number-strange v _ _ _ _ c.waiting.ensures w.if-waiting-gt1.false (λ a. omega (arith, a.0))
      | then-waiting-gt1-via-else-waiting-gt1+else-r-lt1+then-numbers-r w ↦
          number-strange v _ _ _ _ c.waiting.ensures w.if-waiting-gt1.false (λ a. omega (arith, a.1, O.size))
    ])

pub returns-then-x-eq0 : goal.returns-then-x-eq0
returns-then-x-eq0 c =
    let n = (goal.at.returns-then-x-eq0 c).After-number-x in
    λ v O.
    stays v NotAllocated 0 refl
    (number-free v _ _ _ _ c.waiting.ensures c.if-waiting-gt1.false (least n) (most n v O) _ (there n v O) c.if-x-eq0.true)

pub returns-in-Lock : goal.returns-in-Lock
returns-in-Lock c =
    let n = (goal.at.returns-in-Lock c).After-number-x in
    λ v O.
    like v (number-owned v _ _ _ _ c.waiting.ensures c.if-waiting-gt1.false (least n) (most n v O) _ (there n v O) c.if-x-eq0.false)
    (subst (λ (q : Wanted). Decides v (wanted v c.args.c c.args.r q c.number-x.result) (settled c.locks.result))
    (sym c.in-Lock.is) (c.locks.ensures v (most n v O)))

pub returns-in-Clear : goal.returns-in-Clear
returns-in-Clear c =
    let n = (goal.at.returns-in-Clear c).After-number-x in
    λ v O.
    like v (number-owned v _ _ _ _ c.waiting.ensures c.if-waiting-gt1.false (least n) (most n v O) _ (there n v O) c.if-x-eq0.false)
    (subst (λ (q : Wanted). Decides v (wanted v c.args.c c.args.r q c.number-x.result) (settled c.clears.result))
    (sym c.in-Clear.is) (c.clears.ensures v (most n v O)))

pub returns-in-Free : goal.returns-in-Free
returns-in-Free c =
    let n = (goal.at.returns-in-Free c).After-number-x in
    λ v O.
    like v (number-owned v _ _ _ _ c.waiting.ensures c.if-waiting-gt1.false (least n) (most n v O) _ (there n v O) c.if-x-eq0.false)
    (subst (λ (q : Wanted). Decides v (wanted v c.args.c c.args.r q c.number-x.result) (settled c.frees.result))
    (sym c.in-Free.is) (c.frees.ensures v (most n v O)))
