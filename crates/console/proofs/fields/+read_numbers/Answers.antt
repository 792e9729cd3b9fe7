-- `console::fields::read_numbers` meets its contract. It calls itself for one number less, so the measure is how many there are.
use Prim.Native.Nat.{suc, ◌-◌}
use native.Mathlib.Omega.{arith}
use mathlib.Core.Path.{◌≡◌, refl, sym, ap, subst, ◌∙◌}
use mathlib.Core.Logic.{inl, inr}
use Rattle.std.proofs.lemmas.Slice.{between_is}
use Rattle.text.specs.Text.{number_of}
use Rattle.console.specs.Inner.{NumbersRead}
use Rattle.console.proofs.FieldLaws.{numbers-none, numbers_more, numbers-spare, numbers-short, numbers-few, number-not, others-not, others-are}
use Rattle.console.proofs.fields.+read_numbers.Goals.{then-k-eq0-via-then-k-eq0, then-k-eq0-via-else-k-eq0+then-k-eq1}
use Rattle.console.proofs.fields.+read_numbers.Goals as goal

pub returns-then-k-eq0 : goal.returns-then-k-eq0
returns-then-k-eq0 t c = elim c.then-k-eq0.branch [
  | then-k-eq0-via-then-k-eq0 w ↦ numbers-none c.if-s-at.true w.if-k-eq0.true
  | then-k-eq0-via-else-k-eq0+then-k-eq1 w ↦
      let one : suc 0 ≡ c.args.k = omega (arith, w.if-k-eq1.true.1) in numbers-spare one c.if-s-at.true w.if-k-eq1.true.0 refl
]

pub returns-then-s-at : goal.returns-then-s-at
returns-then-s-at t c =
    let one : suc (c.args.k - 1) ≡ c.args.k = omega (arith, c.if-k-eq0.false) in
    elim c.if-k-eq1.either [
      | inl n ↦ numbers-few one c.if-s-at.true (λ z. n.1 (omega (arith, one, z)))
      | inr e ↦ numbers-short one c.if-s-at.true e
    ]

pub returns-then-k-eq0-2 : goal.returns-then-k-eq0-2
returns-then-k-eq0-2 t c = numbers_more c.if-s-at.false c.if-k-eq0-2.true

pub returns-in_err-n : goal.returns-in_err-n
returns-in_err-n t c =
    let one : suc (c.args.k - 1) ≡ c.args.k = omega arith in
    subst (NumbersRead _ _ _ _) (sym c.from_residual.ensures) (number-not one c.part_end-end.ensures
    (ap (number_of 10) (sym (between_is c.args.s.now c.args.at c.part_end-end.result)) ∙ sym c.in_err-n.ensures))

pub returns-in_err-others : goal.returns-in_err-others
returns-in_err-others t c =
    let one : suc (c.args.k - 1) ≡ c.args.k = omega arith in
    subst (NumbersRead _ _ _ _) (sym c.from_residual-in_err-others.ensures) (others-not one c.part_end-end.ensures
    (ap (number_of 10) (sym (between_is c.args.s.now c.args.at c.part_end-end.result)) ∙ sym c.in_ok-n.ensures) c.in_err-others.ensures refl)

pub returns : goal.returns
returns t c =
    let one : suc (c.args.k - 1) ≡ c.args.k = omega arith in
    others-are one c.part_end-end.ensures
    (ap (number_of 10) (sym (between_is c.args.s.now c.args.at c.part_end-end.result)) ∙ sym c.in_ok-n.ensures) c.in_ok-others.ensures refl
