-- `text::read_number` meets its contract. Each answer is a case of `number_of`. Assumes nothing.
use native.Mathlib.Omega.{arith}
use mathlib.Core.Path.{◌≡◌, sym, ap, ◌∙◌}
use lib.ListN.{length}
use lib.Seq.{slice}
use Rattle.std.proofs.lemmas.List.{take_all}
use Rattle.text.specs.Text.{horner, number_of}
use Rattle.text.proofs.Read.{number_of-none, number_of-long, number_of-zero, number_of-plain, horner-stop}
use Rattle.text.proofs.read_number.Goals.{Joined-else-n-gt1, then-n-eq0-via-then-n-eq0, then-n-eq0-via-else-n-eq0+then-most-n}
use Rattle.text.proofs.read_number.Goals.{else-n-gt1-via-then-n-gt1+else-s-eq48, else-n-gt1-via-else-n-gt1}
use Rattle.text.proofs.read_number.Goals as goal

pub returns-then-n-eq0 : goal.returns-then-n-eq0
returns-then-n-eq0 c = elim c.then-n-eq0.branch [
  | then-n-eq0-via-then-n-eq0 w ↦ sym (number_of-none c.args.most c.args.s.now w.if-n-eq0.true)
  | then-n-eq0-via-else-n-eq0+then-most-n w ↦ sym (number_of-long c.args.most c.args.s.now w.if-most-n.true)
]

pub returns-then-s-eq48 : goal.returns-then-s-eq48
returns-then-s-eq48 c = sym (number_of-zero c.args.most c.args.s.now c.if-n-gt1.true c.if-s-eq48.true)

-- past the tests of length and first byte the digits are what counts
plain : (c : Joined-else-n-gt1) → number_of c.args.most c.args.s.now ≡ horner 0 c.args.s.now
plain c = number_of-plain c.args.most c.args.s.now (omega (arith, c.if-n-eq0.false)) c.if-most-n.false (λ l z. elim c.else-n-gt1.branch [
  | else-n-gt1-via-then-n-gt1+else-s-eq48 w ↦ w.if-s-eq48.false z
  | else-n-gt1-via-else-n-gt1 w ↦ omega (arith, w.if-n-gt1.false)
])

whole : (c : Joined-else-n-gt1) → slice 0 (length c.args.s.now) c.args.s.now ≡ c.args.s.now
whole c = take_all (length c.args.s.now) c.args.s.now (omega arith)

pub returns-then-digits-n : goal.returns-then-digits-n
returns-then-digits-n c =
    let b = (goal.at.returns-then-digits-n c).Joined-else-n-gt1 in
    let s = c.args.s.now in
    let e = c.digits_from-digits.ensures in
    sym (plain b ∙ ap (horner 0) (sym (whole b)) ∙ horner-stop s 0 c.digits_from-digits.result.end c.digits_from-digits.result.value e.low e.value
    (length s) c.if-digits-n.true (omega arith) (e.stops c.if-digits-n.true (omega arith)))

pub returns : goal.returns
returns c =
    let b = (goal.at.returns c).Joined-else-n-gt1 in
    let s = c.args.s.now in
    let e : c.digits_from-digits.result.end ≡ length s = omega (arith, c.digits_from-digits.ensures.high) in
    sym (plain b ∙ ap (horner 0) (sym (whole b)) ∙ rw e at c.digits_from-digits.ensures.value)
