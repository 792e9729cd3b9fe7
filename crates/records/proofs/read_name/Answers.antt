-- `records::read_name` meets its contract. Assumes nothing.
use Rattle.std.proofs.Common.{◌∙◌, sym, ap, List, ℕ, ◌++◌, length, drop, replicate}
use Rattle.std.proofs.Math.Option.{some}
use Rattle.records.specs.Names.{legal}
use Rattle.records.proofs.NameBytes.{name-long, name-blank, name-bytes}
use Rattle.records.proofs.read_name.Goals.{then-s-gt5-via-then-s-gt5, then-s-gt5-via-else-s-gt5+then-contains}
use Rattle.records.proofs.read_name.Goals as goal

pub returns-then-s-gt5 : goal.returns-then-s-gt5
returns-then-s-gt5 c =
    elim c.then-s-gt5.branch [
      | then-s-gt5-via-then-s-gt5 w ↦ sym (name-long c.args.s.now w.if-s-gt5.true)
      | then-s-gt5-via-else-s-gt5+then-contains w ↦ sym (name-blank c.args.s.now (sym w.contains.ensures.value ∙ w.if-contains.true))
    ]

pub returns-then-not-is_legal : goal.returns-then-not-is_legal
returns-then-not-is_legal c =
    let s = c.args.s.now in
    sym (name-bytes s _ (sym c.contains.ensures.value ∙ c.if-contains.false)
    (ap (λ (f : List ℕ). legal (f ++ drop (length s) (replicate 5 32))) (sym c.copy_from_slice.ensures.after) ∙ sym c.is_legal.ensures ∙ c.if-not-is_legal.true))

pub returns : goal.returns
returns c =
    let s = c.args.s.now in
    ap (λ (f : List ℕ). some (f ++ drop (length s) (replicate 5 32))) c.copy_from_slice.ensures.after
    ∙ sym (name-bytes s _ (sym c.contains.ensures.value ∙ c.if-contains.false)
    (ap (λ (f : List ℕ). legal (f ++ drop (length s) (replicate 5 32))) (sym c.copy_from_slice.ensures.after) ∙ sym c.is_legal.ensures ∙ c.if-not-is_legal.false))
