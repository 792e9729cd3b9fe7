-- `writing::put_small` puts the two digits of a number from 10 to 99. Assumes nothing.
use mathlib.Core.Path.{◌∙◌, ap}
use mathlib.Core.List.{List, [], ◌∷◌, ◌++◌, append_assoc}
use Prim.Native.Nat.{ℕ, ◌+◌, ◌/◌, ◌%◌}
use Rattle.text.proofs.Laws.{decimal-two}
use Rattle.text.proofs.writing.put_small.Goals as goal

pub returns-then-n-lt100 : goal.returns-then-n-lt100
returns-then-n-lt100 g c =
    let n = c.args.n in
    rw (decimal-two n c.if-n-lt10.false c.if-n-lt100.true) (c.push-then-n-lt100-2.ensures.items
    ∙ ap (λ (l : List ℕ). l ++ (48 + n % 10) ∷ []) c.push-then-n-lt100.ensures.items
    ∙ append_assoc _ ((48 + n / 10) ∷ []) _)
