-- Two outcomes that say the same are the same. So a contract that says what an outcome says,
-- `told r ≡ asked t q`, determines answer, value and tables.
-- Assumes nothing.
use mathlib.Core.Path.{◌≡◌, sym, ap, ◌∙◌}
use Rattle.rules.proofs.shared.OneAnswer.{one_answer}
use Rattle.tables.specs.declared.Outcome.{Outcome}
use Rattle.tables.specs.Calls.{Result, told}

pub one-outcome : (r s : Outcome) → told r ≡ told s → r ≡ s
one-outcome r s e =
    let a : r.answer ≡ s.answer =
    one_answer r.answer s.answer (ap (λ (x : Result). x.number) e) (ap (λ (x : Result). x.values) e) in
    let t : r.tables ≡ s.tables = ap (λ (x : Result). x.tables) e in
    λ i. record { answer = a i; tables = t i }

-- two outcomes that satisfy a call's contract are equal
pub determined : (x : Result) (r s : Outcome) → told r ≡ x → told s ≡ x → r ≡ s
determined x r s e f = one-outcome r s (e ∙ sym f)
