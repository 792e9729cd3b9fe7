-- Two outcomes of PAGE, each with its buffer, that say the same are the same. So the contract of `write_page`
-- determines answer, value, tables and buffer.
-- Assumes nothing.
use Prim.Native.Nat.{ℕ}
use mathlib.Core.Path.{◌≡◌, sym, ap, ◌∙◌}
use mathlib.Core.List.{List}
use Rattle.tables.specs.declared.Tables.{Tables}
use Rattle.tables.specs.declared.Outcome.{Outcome}
use Rattle.tables.specs.Calls.{Result, told}
use Rattle.tables.proofs.OneOutcome.{determined}
use Rattle.rules.specs.Engine.{beside}
use Rattle.page.specs.Paging.{Written, paged}

-- what is handed back besides the buffer
abbrev result : Written → Result
result w = record { number = w.number; values = w.values; tables = w.tables }

pub page-determined : (t : Tables) (buf : List ℕ) (r s : Outcome) (b c : List ℕ) → beside b (told r) ≡ paged t buf
    → beside c (told s) ≡ paged t buf
    → (r ≡ s) × (b ≡ c)
page-determined t buf r s b c e f =
    (determined (result (paged t buf)) r s (ap result e) (ap result f), ap (λ (w : Written). w.buffer) (e ∙ sym f))
