-- Two outcomes, each with its buffer, that say the same are the same. So the contracts of `key_line` and `print_line`
-- determine answer, value, tables and buffer.
-- Assumes nothing.
use Prim.Native.Nat.{ℕ}
use mathlib.Core.Path.{◌≡◌, sym, ap, ◌∙◌}
use mathlib.Core.Bool.{Bool}
use mathlib.Core.List.{List}
use Rattle.tables.specs.declared.Tables.{Tables}
use Rattle.tables.specs.declared.Outcome.{Outcome}
use Rattle.tables.specs.Sound.{sound}
use Rattle.tables.specs.Calls.{Result, told}
use Rattle.tables.proofs.OneOutcome.{determined}
use Rattle.rules.specs.Engine.{beside}
use Rattle.page.specs.Paging.{Written}
use Rattle.console.specs.Console.{keyed}
use Rattle.console.specs.Sheet.{line_shown}

-- what is handed back besides the buffer
abbrev result : Written → Result
result w = record { number = w.number; values = w.values; tables = w.tables }

pub written-determined : (w : Written) (r s : Outcome) (b c : List ℕ) → beside b (told r) ≡ w → beside c (told s) ≡ w → (r ≡ s) × (b ≡ c)
written-determined w r s b c e f = (determined (result w) r s (ap result e) (ap result f), ap (λ (v : Written). v.buffer) (e ∙ sym f))

pub line-determined : (t : Tables) (l buf : List ℕ) (r s : Outcome) (b c : List ℕ) → beside b (told r) ≡ keyed t l buf
    → beside c (told s) ≡ keyed t l buf → (r ≡ s) × (b ≡ c)
line-determined t l buf = written-determined (keyed t l buf)

pub print-determined : (t : Tables) (l out : List ℕ) (r s : Outcome) (b c : List ℕ) → beside b (told r) ≡ line_shown t l out
    → beside c (told s) ≡ line_shown t l out → (r ≡ s) × (b ≡ c)
print-determined t l out = written-determined (line_shown t l out)

-- the test of soundness
pub test-determined : (t : Tables) (r s : Bool) → r ≡ sound t → s ≡ sound t → r ≡ s
test-determined t r s e f = e ∙ sym f
