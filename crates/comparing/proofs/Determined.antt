-- The contract of `show_verdict` determines what is handed back and what the lent buffer is after it: two outcomes that satisfy it are
-- equal.
-- Assumes nothing.
use mathlib.Core.Path.{◌≡◌}
use mathlib.Core.List.{List}
use Prim.Native.Nat.{ℕ}
use Rattle.rules.specs.Engine.{beside}
use Rattle.tables.specs.declared.Tables.{Tables}
use Rattle.tables.specs.declared.Outcome.{Outcome}
use Rattle.tables.specs.Calls.{told}
use Rattle.console.proofs.LineOutcome.{written-determined}
use Rattle.comparing.specs.Verdicts.{verdict_shown}

pub verdict-determined : (t : Tables) (name next out : List ℕ) (r s : Outcome) (b c : List ℕ)
    → beside b (told r) ≡ verdict_shown t name next out → beside c (told s) ≡ verdict_shown t name next out → (r ≡ s) × (b ≡ c)
verdict-determined t name next out = written-determined (verdict_shown t name next out)
