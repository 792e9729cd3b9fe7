-- The contracts of `print_block`, `carry` and `line_end` determine what is handed back and what the lent bytes are after it: two outcomes
-- that satisfy one are equal. Of `key_line` and `print_line` console/proofs/LineOutcome.antt says it.
-- Assumes nothing.
use Prim.Native.Nat.{ℕ}
use mathlib.Core.Path.{◌≡◌, sym, ap, ◌∙◌}
use mathlib.Core.List.{List}
use Rattle.tables.specs.declared.Tables.{Tables}
use Rattle.console.specs.Sheet.{line_end}
use Rattle.blocks.specs.declared.Turn as handed
use Rattle.blocks.specs.Blocks.{Turned, turned, Carried, carried}

pub block-determined : (t : Tables) (block : List ℕ) (at : ℕ) (out : List ℕ) (r s : handed.Turn) (b c : List ℕ)
    → record { tables = r.tables; place = r.place; used = r.used; buffer = b } ≡ turned t block at out
    → record { tables = s.tables; place = s.place; used = s.used; buffer = c } ≡ turned t block at out
    → (r ≡ s) × (b ≡ c)
block-determined t block at out r s b c e f = (
  ap (λ (x : Turned). record { tables = x.tables; place = x.place; used = x.used }) (e ∙ sym f),
  ap (λ (x : Turned). x.buffer) (e ∙ sym f),
)

pub carry-determined : (block : List ℕ) (from to m n : ℕ) (b c : List ℕ) → record { held = m; block = b } ≡ carried block from to
    → record { held = n; block = c } ≡ carried block from to
    → (m ≡ n) × (b ≡ c)
carry-determined block from to m n b c e f = (ap (λ (x : Carried). x.held) (e ∙ sym f), ap (λ (x : Carried). x.block) (e ∙ sym f))

pub end-determined : (block : List ℕ) (from m n : ℕ) → m ≡ line_end block from → n ≡ line_end block from → m ≡ n
end-determined block from m n e f = e ∙ sym f
