-- The contracts of `judge` and `key_lines` determine what is handed back: two outcomes that satisfy one are equal.
-- Assumes nothing.
use Prim.Native.Nat.{ℕ}
use mathlib.Core.Path.{◌≡◌, sym, ◌∙◌}
use mathlib.Core.List.{List}
use Rattle.tables.specs.declared.Tables.{Tables}
use Rattle.blocks.specs.Blocks.{tables_after}
use Rattle.following.specs.declared.judging.Verdict as handed
use Rattle.following.specs.Following.{verdict, briefly}

pub judge-determined : (first : List ℕ) (ls : List (List ℕ)) (next : List ℕ) (r s : handed.Verdict) → r ≡ briefly (verdict first ls next)
    → s ≡ briefly (verdict first ls next) → r ≡ s
judge-determined first ls next r s e f = e ∙ sym f

pub keyed-determined : (t : Tables) (ls : List (List ℕ)) (r s : Tables) → r ≡ tables_after t ls → s ≡ tables_after t ls → r ≡ s
keyed-determined t ls r s e f = e ∙ sym f
