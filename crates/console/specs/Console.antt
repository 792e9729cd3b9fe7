-- What a line does: 14 before 13 before the rest; a refused FRESH keeps the tables given to the line; only PAGE writes to the lent buffer
-- (OUTLINE, "Answer numbers" and "The page and the console line").
-- Assumes nothing.
use Rattle.std.specs.Prelude.{ℕ, true, false, List, [], ◌∷◌}
use Rattle.rules.specs.Engine.{Handed, not_sound, beside, Engine, ticked_in, paged_in}
use Rattle.tables.specs.declared.Tables.{Tables}
use Rattle.page.specs.Paging.{Written, linked}
use Rattle.console.specs.Line.{Line, bad, PAGE, asks, ticks, line_of}

module _ (E : Engine) where
  abbrev pub obeyed_in : E.Form → List ℕ → Line → Handed E.Form
  obeyed_in t buf bad = record { number = 13; values = 0 ∷ []; tables = t; buffer = buf }
  obeyed_in t buf PAGE = paged_in E t buf
  obeyed_in t buf (asks q) = beside buf (E.asked t q)
  obeyed_in t buf (ticks n) = beside buf (ticked_in E t n)

  unfoldable pub keyed_in : E.Form → List ℕ → List ℕ → Handed E.Form
  keyed_in t line buf = elim (E.sound t) [ true ↦ obeyed_in t buf (line_of line) | false ↦ beside buf (not_sound t) ]

-- the same of the code's tables
abbrev pub obeyed : Tables → List ℕ → Line → Written
obeyed t buf l = obeyed_in linked t buf l

abbrev pub keyed : Tables → List ℕ → List ℕ → Written
keyed t line buf = keyed_in linked t line buf
