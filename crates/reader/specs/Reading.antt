-- A page read back: exactly the bytes that the writer makes from some sound tables are read (OUTLINE, "Reading a page").
-- Assumes nothing.
use Rattle.std.specs.Prelude.{ℕ, zero, suc, Bool, true, false, ◌&&◌, List, [], ◌∷◌}
use Rattle.lists.specs.Lists.{alike}
use Rattle.text.specs.Text.{parts}
use Rattle.tables.specs.declared.Tables.{Tables}
use Rattle.tables.specs.Tables.{plain, lay, smallest}
use Rattle.tables.specs.Sound.{sound}
use Rattle.tables.specs.Calls.{Result}
use Rattle.page.specs.Page.{page}
use Rattle.reader.specs.Order.{page_ahead, first_bad}
use Rattle.reader.specs.Said.{said}

-- read: 0, value 0, and the tables; not read: 15, the line, and the smallest tables
abbrev pub was_read : Tables → Result
was_read t = record { number = 0; values = 0 ∷ []; tables = t }

abbrev pub not_read : ℕ → Result
not_read n = record { number = 15; values = n ∷ []; tables = smallest }

-- tables t write these bytes, and are sound
unfoldable pub writes : Tables → List ℕ → Bool
writes t s = sound t && alike (page (plain t)) s

-- where all lines are well formed, what they say is read if it is sound and is written as these bytes
abbrev pub judged : List ℕ → ℕ → Tables → Result
judged s zero t = elim (writes t s) [ true ↦ was_read t | false ↦ not_read 0 ]
judged s (suc n) t = not_read (suc n)

unfoldable pub reading : List ℕ → Result
unfolding writes
reading s = judged s (first_bad page_ahead 1 (parts 10 s)) (lay (said (parts 10 s)))
