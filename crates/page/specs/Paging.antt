-- PAGE of the code's tables: written at the front of the lent buffer, the rest untouched (OUTLINE, "The page and the console line").
-- Assumes nothing.
use Rattle.std.specs.Prelude.{List, ℕ}
use Rattle.rules.specs.Engine.{Handed, Engine, written_in, paged_in}
use Rattle.tables.specs.declared.Tables.{Tables}
use Rattle.tables.specs.Tables.{plain, freshly, clock_of}
use Rattle.tables.specs.Sound.{sound}
use Rattle.tables.specs.Calls.{asked}
use Rattle.page.specs.Page.{page}

-- what a call with a lent buffer hands back
abbrev pub Written : Type 0
Written = Handed Tables

-- the code's tables, which keep their chains as links
abbrev pub linked : Engine
linked = record {
  Form = Tables;
  sound = sound;
  clock = clock_of;
  asked = asked;
  fresh = freshly;
  page = λ t. page (plain t);
}

abbrev pub written : Tables → List ℕ → Written
written t buf = written_in linked t buf

abbrev pub paged : Tables → List ℕ → Written
paged t buf = paged_in linked t buf
