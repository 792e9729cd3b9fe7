-- Whether one sheet can follow another (OUTLINE, "Whether a sheet follows").
-- Assumes nothing.
use Rattle.std.specs.Prelude.{ℕ, ◌≡◌, cond, List, get_or, eqb}
use Rattle.lists.specs.Lists.{alike}
use Rattle.tables.specs.declared.Tables.{Tables}
use Rattle.tables.specs.Tables.{plain}
use Rattle.tables.specs.Calls.{Result}
use Rattle.page.specs.Page.{page}
use Rattle.reader.specs.Reading.{reading}
use Rattle.blocks.specs.Blocks.{tables_after}
use Rattle.following.specs.declared.judging.Verdict as told
use Rattle.following.specs.declared.judging.Verdict.TheVariants as tell
use Rattle.following.specs.Differences.{Difference, differences}

-- a page, lines and a page follow: the first is read, the lines are obeyed one after another from its tables, and the page then written is
-- the next, byte for byte
pub record Follow (first : List ℕ) (ls : List (List ℕ)) (next : List ℕ) : Type 0 where
  pub read : (reading first).number ≡ 0
  pub written : page (plain (tables_after (reading first).tables ls)) ≡ next

-- the verdict: the first is no page, or the next is none, each with the value of its refusal; the next follows; or it does not, and so the
-- two pages differ
pub data Verdict : Type 0 where
  no_first no_next : ℕ → Verdict
  follows : Verdict
  does_not_follow : List Difference → Verdict

-- the value of a page that is not read
abbrev pub refused_at : Result → ℕ
refused_at r = get_or r.values 0 0

-- what was written, held against the sheet
unfoldable pub compared : List ℕ → List ℕ → Verdict
compared written sheet = cond (alike written sheet) follows (does_not_follow (differences sheet written))

-- what tables t write, held against the next page
unfoldable pub held_against : Tables → List ℕ → Verdict
held_against t next = cond (eqb (reading next).number 0) (compared (page (plain t)) next) (no_next (refused_at (reading next)))

-- the first page is tested before the next
unfoldable pub verdict : List ℕ → List (List ℕ) → List ℕ → Verdict
verdict first ls next =
    cond (eqb (reading first).number 0) (held_against (tables_after (reading first).tables ls) next) (no_first (refused_at (reading first)))

-- the verdict as a call hands it back, without the differences
abbrev pub briefly : Verdict → told.Verdict
briefly (no_first n) = tell.NoFirst n
briefly (no_next n) = tell.NoNext n
briefly follows = tell.Follows
briefly (does_not_follow ds) = tell.DoesNotFollow

-- a step: a file of requests, and the next page
pub record Step : Type 0 where
  pub requests : List ℕ
  pub next : List ℕ
