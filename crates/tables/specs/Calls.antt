-- What every call on tables hands back: the outline's number and values, and the tables (OUTLINE, "Answer
-- numbers"). The calls' contracts cite these.
-- Assumes nothing.
use Rattle.std.specs.Prelude.{ℕ, true, false, List, [], ◌∷◌}
use Rattle.rules.specs.Answers.{number, values}
use Rattle.rules.specs.Requests.{Request}
use Rattle.rules.specs.Plans.{Event, Plan, number_of, values_of, events_of}
use Rattle.rules.specs.Keeper.{lists, asks, play, view}
use Rattle.rules.specs.Engine.{Reply, not_sound, made_by, ticked_by}
use Rattle.tables.specs.declared.Tables.{Tables}
use Rattle.tables.specs.declared.Outcome.{Outcome}
use Rattle.tables.specs.Tables.{plain, lay, freshly, clock_of}
use Rattle.tables.specs.Sound.{sound}

abbrev pub Result : Type 0
Result = Reply Tables

-- what a call's outcome says
abbrev pub told : Outcome → Result
told r = record { number = number r.answer; values = values r.answer; tables = r.tables }

-- What happens, played on the plain state and laid out. Where nothing happens, as in every refusal, the tables are those that were given.
abbrev pub laid : Tables → List Event → Tables
laid t [] = t
laid t (e ∷ es) = lay (play lists (e ∷ es) (plain t))

-- what a plan makes of sound tables; and a request
abbrev pub planned : Tables → Plan → Result
planned t x = record { number = number_of x; values = values_of x; tables = laid t (events_of (view lists (plain t)) x) }

unfoldable pub served : Tables → Request → Result
served t q = planned t (asks lists (plain t) q)

-- a request asked of any tables
unfoldable pub asked : Tables → Request → Result
asked t q = elim (sound t) [ true ↦ served t q | false ↦ not_sound t ]

-- TICK,n
abbrev pub many_ticks : Tables → ℕ → Result
many_ticks t n = ticked_by sound clock_of asked t n

-- FRESH, which takes no tables
abbrev pub made : ℕ → ℕ → ℕ → ℕ → Result
made T S R Y = made_by freshly T S R Y
