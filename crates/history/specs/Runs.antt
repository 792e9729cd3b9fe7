-- Runs of calls on an engine: requests, TICK,n, PAGE with any buffer, console lines of any bytes (demand 3). Each step is the definition that the
-- call's contract cites; FRESH, which takes no tables, lets the run go on with those it had where it is refused. A run begins with FRESH or
-- with the reading of a page.
-- Assumes nothing.
use Rattle.std.specs.Prelude.{ℕ, cond, List, [], ◌∷◌, eqb}
use Rattle.rules.specs.Requests.{Request, FRESH, LOAD, operator, TICK, running}
use Rattle.rules.specs.Engine.{Reply, Handed, beside, made_by, Engine, ticked_in, paged_in}
use Rattle.tables.specs.declared.Tables.{Tables}
use Rattle.tables.specs.Calls.{made}
use Rattle.reader.specs.Reading.{reading}
use Rattle.console.specs.Console.{keyed_in}

-- WHAT BEGINS A RUN: FRESH of some sizes and a year, or the reading of a page. Neither takes tables; a reading is no call within a run.
pub data Beginning : Type 0 where
  fresh : ℕ → ℕ → ℕ → ℕ → Beginning  -- T, S, R, the start year
  read : List ℕ → Beginning  -- the page's bytes

-- the tables that it yields: the smallest where FRESH or the reading is refused
unfoldable pub begins : Beginning → Tables
begins (fresh T S R Y) = (made T S R Y).tables
begins (read s) = (reading s).tables

-- a call of a run, with the buffer that is lent to it
pub data Made : Type 0 where
  request : Request → Made
  ticks : ℕ → Made  -- TICK,n
  page : List ℕ → Made  -- the buffer
  line : List ℕ → List ℕ → Made  -- the line's bytes, the buffer

abbrev pub lent_to : Made → List ℕ
lent_to (request q) = []
lent_to (ticks n) = []
lent_to (page buf) = buf
lent_to (line bytes buf) = buf

module _ (E : Engine) where
  -- an accepted FRESH begins the history again; after a refused one the run goes on with the tables it had
  abbrev pub begun : E.Form → Reply E.Form → Reply E.Form
  begun t r = record { number = r.number; values = r.values; tables = cond (eqb r.number 0) r.tables t }

  abbrev pub requested : E.Form → Request → Reply E.Form
  requested t (FRESH T S R Y) = begun t (made_by E.fresh T S R Y)
  requested t (LOAD nm n) = E.asked t (LOAD nm n)
  requested t (operator o nm) = E.asked t (operator o nm)
  requested t TICK = E.asked t TICK
  requested t (running c) = E.asked t (running c)

  unfoldable pub step : E.Form → Made → Handed E.Form
  step t (request q) = beside [] (requested t q)
  step t (ticks n) = beside [] (ticked_in E t n)
  step t (page buf) = paged_in E t buf
  step t (line bytes buf) = keyed_in E t bytes buf

  -- the tables after a run, and what each of its calls handed back
  unfoldable pub run : E.Form → List Made → E.Form
  run t [] = t
  run t (c ∷ cs) = run (step t c).tables cs

  unfoldable pub outcomes : E.Form → List Made → List (Handed E.Form)
  outcomes t [] = []
  outcomes t (c ∷ cs) = step t c ∷ outcomes (step t c).tables cs
