-- What a case of the bench is: tables at the start, and steps with what the outline says of each. A case is told anew by computing every
-- step through the definitions that the calls' contracts cite, soundness, the plain state and its laying out included.
-- Assumes nothing.
use Rattle.std.specs.Prelude.{ℕ, Bool, List, [], ◌∷◌, get_or, replicate}
use Prim.Native.String.{String}
use Rattle.text.specs.Text.{text}
use Rattle.rules.specs.Requests.{Request}
use Rattle.rules.specs.Book.{at}
use Rattle.rules.specs.Test.{son_of}
use Rattle.tables.specs.declared.Tables.{Tables}
use Rattle.tables.specs.Tables.{plain}
use Rattle.page.specs.Paging.{Written, linked}
use Rattle.console.specs.Sheet.{sheet}
use Rattle.history.specs.Runs.{request, ticks, page, line, step}

pub data Step : Type 0 where
  key : String → ℕ → List ℕ → Step  -- a console line, its number and values
  ask : Request → ℕ → List ℕ → Step  -- a request with parameters that no line carries
  many : ℕ → ℕ → List ℕ → Step  -- TICK,n as a call, its number and values
  chain : ℕ → List ℕ → Step  -- the chain of a state
  noted : ℕ → ℕ → ℕ → ℕ → ℕ → Step  -- a program: its state, the son it awaits, its due and interval
  mark : ℕ → Bool → Step  -- whether a program's mark stands
  clock : ℕ → Step
  written : ℕ → ℕ → List ℕ → List ℕ → Step  -- PAGE with a buffer of so many zeros: its number and values, and the buffer after it

pub record Case : Type 0 where
  pub start : Tables
  pub steps : List Step

-- what `sheet` prints for a text
pub record Printed : Type 0 where
  pub typed : String
  pub prints : List ℕ

pub record Bench : Type 0 where
  pub cases : List Case
  pub sheets : List Printed

unfoldable pub tell : Tables → List Step → List Step
tell t [] = []
tell t (key s a vs ∷ ss) = let r : Written = step linked t (line (text s) []) in key s r.number r.values ∷ tell r.tables ss
tell t (ask q a vs ∷ ss) = let r : Written = step linked t (request q) in ask q r.number r.values ∷ tell r.tables ss
tell t (many n a vs ∷ ss) = let r : Written = step linked t (ticks n) in many n r.number r.values ∷ tell r.tables ss
tell t (chain s c ∷ ss) = chain s (get_or (plain t).kept s []) ∷ tell t ss
tell t (noted p s k d i ∷ ss) =
    noted p (at (plain t).book p).state (son_of (at (plain t).book p).why) (at (plain t).book p).due (at (plain t).book p).interval
    ∷ tell t ss
tell t (mark p m ∷ ss) = mark p (at (plain t).book p).suspend ∷ tell t ss
tell t (clock c ∷ ss) = clock (plain t).book.clock ∷ tell t ss
tell t (written n a vs buf ∷ ss) =
    let r : Written = step linked t (page (replicate n 0)) in
    written n r.number r.values r.buffer ∷ tell r.tables ss

unfoldable pub tell_all : List Case → List Case
unfolding tell
tell_all [] = []
tell_all (c ∷ cs) = record { start = c.start; steps = tell c.start c.steps } ∷ tell_all cs

unfoldable pub print_all : List Printed → List Printed
print_all [] = []
print_all (s ∷ ss) = record { typed = s.typed; prints = sheet (text s.typed) } ∷ print_all ss

unfoldable pub told_anew : Bench → Bench
unfolding tell_all print_all
told_anew b = record { cases = tell_all b.cases; sheets = print_all b.sheets }
