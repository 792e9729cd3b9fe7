-- The public calls and their parameters (OUTLINE, "Operator requests", "Calls of the running program"). A name is five bytes.
-- TICK,n is no request but so many TICKs (Engine.antt).
-- Assumes nothing.
use Rattle.std.specs.Prelude.{ℕ, Bool, List}

-- what the operator asks of a program by its name
pub data Order : Type 0 where
  RU SS GO : Order
  PR : ℕ → Order  -- the new priority
  OF : ℕ → Order  -- 1 or 8

-- what the running program asks; w is 0 to wait, 1 to be told
pub data Call : Type 0 where
  EXEC4 EXEC15 : ℕ → ℕ → Call  -- n, w
  EXEC5 EXEC16 : ℕ → ℕ → Call  -- n, start
  EXEC5ALL EXEC6 EXEC7 EXEC11 : Call
  EXEC9 EXEC10 : List ℕ → Call  -- name
  EXEC12 : List ℕ → ℕ → ℕ → ℕ → Call  -- name, resolution, multiple, offset
  ALLOC : Bool → ℕ → Call  -- globally or not, w
  LOCK : ℕ → ℕ → Call  -- r, w
  CLEAR FREE : ℕ → Call  -- r

pub data Request : Type 0 where
  FRESH : ℕ → ℕ → ℕ → ℕ → Request  -- T, S, R, the start year
  LOAD : List ℕ → ℕ → Request  -- name, priority
  operator : Order → List ℕ → Request  -- of the program of that name
  TICK : Request
  running : Call → Request
