-- What the code's requests say.
-- Assumes nothing.
use Rattle.rules.specs.declared.Order.{Order}
use Rattle.rules.specs.declared.Order.TheVariants.{Ru, Ss, Go, Pr, Of}
use Rattle.rules.specs.declared.Call.{Call}
use Rattle.rules.specs.declared.Call.TheVariants.{Exec4, Exec15, Exec5, Exec16, Exec5All, Exec6, Exec7, Exec11, Exec9, Exec10}
use Rattle.rules.specs.declared.Call.TheVariants.{Exec12, Alloc, Lock, Clear, Free}
use Rattle.rules.specs.declared.Request.{Request}
use Rattle.rules.specs.declared.Request.TheVariants.{Fresh, Load, Operator, Tick, Running}
use Rattle.rules.specs.Requests as requests

abbrev pub the_order : Order → requests.Order
the_order Ru = requests.RU
the_order Ss = requests.SS
the_order Go = requests.GO
the_order (Pr n) = requests.PR n
the_order (Of k) = requests.OF k

abbrev pub the_call : Call → requests.Call
the_call (Exec4 n w) = requests.EXEC4 n w
the_call (Exec15 n w) = requests.EXEC15 n w
the_call (Exec5 n start) = requests.EXEC5 n start
the_call (Exec16 n start) = requests.EXEC16 n start
the_call Exec5All = requests.EXEC5ALL
the_call Exec6 = requests.EXEC6
the_call Exec7 = requests.EXEC7
the_call Exec11 = requests.EXEC11
the_call (Exec9 nm) = requests.EXEC9 nm
the_call (Exec10 nm) = requests.EXEC10 nm
the_call (Exec12 nm res mult off) = requests.EXEC12 nm res mult off
the_call (Alloc global w) = requests.ALLOC global w
the_call (Lock r w) = requests.LOCK r w
the_call (Clear r) = requests.CLEAR r
the_call (Free r) = requests.FREE r

abbrev pub the_request : Request → requests.Request
the_request (Fresh T S R Y) = requests.FRESH T S R Y
the_request (Load nm n) = requests.LOAD nm n
the_request (Operator o nm) = requests.operator (the_order o) nm
the_request Tick = requests.TICK
the_request (Running c) = requests.running (the_call c)
