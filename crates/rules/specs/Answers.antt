-- The outline's number and values for each case of an answer (OUTLINE, "Answer numbers").
-- Assumes nothing.
use Rattle.std.specs.Prelude.{ℕ, List, [], ◌∷◌}
use Rattle.clock.specs.Clock.{parts_of}
use Rattle.rules.specs.declared.Answer.{Answer}
use Rattle.rules.specs.declared.Answer.TheVariants.{Done, Told, Waits, NoCaller, NotAllowed, NoProgram, WrongState, NameInUse}
use Rattle.rules.specs.declared.Answer.TheVariants.{AllUsed, NoRoom, NotHolder, NotAllocated, AtCeiling, TooShort, NotUnderstood}
use Rattle.rules.specs.declared.Answer.TheVariants.{NotSound, NotRead, InNeither}

abbrev pub number : Answer → ℕ
number (Done v) = 0
number (Told t) = 0
number (Waits s) = 1
number NoCaller = 2
number NotAllowed = 3
number NoProgram = 4
number (WrongState s) = 5
number NameInUse = 6
number AllUsed = 7
number NoRoom = 8
number NotHolder = 9
number NotAllocated = 10
number AtCeiling = 11
number (TooShort n) = 12
number NotUnderstood = 13
number NotSound = 14
number (NotRead n) = 15
number InNeither = 17

-- one value, or the six parts of the time
abbrev pub values : Answer → List ℕ
values (Done v) = v ∷ []
values (Told t) = parts_of t
values (Waits s) = s ∷ []
values NoCaller = 0 ∷ []
values NotAllowed = 0 ∷ []
values NoProgram = 0 ∷ []
values (WrongState s) = s ∷ []
values NameInUse = 0 ∷ []
values AllUsed = 0 ∷ []
values NoRoom = 0 ∷ []
values NotHolder = 0 ∷ []
values NotAllocated = 0 ∷ []
values AtCeiling = 0 ∷ []
values (TooShort n) = n ∷ []
values NotUnderstood = 0 ∷ []
values NotSound = 0 ∷ []
values (NotRead n) = n ∷ []
values InNeither = 0 ∷ []
