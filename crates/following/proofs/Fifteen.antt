-- An answer that is not that of a page which is not read does not have the number 15.
-- Assumes nothing.
use Prim.Native.Nat.{ℕ}
use mathlib.Core.Path.{◌≡◌, refl}
use mathlib.Core.Bool.{false}
use lib.Dec.{eqb}
use Rattle.rules.specs.declared.Answer.{Answer}
use Rattle.rules.specs.declared.Answer.TheVariants.{Done, Told, Waits, NoCaller, NotAllowed, NoProgram, WrongState, NameInUse, AllUsed}
use Rattle.rules.specs.declared.Answer.TheVariants.{NoRoom, NotHolder, NotAllocated, AtCeiling, TooShort}
use Rattle.rules.specs.declared.Answer.TheVariants.{NotUnderstood, NotSound, NotRead, InNeither}
use Rattle.rules.specs.Answers.{number}

pub not-fifteen : (a : Answer) → ((n : ℕ) → a ≡ NotRead n → ⊥) → eqb (number a) 15 ≡ false
not-fifteen (Done v) h = refl
not-fifteen (Told t) h = refl
not-fifteen (Waits s) h = refl
not-fifteen NoCaller h = refl
not-fifteen NotAllowed h = refl
not-fifteen NoProgram h = refl
not-fifteen (WrongState s) h = refl
not-fifteen NameInUse h = refl
not-fifteen AllUsed h = refl
not-fifteen NoRoom h = refl
not-fifteen NotHolder h = refl
not-fifteen NotAllocated h = refl
not-fifteen AtCeiling h = refl
not-fifteen (TooShort n) h = refl
not-fifteen NotUnderstood h = refl
not-fifteen NotSound h = refl
not-fifteen (NotRead n) h = absurd (h n refl)
not-fifteen InNeither h = refl
