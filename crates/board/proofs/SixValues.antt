-- The six numbers of an answer: one that holds nothing has the value 0, and one that is no time has one value, and five 0 behind it.
-- Assumes nothing.
use Prim.Native.Nat.{ℕ}
use mathlib.Core.Path.{◌≡◌, refl}
use mathlib.Core.List.{List, [], ◌∷◌, ◌++◌}
use lib.ListN.{take, get_or, replicate}
use Rattle.clock.specs.declared.Time.{Time}
use Rattle.rules.specs.declared.Answer.{Answer}
use Rattle.rules.specs.declared.Answer.TheVariants.{Done, Told, Waits, NoCaller, NotAllowed, NoProgram, WrongState, NameInUse, AllUsed}
use Rattle.rules.specs.declared.Answer.TheVariants.{NoRoom, NotHolder, NotAllocated, AtCeiling, TooShort, NotUnderstood, NotSound, NotRead, InNeither}
use Rattle.rules.specs.Answers.{values}

-- the six numbers of an answer
abbrev pub six : Answer → List ℕ
six a = take 6 (values a ++ replicate {A = ℕ} 6 0)

-- an answer that holds nothing has the value 0, and one that is no time has one value, and five 0 behind it
pub first-none : (a : Answer) → ((v : ℕ) → a ≡ Done v → ⊥) → ((t : Time) → a ≡ Told t → ⊥) → ((s : ℕ) → a ≡ Waits s → ⊥)
    → ((s : ℕ) → a ≡ WrongState s → ⊥) → ((n : ℕ) → a ≡ TooShort n → ⊥) → ((n : ℕ) → a ≡ NotRead n → ⊥)
    → 0 ≡ get_or (values a) 0 0
first-none (Done v) d t w s h r = absurd (d v refl)
first-none (Told x) d t w s h r = absurd (t x refl)
first-none (Waits x) d t w s h r = absurd (w x refl)
first-none NoCaller d t w s h r = refl
first-none NotAllowed d t w s h r = refl
first-none NoProgram d t w s h r = refl
first-none (WrongState x) d t w s h r = absurd (s x refl)
first-none NameInUse d t w s h r = refl
first-none AllUsed d t w s h r = refl
first-none NoRoom d t w s h r = refl
first-none NotHolder d t w s h r = refl
first-none NotAllocated d t w s h r = refl
first-none AtCeiling d t w s h r = refl
first-none (TooShort n) d t w s h r = absurd (h n refl)
first-none NotUnderstood d t w s h r = refl
first-none NotSound d t w s h r = refl
first-none (NotRead n) d t w s h r = absurd (r n refl)
first-none InNeither d t w s h r = refl

pub six-one : (a : Answer) → ((t : Time) → a ≡ Told t → ⊥) → six a ≡ get_or (values a) 0 0 ∷ 0 ∷ 0 ∷ 0 ∷ 0 ∷ 0 ∷ []
six-one (Done v) h = refl
six-one (Told t) h = absurd (h t refl)
six-one (Waits s) h = refl
six-one NoCaller h = refl
six-one NotAllowed h = refl
six-one NoProgram h = refl
six-one (WrongState s) h = refl
six-one NameInUse h = refl
six-one AllUsed h = refl
six-one NoRoom h = refl
six-one NotHolder h = refl
six-one NotAllocated h = refl
six-one AtCeiling h = refl
six-one (TooShort n) h = refl
six-one NotUnderstood h = refl
six-one NotSound h = refl
six-one (NotRead n) h = refl
six-one InNeither h = refl
