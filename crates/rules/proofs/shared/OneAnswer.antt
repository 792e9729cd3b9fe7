-- Two answers with the same number and the same values are the same case: a number and values tell the case that has them.
-- Assumes nothing.
use Prim.Native.Nat.{ℕ}
use mathlib.Core.Path.{◌≡◌, refl, sym, ◌∙◌}
use mathlib.Core.Bool.{cond}
use mathlib.Core.List.{List, [], ◌∷◌}
use lib.ListN.{get_or}
use lib.Dec.{eqb}
use Rattle.rules.specs.declared.Answer.{Answer}
use Rattle.rules.specs.declared.Answer.TheVariants.{Done, Told, Waits, NoCaller, NotAllowed, NoProgram}
use Rattle.rules.specs.declared.Answer.TheVariants.{WrongState, NameInUse, AllUsed, NoRoom, NotHolder}
use Rattle.rules.specs.declared.Answer.TheVariants.{NotAllocated, AtCeiling, TooShort, NotUnderstood, NotSound, NotRead, InNeither}
use Rattle.rules.specs.Answers.{number, values}

-- done with a value, or with a time
abbrev done_with : List ℕ → Answer
done_with [] = NotSound
done_with (v ∷ []) = Done v
done_with (y ∷ d ∷ []) = NotSound
done_with (y ∷ d ∷ h ∷ []) = NotSound
done_with (y ∷ d ∷ h ∷ m ∷ []) = NotSound
done_with (y ∷ d ∷ h ∷ m ∷ s ∷ []) = NotSound
done_with (y ∷ d ∷ h ∷ m ∷ s ∷ c ∷ vs) = Told (record { year = y; day = d; hour = h; minute = m; second = s; hundredth = c })

-- the case of a number and its values
abbrev case_of : ℕ → List ℕ → Answer
case_of n vs =
    cond (eqb n 0) (done_with vs)
    (cond (eqb n 1) (Waits (get_or vs 0 0))
    (cond (eqb n 2) NoCaller
    (cond (eqb n 3) NotAllowed
    (cond (eqb n 4) NoProgram
    (cond (eqb n 5) (WrongState (get_or vs 0 0))
    (cond (eqb n 6) NameInUse
    (cond (eqb n 7) AllUsed
    (cond (eqb n 8) NoRoom
    (cond (eqb n 9) NotHolder
    (cond (eqb n 10) NotAllocated
    (cond (eqb n 11) AtCeiling
    (cond (eqb n 12) (TooShort (get_or vs 0 0))
    (cond (eqb n 13) NotUnderstood
    (cond (eqb n 14) NotSound
    (cond (eqb n 15) (NotRead (get_or vs 0 0)) InNeither)))))))))))))))

case-is : (a : Answer) → case_of (number a) (values a) ≡ a
case-is (Done v) = refl
case-is (Told t) = refl
case-is (Waits s) = refl
case-is NoCaller = refl
case-is NotAllowed = refl
case-is NoProgram = refl
case-is (WrongState s) = refl
case-is NameInUse = refl
case-is AllUsed = refl
case-is NoRoom = refl
case-is NotHolder = refl
case-is NotAllocated = refl
case-is AtCeiling = refl
case-is (TooShort n) = refl
case-is NotUnderstood = refl
case-is NotSound = refl
case-is (NotRead n) = refl
case-is InNeither = refl

pub one_answer : (a b : Answer) → number a ≡ number b → values a ≡ values b → a ≡ b
one_answer a b n v = sym (case-is a) ∙ (λ i. case_of (n i) (v i)) ∙ case-is b
