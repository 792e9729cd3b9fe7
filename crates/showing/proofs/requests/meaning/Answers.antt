-- `requests::meaning` meets its contract: in each arm the answer is known, and so is what its number means. Assumes nothing.
use mathlib.Core.Path.{◌≡◌, sym, ap}
use mathlib.Core.Logic.{inl, inr}
use Rattle.rules.specs.declared.Answer.{Answer}
use Rattle.rules.specs.Answers.{number}
use Rattle.showing.specs.Inner.{meant}
use Rattle.showing.proofs.requests.meaning.Goals as goal

-- by what the answer is
by : {a b : Answer} → a ≡ b → meant (number b) ≡ meant (number a)
by e = ap (λ (x : Answer). meant (number x)) (sym e)

pub returns-in-NoCaller : goal.returns-in-NoCaller
returns-in-NoCaller c = by c.in-NoCaller.is

pub returns-in-NotAllowed : goal.returns-in-NotAllowed
returns-in-NotAllowed c = by c.in-NotAllowed.is

pub returns-in-NoProgram : goal.returns-in-NoProgram
returns-in-NoProgram c = by c.in-NoProgram.is

pub returns-in-WrongState : goal.returns-in-WrongState
returns-in-WrongState c = by c.in-WrongState.is

pub returns-in-NameInUse : goal.returns-in-NameInUse
returns-in-NameInUse c = by c.in-NameInUse.is

pub returns-in-AllUsed : goal.returns-in-AllUsed
returns-in-AllUsed c = by c.in-AllUsed.is

pub returns-in-NoRoom : goal.returns-in-NoRoom
returns-in-NoRoom c = by c.in-NoRoom.is

pub returns-in-NotHolder : goal.returns-in-NotHolder
returns-in-NotHolder c = by c.in-NotHolder.is

pub returns-in-NotAllocated : goal.returns-in-NotAllocated
returns-in-NotAllocated c = by c.in-NotAllocated.is

pub returns-in-AtCeiling : goal.returns-in-AtCeiling
returns-in-AtCeiling c = by c.in-AtCeiling.is

pub returns-in-TooShort : goal.returns-in-TooShort
returns-in-TooShort c = by c.in-TooShort.is

pub returns-in-NotUnderstood : goal.returns-in-NotUnderstood
returns-in-NotUnderstood c = by c.in-NotUnderstood.is

pub returns-in-NotSound : goal.returns-in-NotSound
returns-in-NotSound c = by c.in-NotSound.is

pub returns-in-Done : goal.returns-in-Done
returns-in-Done c = elim c.in-Done.is [
  | inl d ↦ by d.1
  | inr n ↦ elim n [
    | inl t ↦ by t.1
    | inr n ↦ elim n [
      | inl w ↦ by w.1
      | inr n ↦ elim n [ inl r ↦ by r.1 | inr o ↦ by o ]
    ]
  ]
]
