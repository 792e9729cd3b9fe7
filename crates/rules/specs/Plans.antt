-- What a request comes to: an answer, and what happens. Who wakes is read off
-- the chains of those who wait; how chains are kept is a keeper's concern.
-- Assumes nothing.
use Rattle.std.specs.Prelude.{ℕ, Bool, true, false, cond, ◌&&◌, List, [], ◌∷◌, ◌++◌, map, ltb, eqb}
use Rattle.std.proofs.Math.Option.{Option, none, some}
use Rattle.limits.specs.Limits.{general, disc}
use Rattle.lists.specs.Lists.{keep, remove}
use Rattle.records.specs.declared.Resource.{Resource}
use Rattle.records.specs.declared.Why.{Why}
use Rattle.records.specs.declared.Why.TheVariants.{Nothing, Tracks, Son, Lock, Number}
use Rattle.rules.specs.Book.{Book, why_of}

-- What may happen to a program's record: it takes a state for a reason, leaving its chain and entering
-- the new one; its wait is over: it is scheduled, or suspended where its mark stands; it is priced anew,
-- leaving its chain and entering it again; it is loaded; it is made unused; its timer is set, or goes where the due is 0; its mark is set.
pub data Deed : Type 0 where
  becomes : ℕ → Why → Deed
  wakes : Deed
  priced : ℕ → Deed
  loaded : List ℕ → ℕ → Deed
  unloaded : Deed
  timed : ℕ → ℕ → Deed
  marked : Deed

-- what may happen: a deed of a program, another clock, other holders of tracks, other resource numbers, fresh tables of T, S, R and a start year
pub data Event : Type 0 where
  on : ℕ → Deed → Event
  clocked : ℕ → Event
  held : List ℕ → Event
  numbered : List Resource → Event
  renewed : ℕ → ℕ → ℕ → ℕ → Event

-- What a call sets free (OUTLINE, "Ending and waking"): the program that ended, or 0; how
-- many tracks; which numbers were cleared or deallocated; whether one was deallocated.
pub record Release : Type 0 where
  pub ended : ℕ
  pub tracks : ℕ
  pub cleared : ℕ → Bool
  pub dealt : Bool

-- A refusal, with its number and value; or it is done, with its values; or it is done and sets
-- something free, and those wake who waited for that; or the caller now waits in a state.
pub data Plan : Type 0 where
  refused : ℕ → ℕ → Plan
  done : List ℕ → List Event → Plan
  releasing : List ℕ → List Event → Release → Plan
  waiting : ℕ → List Event → Plan

-- the number, the values, and what is set free
abbrev pub number_of : Plan → ℕ
number_of (refused a v) = a
number_of (done vs es) = 0
number_of (releasing vs es R) = 0
number_of (waiting s es) = 1

abbrev pub values_of : Plan → List ℕ
values_of (refused a v) = v ∷ []
values_of (done vs es) = vs
values_of (releasing vs es R) = vs
values_of (waiting s es) = s ∷ []

abbrev pub nothing : Release
nothing = record { ended = 0; tracks = 0; cleared = λ r. false; dealt = false }

abbrev pub release_of : Plan → Release
release_of (refused a v) = nothing
release_of (done vs es) = nothing
release_of (releasing vs es R) = R
release_of (waiting s es) = nothing

-- what a rule sees: the book, and the chain of each state
pub record View : Type 0 where
  pub book : Book
  pub chain : ℕ → List ℕ  -- of a state from 1 to 6, lowest first

-- the reason to wait in chain 3 is gone
abbrev pub awaits : Release → Why → Bool
awaits R Nothing = false
awaits R (Tracks n) = false
awaits R (Son k) = ltb 0 k && eqb k R.ended
awaits R (Lock r) = ltb 0 r && R.cleared r
awaits R Number = R.dealt

-- all of chain 5 if a track was freed, in chain order; the one that ended has left its chain
abbrev pub from_disc : View → Release → List ℕ
from_disc v R = cond (ltb 0 R.tracks) (remove R.ended (v.chain disc)) []

-- chain 3 is walked once: those whose reason is gone
abbrev pub from_general : View → Release → List ℕ
from_general v R = keep (λ q. awaits R (why_of v.book q)) (remove R.ended (v.chain general))

-- chain 5, then chain 3
unfoldable pub woken : View → Release → List ℕ
woken v R = from_disc v R ++ from_general v R

-- the woken leave their chains one by one, each for the scheduled chain or, where its mark stands, for that of the suspended
abbrev pub wake : List ℕ → List Event
wake qs = map (λ q. on q wakes) qs

-- what happens, the waking last
abbrev pub events_of : View → Plan → List Event
events_of v (refused a v') = []
events_of v (done vs es) = es
events_of v (releasing vs es R) = es ++ wake (woken v R)
events_of v (waiting s es) = es

-- x, where the test is passed, and else the refusal
unfoldable pub need : Bool → ℕ → ℕ → Plan → Plan
need true a v x = x
need false a v x = refused a v

unfoldable pub either : Bool → Plan → Plan → Plan
either true x y = x
either false x y = y

unfoldable pub found : Option ℕ → (ℕ → Plan) → Plan → Plan
found none f x = x
found (some i) f x = f i
