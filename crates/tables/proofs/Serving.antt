-- What a call hands back: the events of its plan played on the plain state, laid out. And the test of soundness decides between 14 and the rule.
-- Assumes nothing.
use mathlib.Core.Path.{◌≡◌, refl, sym, ap, ◌∙◌}
use mathlib.Core.Bool.{true, false}
use mathlib.Core.List.{List, [], ◌∷◌}
use Rattle.rules.specs.declared.Answer.TheVariants.{NotSound}
use Rattle.rules.specs.Requests.{Request}
use Rattle.rules.specs.Plans.{Event}
use Rattle.rules.specs.Keeper.{lists, asks, play}
use Rattle.tables.specs.declared.Tables.{Tables}
use Rattle.tables.specs.Tables.{plain, lay}
use Rattle.tables.specs.Sound.{sound}
use Rattle.tables.specs.Calls.{told, laid, planned, served, asked}
use Rattle.tables.specs.Inner.{Says}
use Rattle.tables.proofs.Orderly.{orderly-lay}

-- something happens
abbrev pub Happens : List Event → Type 0
Happens [] = ⊥
Happens (e ∷ es) = Unit {0}

pub laid-says : (t r : Tables) (es : List Event) → Happens es → Says r (play lists es (plain t)) → r ≡ laid t es
laid-says t r [] h S = absurd h
laid-says t r (e ∷ es) h S = sym (orderly-lay r S.orderly) ∙ ap lay S.state

-- a request comes to its plan
pub served-planned : (t : Tables) (q : Request) → served t q ≡ planned t (asks lists (plain t) q)
unfolding served
served-planned t q = refl

-- the test comes first
pub asked-sound : (t : Tables) (q : Request) → sound t ≡ true → asked t q ≡ served t q
unfolding asked
asked-sound t q e = rw (e, asked)

pub asked-unsound : (t : Tables) (q : Request) → sound t ≡ false → told (record { answer = NotSound; tables = t }) ≡ asked t q
unfolding asked
asked-unsound t q e = rw (e, asked)
