-- A request that is refused has a number of the outline's list, 2 to 14, and leaves the state as it
-- was: for every request, under any keeper.
-- A plan that is a refusal holds no events, so nothing can happen; its number is read off the rules by the one walk over them.
-- Assumes nothing.
use Prim.Native.Nat.{◌≤◌}
use native.Mathlib.Omega.{arith}
use mathlib.Core.Path.{◌≡◌, refl, ap, subst}
use mathlib.Core.List.{List, [], ◌∷◌}
use Rattle.lists.proofs.Tests.{up_to-true}
use Rattle.rules.specs.Requests.{Request}
use Rattle.rules.specs.Plans.{Plan, refused, done, releasing, waiting, View, number_of, events_of}
use Rattle.rules.specs.Rules.{plan}
use Rattle.rules.specs.Keeper.{Keeper, State, play, view, asks}
use Rattle.rules.proofs.shared.Parts.{Listed, plan-of}
use Rattle.rules.proofs.Statements.{Answered, runs}

plan-listed : (v : View) (q : Request) → Listed (plan v q)
plan-listed v q =
    (plan-of (λ p d. Unit {0}) (Unit {0}) v q (record { fresh = λ T S R Y e. tt; party = λ x h y d. tt })).number

listed-highest : (x : Plan) → Listed x → number_of x ≤ 11
listed-highest (refused a v) h = (up_to-true 2 11 a h).1
listed-highest (done vs es) h = omega arith
listed-highest (releasing vs es R) h = omega arith
listed-highest (waiting s es) h = omega arith

refusal-nothing : (v : View) (x : Plan) → 2 ≤ number_of x → events_of v x ≡ []
refusal-nothing v (refused a n) h = refl
refusal-nothing v (done vs es) h = absurd (omega arith)
refusal-nothing v (releasing vs es R) h = absurd (omega arith)
refusal-nothing v (waiting s es) h = absurd (omega arith)

pub answered : (K : Keeper) (t : State K) (q : Request) → Answered K t q
answered K t q =
    let listed : Listed (asks K t q) = plan-listed (view K t) q in
    record {
      highest = listed-highest (asks K t q) listed;
      lowest = λ a v e. (up_to-true 2 11 a (subst Listed e listed)).0;
      nothing = refusal-nothing (view K t) (asks K t q);
      stays = λ h. ap (λ (es : List _). play K es t) (refusal-nothing (view K t) (asks K t q) h);
    }

-- a run goes on after a refusal as if it had not been asked
pub refused-run : (K : Keeper) (t : State K) (q : Request) (qs : List Request) → 2 ≤ number_of (asks K t q) → runs K t (q ∷ qs) ≡ runs K t qs
refused-run K t q qs h = ap (λ (u : State K). runs K u qs) ((answered K t q).stays h)
