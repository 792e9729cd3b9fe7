-- What happens under the rules happens to programs numbered 1 to 32, where the chains hold such programs only:
-- so the test in `step` is never failed.
-- A caller stands in the scheduled chain, a program named was found among all, and the woken stand in chains 3 and 5.
-- Assumes nothing.
use Prim.Native.Nat.{ℕ, ◌≤◌}
use native.Mathlib.Omega.{arith}
use mathlib.Core.Path.{◌≡◌, refl, subst}
use mathlib.Core.Bool.{Bool, true, false, cond}
use mathlib.Core.List.{List, []}
use lib.ListN.{get_or}
use Rattle.lists.specs.Lists.{count, up_to}
use Rattle.lists.proofs.Tests.{up_to-true}
use Rattle.records.specs.Records.{Known, find}
use Rattle.rules.specs.Requests.{Request}
use Rattle.rules.specs.Plans.{Deed, View, Release, release_of, events_of}
use Rattle.rules.specs.Rules.{head, plan}
use Rattle.rules.specs.Keeper.{lists, State, view}
use Rattle.rules.specs.Sound.{Chains}
use Rattle.rules.specs.Frame.{Party, calls, takes-name, ordered, son, started, timed, due, Woken, tracks-freed, reason-gone}
use Rattle.rules.proofs.shared.Finding.{find-bears, unused-known, head_in}
use Rattle.rules.proofs.shared.Parts.{Upon, upon-map, By, as-party, as-woken, About, plan-of}

-- the chains that a rule sees hold known programs only
pub record Seen (v : View) : Type 0 where
  pub within : (s x : ℕ) → 1 ≤ count x (v.chain s) → Known x

module _ (v : View) (S : Seen v) where
  found : (nm : List ℕ) (x : ℕ) → 1 ≤ x → find v.book.programs nm ≡ x → Known x
  found nm x l e = subst Known e (find-bears v.book.programs nm (omega (arith, e))).known

  party-known : (q : Request) (x : ℕ) → 1 ≤ x → Party v x q → Known x
  party-known q x l (calls r e) = subst Known e (S.within 1 (head (v.chain 1)) (head_in (v.chain 1) (omega (arith, e))))
  party-known q x l (takes-name nm n e) = subst Known e (unused-known v.book.programs (omega (arith, e)))
  party-known q x l (ordered o nm e) = found nm x l e
  party-known q x l (son nm e) = found nm x l e
  party-known q x l (started nm e) = found nm x l e
  party-known q x l (timed nm r m o e) = found nm x l e
  party-known q x l (due X e) = X

  woken-known : (R : Release) (x : ℕ) → Woken v R x → Known x
  woken-known R x (tracks-freed h k) = S.within 5 x k
  woken-known R x (reason-gone h k) = S.within 3 x k

  deed-known : (R : Release) (x : ℕ) (d : Deed) → By v (λ p d. Known p) R x d → Known x
  deed-known R x d (as-party k) = k
  deed-known R x d (as-woken e w) = woken-known R x w

  -- each event of a plan that is about a program is about one of 1 to 32
  pub plan-known : (q : Request) → Upon (λ p d. Known p) (Unit {0}) (events_of v (plan v q))
  plan-known q =
      let about : About v q (λ p d. Known p) (Unit {0}) = record { fresh = λ T S R Y e. tt; party = λ x l y d. party-known q x l y } in
      upon-map (By v (λ p d. Known p) (release_of (plan v q))) (λ p d. Known p) (Unit {0}) (Unit {0})
      (deed-known (release_of (plan v q))) (λ f. f)
      (events_of v (plan v q)) (plan-of (λ p d. Known p) (Unit {0}) v q about).events

-- chains in order are such chains
pub chained-seen : (a : State lists) → Chains a.book a.kept → Seen (view lists a)
chained-seen a C = record { within = λ s x. go s x (up_to 1 6 s) refl }
  where
    go : (s x : ℕ) (b : Bool) → up_to 1 6 s ≡ b → 1 ≤ count x (cond b (get_or a.kept s []) []) → Known x
    go s x true e h = let l = up_to-true 1 6 s e in C.within s x l.0 (omega (arith, l.1)) h
    go s x false e h = absurd (omega arith)
