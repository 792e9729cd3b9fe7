-- Every plan, once over all rules: its events are about the caller, the program named, those due or those woken, and
-- a refusal has a number from the list.
-- What is asked of an event, P, and of fresh tables, F, is left open; so the frame, the programs' numbers and
-- the refusals each cite this one walk.
-- Assumes nothing.
use Prim.Native.Nat.{ℕ, ◌≤◌}
use native.Mathlib.Omega.{arith}
use mathlib.Core.Path.{◌≡◌, refl, sym, ap, ◌∙◌}
use mathlib.Core.Bool.{Bool, true, false, cond}
use mathlib.Core.List.{List, [], ◌∷◌, ◌++◌, append-nil, map}
use lib.Dec.{eqb}
use borrow.Author.Tests.{ltb-true}
use Rattle.lists.specs.Lists.{count, keep, up_to, join}
use Rattle.lists.proofs.Laws.{same_refl, keep-in, count-remove-le}
use Rattle.records.specs.declared.Program.{Program}
use Rattle.records.specs.declared.Why.{Why}
use Rattle.records.specs.declared.Why.TheVariants.{Nothing}
use Rattle.records.specs.Records.{Known, all, find, lowest_unused}
use Rattle.rules.specs.Book.{at}
use Rattle.rules.specs.Requests.{Order, RU, SS, GO, PR, OF, Call, EXEC4, EXEC15, EXEC5, EXEC16, EXEC5ALL, EXEC6, EXEC7, EXEC11, EXEC9}
use Rattle.rules.specs.Requests.{EXEC10, EXEC12, ALLOC, LOCK, CLEAR, FREE, Request, FRESH, LOAD, operator, TICK, running}
use Rattle.rules.specs.Plans.{Deed, becomes, wakes, timed, unloaded, Event, on, clocked, held, numbered, renewed, Plan, refused, done}
use Rattle.rules.specs.Plans.{releasing, waiting, nothing, release_of, View, events_of, Release, woken, wake}
use Rattle.rules.specs.Rules.{waits, dismissed, order, due_at, ticked, takes, gives, call, head, plan}
use Rattle.rules.specs.Keeper.{Keeper, State, step, play}
use Rattle.rules.specs.Frame.{Party, calls, takes-name, ordered, son, started, due, Woken, tracks-freed, reason-gone}
use Rattle.rules.specs.Frame as party
use Rattle.rules.proofs.shared.Places.{all_in}
use Rattle.rules.proofs.shared.Walk.{Refuses, by-need, by-either, by-found, by-named, by-inside, by-allocated, by-caller, by-waits}
use Rattle.rules.proofs.shared.Ordering.{woken-none, woken-from}

-- what each event does is of a kind: P of a deed of a program, F of fresh tables
abbrev pub Upon : (ℕ → Deed → Type 0) → Type 0 → List Event → Type 0
Upon P F [] = Unit {0}
Upon P F (on p d ∷ es) = P p d × Upon P F es
Upon P F (clocked c ∷ es) = Upon P F es
Upon P F (held h ∷ es) = Upon P F es
Upon P F (numbered r ∷ es) = Upon P F es
Upon P F (renewed T S R Y ∷ es) = F × Upon P F es

pub upon-map : (P Q : ℕ → Deed → Type 0) (F G : Type 0) → ((p : ℕ) (d : Deed) → P p d → Q p d) → (F → G) → (es : List Event) → Upon P F es
    → Upon Q G es
upon-map P Q F G f g [] u = tt
upon-map P Q F G f g (on p d ∷ es) u = (f p d u.0, upon-map P Q F G f g es u.1)
upon-map P Q F G f g (clocked c ∷ es) u = upon-map P Q F G f g es u
upon-map P Q F G f g (held h ∷ es) u = upon-map P Q F G f g es u
upon-map P Q F G f g (numbered r ∷ es) u = upon-map P Q F G f g es u
upon-map P Q F G f g (renewed T S R Y ∷ es) u = (g u.0, upon-map P Q F G f g es u.1)

-- a deed of a program is of the kind P, or it is a waking by what was set free
pub data By (v : View) (P : ℕ → Deed → Type 0) (R : Release) (p : ℕ) (d : Deed) : Type 0 where
  as-party : P p d → By v P R p d
  as-woken : d ≡ wakes → Woken v R p → By v P R p d

-- the events of a plan but its wakings; its events are these, and then the wakings
abbrev pub own_of : Plan → List Event
own_of (refused a v) = []
own_of (done vs es) = es
own_of (releasing vs es R) = es
own_of (waiting s es) = es

pub in_two : (v : View) (x : Plan) → events_of v x ≡ own_of x ++ wake (woken v (release_of x))
in_two v (refused a y) = ap wake (sym (woken-none v))
in_two v (done vs es) = sym (ap (λ (c : List ℕ). es ++ wake c) (woken-none v) ∙ append-nil es)
in_two v (releasing vs es R) = refl
in_two v (waiting s es) = sym (ap (λ (c : List ℕ). es ++ wake c) (woken-none v) ∙ append-nil es)

pub play-append : (K : Keeper) (es fs : List Event) (t : State K) → play K (es ++ fs) t ≡ play K fs (play K es t)
play-append K [] fs t = refl
play-append K (e ∷ es) fs t = play-append K es fs (step K e t)

-- a refusal's number is one of 2 to 11
abbrev pub Listed : Plan → Type 0
Listed (refused a v) = up_to 2 11 a ≡ true
Listed (done vs es) = Unit {0}
Listed (releasing vs es R) = Unit {0}
Listed (waiting s es) = Unit {0}

pub record Of (P : ℕ → Deed → Type 0) (F : Type 0) (v : View) (x : Plan) : Type 0 where
  pub events : Upon (By v P (release_of x)) F (events_of v x)
  pub own : Upon P F (own_of x)
  pub number : Listed x

-- what is asked holds of those who have to do with the request
pub record About (v : View) (q : Request) (P : ℕ → Deed → Type 0) (F : Type 0) : Type 0 where
  pub fresh : (T S R Y : ℕ) → q ≡ FRESH T S R Y → F
  pub party : (x : ℕ) → 1 ≤ x → Party v x q → (d : Deed) → P x d

-- those that a request wakes waited, and their reason is gone
pub woken-waits : (v : View) (R : Release) (x : ℕ) → 1 ≤ count x (woken v R) → Woken v R x
woken-waits v R x h =
    woken-from v R x (Woken v R x) h (λ t k. tracks-freed t (omega (arith, count-remove-le x R.ended (v.chain 5))))
    (λ w k. reason-gone w (omega (arith, count-remove-le x R.ended (v.chain 3))))

upon-append : (P : ℕ → Deed → Type 0) (F : Type 0) (es fs : List Event) → Upon P F es → Upon P F fs → Upon P F (es ++ fs)
upon-append P F [] fs u w = w
upon-append P F (on p d ∷ es) fs u w = (u.0, upon-append P F es fs u.1 w)
upon-append P F (clocked c ∷ es) fs u w = upon-append P F es fs u w
upon-append P F (held c ∷ es) fs u w = upon-append P F es fs u w
upon-append P F (numbered c ∷ es) fs u w = upon-append P F es fs u w
upon-append P F (renewed T S R Y ∷ es) fs u w = (u.0, upon-append P F es fs u.1 w)

module _ (P : ℕ → Deed → Type 0) (F : Type 0) (v : View) where
  upon-wake : (R : Release) (c : List ℕ) → ((x : ℕ) → 1 ≤ count x c → Woken v R x) → Upon (By v P R) F (wake c)
  upon-wake R [] f = tt
  upon-wake R (q ∷ qs) f = (as-woken refl (f q (omega (arith, same_refl q))), upon-wake R qs (λ x h. f x (omega arith)))

  upon-each : (f : ℕ → List Event) (c : List ℕ) → ((x : ℕ) → 1 ≤ count x c → Upon P F (f x)) → Upon P F (join (map f c))
  upon-each f [] g = tt
  upon-each f (q ∷ qs) g =
      upon-append P F (f q) (join (map f qs)) (g q (omega (arith, same_refl q))) (upon-each f qs (λ x h. g x (omega arith)))

  upon-ticked : (p : ℕ) (r : Program) → ((d : Deed) → P p d) → Upon P F (ticked p r)
  upon-ticked p r h = (h _, go (eqb r.state 0))
    where
      go : (x : Bool) → Upon P F (cond x (on p (becomes 1 Nothing) ∷ []) [])
      go true = (h _, tt)
      go false = tt

  upon-dismissed : (k p : ℕ) → ((d : Deed) → P p d) → Upon P F (dismissed k p)
  upon-dismissed k p h = go (eqb k 8)
    where
      go : (x : Bool) → Upon P F (cond x (on p unloaded ∷ []) (on p (becomes 0 Nothing) ∷ on p (timed 0 0) ∷ []))
      go true = (h _, tt)
      go false = (h _, (h _, tt))

  -- the parts of rules
  of-party : (R : Release) (es : List Event) → Upon P F es → Upon (By v P R) F es
  of-party R = upon-map P (By v P R) F F (λ p d. as-party) (λ f. f)

  of-done : (vs : List ℕ) (es : List Event) → Upon P F es → Of P F v (done vs es)
  of-done vs es u = record { events = of-party nothing es u; own = u; number = tt }

  of-waiting : (s : ℕ) (es : List Event) → Upon P F es → Of P F v (waiting s es)
  of-waiting s es u = record { events = of-party nothing es u; own = u; number = tt }

  of-releasing : (vs : List ℕ) (es : List Event) (R : Release) → Upon P F es → Of P F v (releasing vs es R)
  of-releasing vs es R u = record {
    events = upon-append (By v P R) F es (wake (woken v R)) (of-party R es u) (upon-wake R (woken v R) (woken-waits v R));
    own = u;
    number = tt;
  }

  fails : Refuses (Of P F v)
  fails = record { listed = λ a n l. record { events = tt; own = tt; number = l } }

  of-waits : (c w s : ℕ) (y : Why) → ((d : Deed) → P c d) → Of P F v (waits c w s y)
  of-waits c w s y h = by-waits fails _ _ _ _ (of-waiting _ _ (h _, tt))

  of-takes : (c h n w : ℕ) → ((d : Deed) → P c d) → Of P F v (takes v c h n w)
  unfolding takes
  of-takes c h n w k = by-need fails _ _ _ _ refl (λ t. by-found fails _ _ _ (λ i e. of-done _ _ tt) (of-waits _ _ _ _ k))

  of-gives : (h n start : ℕ) → Of P F v (gives v h n start)
  unfolding gives
  of-gives h n start = by-need fails _ _ _ _ refl (λ t. by-need fails _ _ _ _ refl (λ t. of-releasing _ _ _ tt))

  -- the rules
  order-of : (o : Order) (p : ℕ) → ((d : Deed) → P p d) → Of P F v (order v o p)
  unfolding order
  order-of RU p h = by-inside fails _ _ _ _ (λ s. of-done _ _ (h _, tt))
  order-of SS p h =
      by-either fails _ _ _ (λ w. by-either fails _ _ _ (λ m. of-done _ _ tt) (of-done _ _ (h _, tt)))
      (by-inside fails _ _ _ _ (λ s. of-done _ _ (h _, tt)))
  order-of GO p h = by-inside fails _ _ _ _ (λ s. of-done _ _ (h _, tt))
  order-of (PR n) p h = of-done _ _ (h _, tt)
  order-of (OF k) p h = of-releasing _ _ _ (upon-append P F (dismissed k p) _ (upon-dismissed k p h) tt)

  abbrev caller : ℕ
  caller = head (v.chain 1)

  call-of : (q : Call) → 1 ≤ caller → ((x : ℕ) → 1 ≤ x → Party v x (running q) → (d : Deed) → P x d) → Of P F v (call v caller q)
  unfolding call
  call-of (EXEC4 n w) l f = of-takes _ _ _ _ (f caller l (calls _ refl))
  call-of (EXEC15 n w) l f = of-takes _ _ _ _ (f caller l (calls _ refl))
  call-of (EXEC5 n s) l f = of-gives _ _ _
  call-of (EXEC16 n s) l f = of-gives _ _ _
  call-of EXEC5ALL l f = of-releasing _ _ _ tt
  call-of EXEC6 l f = of-releasing _ _ _ (f caller l (calls _ refl) _, tt)
  call-of EXEC7 l f = of-done _ _ (f caller l (calls _ refl) _, tt)
  call-of EXEC11 l f = of-done _ _ tt
  call-of (EXEC9 nm) l f =
      by-named fails _ _ _ (λ i. by-inside fails _ _ _ _ (λ s. of-waiting _ _ (f _ i (son nm refl) _, (f caller l (calls _ refl) _, tt))))
  call-of (EXEC10 nm) l f = by-named fails _ _ _ (λ i. by-inside fails _ _ _ _ (λ s. of-done _ _ (f _ i (started nm refl) _, tt)))
  call-of (EXEC12 nm r m o) l f =
      by-need fails _ _ _ _ refl (λ t. by-named fails _ _ _ (λ i. of-done _ _ (f _ i (party.timed nm r m o refl) _, tt)))
  call-of (ALLOC g w) l f =
      by-need fails _ _ _ _ refl (λ t. by-either fails _ _ _ (λ e. of-done _ _ tt) (of-waits _ _ _ _ (f caller l (calls _ refl))))
  call-of (LOCK r w) l f =
      by-need fails _ _ _ _ refl (λ t. by-allocated fails _ _ _ (λ h k m. by-either fails _ _ _ (λ e. of-done _ _ tt)
      (by-either fails _ _ _ (λ e. of-done _ _ tt) (of-waits _ _ _ _ (f caller l (calls _ refl))))))
  call-of (CLEAR r) l f = by-allocated fails _ _ _
      (λ h k m. by-either fails _ _ _ (λ e. of-done _ _ tt) (by-need fails _ _ _ _ refl (λ t. of-releasing _ _ _ tt)))
  call-of (FREE r) l f = by-allocated fails _ _ _ (λ h k m. by-need fails _ _ _ _ refl (λ t. of-releasing _ _ _ tt))

pub plan-of : (P : ℕ → Deed → Type 0) (F : Type 0) (v : View) (q : Request) → About v q P F → Of P F v (plan v q)
unfolding plan
plan-of P F v (FRESH T S R Y) A = by-need (fails P F v) _ _ _ _ refl (λ t. of-done P F v _ _ (A.fresh T S R Y refl, tt))
plan-of P F v (LOAD nm n) A =
    by-need (fails P F v) _ _ _ _ refl (λ t. by-need (fails P F v) _ _ _ _ refl (λ t. by-need (fails P F v) _ _ _ _ refl
    (λ e. of-done P F v _ _ (A.party _ (ltb-true 0 (lowest_unused v.book.programs) e) (takes-name nm n refl) _, tt))))
plan-of P F v (operator o nm) A =
    by-need (fails P F v) _ _ _ _ refl
    (λ t. by-named (fails P F v) _ _ _ (λ i. order-of P F v o (find v.book.programs nm) (A.party _ i (ordered o nm refl))))
plan-of P F v TICK A =
    by-need (fails P F v) _ _ _ _ refl
    (λ t. of-done P F v _ _ (upon-each P F v (λ p. ticked p (at v.book p)) (keep (due_at v.book) all)
    (λ x h.
    let k = keep-in (due_at v.book) x all h in
    let X : Known x = all_in x k.1 in
    upon-ticked P F v x (at v.book x) (A.party x X.0 (due X k.0)))))
plan-of P F v (running r) A = by-caller (fails P F v) _ _ (λ l. call-of P F v r l A.party)
