-- What the steps of a call make of tables in order: a program's record replaced, with links that lay out the chains
-- of the step, says what the step says.
-- That tables stay in order is the two keepers' likeness, taken over step by step; the deeds follow by computation.
-- Assumes nothing.
use Prim.Native.Nat.{ℕ, zero, suc, ◌<◌}
use native.Mathlib.Omega.{arith}
use native.Mathlib.Decide.{ℕ_discrete}
use mathlib.Core.Path.{◌≡◌, refl, sym, ap, ◌∙◌, subst}
use mathlib.Core.Logic.{◌≢◌}
use mathlib.Core.Bool.{Bool, true, false, cond}
use mathlib.Core.List.{List, [], ◌∷◌}
use lib.ListN.{get_or, set}
use lib.Seq.{get_or-set_other}
use lib.Dec.{eqb}
use borrow.Author.Tests.{eq-eqb, ne_eqb, eqb-false}
use Rattle.lists.specs.Lists.{same, count, insert, remove}
use Rattle.lists.proofs.Laws.{same_refl, same-ne}
use Rattle.records.specs.declared.Program.{Program}
use Rattle.records.specs.declared.Why.{Why}
use Rattle.records.specs.declared.Why.TheVariants.{Nothing}
use Rattle.records.specs.Records.{Known, unused, newcomer, in_state, wait_over, with_priority, with_timer, with_mark}
use Rattle.rules.specs.Book.{at, state_of, prio_of, put}
use Rattle.rules.specs.Plans.{Deed, becomes, wakes, priced, loaded, unloaded, timed, marked, on}
use Rattle.rules.specs.Keeper.{lists, entries, State, leave, enter, amend, act, step}
use Rattle.rules.specs.Replay.{Accounts}
use Rattle.rules.proofs.shared.Places.{known_is, put-long}
use Rattle.rules.proofs.keepers.Alike.{Alike, state-same, state-other, amend-alike, leave-alike, enter-alike, left-state}
use Rattle.rules.proofs.keepers.Notes.{alike-accounts, accounts-alike}
use Rattle.chains.specs.Links.{read, total}
use Rattle.chains.specs.Inner.{Laid, entered, left, prio_in, CanEnter, CanLeave}
use Rattle.chains.proofs.Totals.{total-some}
use Rattle.chains.proofs.Reading.{laid-read, laid-self, length-read}
use Rattle.tables.specs.declared.Tables.{Tables}
use Rattle.tables.specs.Tables.{plain}
use Rattle.tables.specs.Inner.{Orderly, Says, Played, CanTurn, CanJoin, CanAmend, with_record}

-- the tables with other links
abbrev pub relinked : List ℕ → Tables → Tables
relinked l t = record { ledger = t.ledger; links = l }

-- the replay of tables in order
abbrev replay : (t : Tables) → Orderly t → State entries
replay t O = record { book = (plain t).book; kept = O.notes }

replay-alike : (t : Tables) (O : Orderly t) → Alike (plain t) (replay t O)
replay-alike t O = accounts-alike (plain t) O.notes O.long (length-read t.links) O.accounts

module _ (t : Tables) (O : Orderly t) (p : ℕ) (P : Known p) (x : Program) (h : x.state < 7) where
  abbrev turn : List (List ℕ) → State lists
  turn k = record { book = put p x (plain t).book; kept = k }

  turn-states : (z : ℕ) → Known z → state_of (put p x (plain t).book) z < 7
  turn-states z Z = go (ℕ_discrete z p)
    where
      go : Dec (z ≡ p) → state_of (put p x (plain t).book) z < 7
      go (yes e) = rw e (omega (arith, state-same (plain t).book O.long p P x))
      go (no n) = omega (arith, state-other (plain t).book O.long p P x z Z n, O.states z Z)

  turn-says : (l : List ℕ) (k : List (List ℕ)) (u : State entries) → Laid l k → get_or k 0 [] ≡ [] → Alike (turn k) u
      → Says (relinked l (with_record p x t)) (turn k)
  turn-says l k u L d A = record {
    orderly = record {
      laid = laid-self L;
      dormant = rw (laid-read L) d;
      long = put-long (plain t).book p x O.long;
      states = turn-states;
      tracks = O.tracks;
      numbers = O.numbers;
      notes = u.kept;
      accounts = subst (λ (m : List (List ℕ)). Accounts (turn m) u.kept) (sym (laid-read L)) (alike-accounts (turn k) u A);
    };
    state = ap turn (laid-read L);
  }

-- the chain of state 0 stays empty
cond-dormant : (m : List (List ℕ)) (s : ℕ) (c : List ℕ) → get_or m 0 [] ≡ [] → get_or (cond (eqb s 0) m (set m s c)) 0 [] ≡ []
cond-dormant m s c d = go (eqb s 0) refl
  where
    go : (b : Bool) → eqb s 0 ≡ b → get_or (cond b m (set m s c)) 0 [] ≡ []
    go true e = d
    go false e = get_or-set_other m s 0 c [] (λ z. eqb-false s 0 e (sym z)) ∙ d

-- p's record is replaced
pub amended-says : (t : Tables) (p : ℕ) (x : Program) → CanAmend t p x → Says (with_record p x t) (amend lists p x (plain t))
amended-says t p x C =
    let O = C.orderly in
    turn-says t O p C.known x (omega (arith, C.state, O.states p C.known)) t.links (read t.links)
    (amend entries p x (replay t O))
    O.laid O.dormant (amend-alike p C.known (plain t) O.notes x (replay-alike t O) C.state C.priority)

-- p leaves
left-says : (t : Tables) (p : ℕ) → CanTurn t p → (l : List ℕ) → Laid l (leave lists p (plain t)).kept
    → Says (relinked l (with_record p (in_state 0 Nothing (at (plain t).book p)) t)) (leave lists p (plain t))
left-says t p C l L =
    let O = C.orderly in
    turn-says t O p C.known (in_state 0 Nothing (at (plain t).book p)) (omega arith) l (leave lists p (plain t)).kept
    (leave entries p (replay t O)) L
    (cond-dormant (read t.links) (state_of (plain t).book p) (remove p (get_or (read t.links) (state_of (plain t).book p) []))
    O.dormant)
    (leave-alike p C.known (plain t) O.notes (replay-alike t O))

module _ (t : Tables) (p : ℕ) (C : CanTurn t p) where
  -- it stands in the chain of its state
  pub can-leave : state_of (plain t).book p ≢ 0 → CanLeave t.links (state_of (plain t).book p) p
  can-leave n =
      let O = C.orderly in
      let s = state_of (plain t).book p in
      let h : s < 7 = O.states p C.known in
      record { laid = O.laid; state = h; there = omega (arith, (O.accounts.fits s (omega arith) h).member p C.known, same_refl s) }

  module _ (g : Program) (G : g ≡ in_state 0 Nothing (at (plain t).book p)) where
    pub left-none : state_of (plain t).book p ≡ 0 → Says (with_record p g t) (leave lists p (plain t))
    left-none e =
        subst (λ (y : Program). Says (with_record p y t) (leave lists p (plain t))) (sym G)
        (left-says t p C t.links (rw (eq-eqb (state_of (plain t).book p) 0 e) C.orderly.laid))

    pub left-some : (l : List ℕ) → state_of (plain t).book p ≢ 0 → Laid l (left (state_of (plain t).book p) p (read t.links))
        → Says (relinked l (with_record p g t)) (leave lists p (plain t))
    left-some l n L =
        subst (λ (y : Program). Says (relinked l (with_record p y t)) (leave lists p (plain t))) (sym G)
        (left-says t p C l (rw (ne_eqb (state_of (plain t).book p) 0 n) L))

-- p enters: it can, since it is in no chain
pub can-enter : (t : Tables) (p s : ℕ) → CanJoin t p s → CanEnter t.links s p
can-enter t p s C = record { laid = O.laid; state = C.state; low = C.known.0; high = C.known.1; out = out (total p m) refl }
  where
    O : Orderly t
    O = C.orderly

    m : List (List ℕ)
    m = read t.links

    none : (k : ℕ) → k < 7 → Dec (k ≡ 0) → count p (get_or m k []) ≡ 0
    none k h (yes e) = rw (e, O.dormant)
    none k h (no n) = (O.accounts.fits k (omega arith) h).member p C.known ∙ ap (λ (x : ℕ). same x k) C.out
        ∙ same-ne 0 k (λ e. n (sym e))

    out : (n : ℕ) → total p m ≡ n → total p m ≡ 0
    out zero e = e
    out (suc n) e =
        let w = total-some p m (omega arith) in
        absurd (omega (arith, w.2, none w.0 (omega (arith, w.1, length-read t.links)) (ℕ_discrete w.0 0)))

entered-says : (t : Tables) (p : ℕ) (x : Program) → CanJoin t p x.state → (l : List ℕ) → Laid l (enter lists p x (plain t)).kept
    → Says (relinked l (with_record p x t)) (enter lists p x (plain t))
entered-says t p x C l L =
    let O = C.orderly in
    turn-says t O p C.known x C.state l (enter lists p x (plain t)).kept (enter entries p x (replay t O)) L
    (cond-dormant (read t.links) x.state (insert (prio_of (put p x (plain t).book)) p (get_or (read t.links) x.state []))
    O.dormant)
    (enter-alike p C.known x (plain t) O.notes (replay-alike t O) C.out)

module _ (t : Tables) (p : ℕ) (x : Program) (C : CanJoin t p x.state) where
  pub entered-none : x.state ≡ 0 → Says (with_record p x t) (enter lists p x (plain t))
  entered-none e = entered-says t p x C t.links (rw (eq-eqb x.state 0 e) C.orderly.laid)

  pub entered-some : (l : List ℕ) → x.state ≢ 0
      → Laid l (entered (prio_in (with_record p x t).ledger.programs) x.state p (read t.links))
      → Says (relinked l (with_record p x t)) (enter lists p x (plain t))
  entered-some l n L = entered-says t p x C l (rw (ne_eqb x.state 0 n) L)

-- the deeds: a step on a known program is its act
pub says-as : {r : Tables} {a b : State lists} → a ≡ b → Says r a → Says r b
says-as e S = record { orderly = S.orderly; state = S.state ∙ e }

pub act-step : (p : ℕ) → Known p → (d : Deed) (a : State lists) → act lists p d a ≡ step lists (on p d) a
unfolding step
act-step p P d a = rw (known_is p P)

-- where a wait that is over leads is a state
over-state : (r : Program) → (wait_over r).state < 7
over-state r = go r.suspend
  where
    go : (mark : Bool) → cond mark 6 1 < 7
    go true = omega arith
    go false = omega arith

-- p has left
module _ (t u : Tables) (p : ℕ) (C : CanTurn t p) (S : Says u (leave lists p (plain t))) where
  out : state_of (plain u).book p ≡ 0
  out = ap (λ (a : State lists). state_of a.book p) S.state ∙ left-state p C.known (plain t) C.orderly.long

  can-join : (s : ℕ) → s < 7 → CanJoin u p s
  can-join s h = record { orderly = S.orderly; known = C.known; state = h; out = out }

  pub can-amend : (x : Program) → x.state ≡ 0 → CanAmend u p x
  can-amend x e = record { orderly = S.orderly; known = C.known; state = e ∙ sym out; priority = λ k. absurd (k out) }

  -- p enters with another record
  pub can-anew : (x y : Program) → x ≡ y → y.state < 7 → CanJoin u p x.state
  can-anew x y X h = can-join x.state (omega (arith, ap (λ (z : Program). z.state) X))

  pub can-wake : (x : Program) → x ≡ wait_over (at (plain t).book p) → CanJoin u p x.state
  can-wake x X = can-anew x (wait_over (at (plain t).book p)) X (over-state (at (plain t).book p))

  anew : (d : Deed) (x y : Program) → x ≡ y → act lists p d (plain t) ≡ enter lists p y (leave lists p (plain t)) → (r : Tables)
      → Says r (enter lists p x (plain u)) → Played t (on p d ∷ []) r
  anew d x y X e r =
      says-as (ap (λ (z : Program). enter lists p z (plain u)) X ∙ ap (enter lists p y) S.state ∙ sym e ∙ act-step p C.known d (plain t))

  pub became : (s : ℕ) (w : Why) (x : Program) → x ≡ in_state s w (at (plain t).book p) → (r : Tables)
      → Says r (enter lists p x (plain u)) → Played t (on p (becomes s w) ∷ []) r
  unfolding act
  became s w x X = anew (becomes s w) x (in_state s w (at (plain t).book p)) X refl

  pub was-woken : (x : Program) → x ≡ wait_over (at (plain t).book p) → (r : Tables) → Says r (enter lists p x (plain u))
      → Played t (on p wakes ∷ []) r
  unfolding act
  was-woken x X = anew wakes x (wait_over (at (plain t).book p)) X refl

  pub was-priced : (n : ℕ) (x : Program) → x ≡ with_priority n (at (plain t).book p) → (r : Tables) → Says r (enter lists p x (plain u))
      → Played t (on p (priced n) ∷ []) r
  unfolding act
  was-priced n x X = anew (priced n) x (with_priority n (at (plain t).book p)) X refl

  pub was-loaded : (r : Tables) (x : Program) (nm : List ℕ) (n : ℕ) → x ≡ newcomer nm n → Says r (amend lists p x (plain u))
      → Played t (on p (loaded nm n) ∷ []) r
  unfolding act
  was-loaded r x nm n e =
      says-as (ap (λ (y : Program). amend lists p y (plain u)) e ∙ ap (amend lists p (newcomer nm n)) S.state
      ∙ act-step p C.known (loaded nm n) (plain t))

  pub was-unloaded : (r : Tables) (x : Program) → x ≡ unused → Says r (amend lists p x (plain u)) → Played t (on p unloaded ∷ []) r
  unfolding act
  was-unloaded r x e =
      says-as
      (ap (λ (y : Program). amend lists p y (plain u)) e ∙ ap (amend lists p unused) S.state ∙ act-step p C.known unloaded (plain t))

-- p's record is amended and p stays in its chain: its timer, its mark
module _ (t : Tables) (p : ℕ) (C : CanTurn t p) where
  pub can-note : (x y : Program) → x ≡ y → y.state ≡ state_of (plain t).book p → y.priority ≡ prio_of (plain t).book p → CanAmend t p x
  can-note x y X s n = record {
    orderly = C.orderly;
    known = C.known;
    state = ap (λ (z : Program). z.state) X ∙ s;
    priority = λ k. ap (λ (z : Program). z.priority) X ∙ n;
  }

  noted : (d : Deed) (x y : Program) → x ≡ y → act lists p d (plain t) ≡ amend lists p y (plain t) → (r : Tables)
      → Says r (amend lists p x (plain t)) → Played t (on p d ∷ []) r
  noted d x y X e r = says-as (ap (λ (z : Program). amend lists p z (plain t)) X ∙ sym e ∙ act-step p C.known d (plain t))

  pub was-timed : (d i : ℕ) (x : Program) → x ≡ with_timer d i (at (plain t).book p) → (r : Tables) → Says r (amend lists p x (plain t))
      → Played t (on p (timed d i) ∷ []) r
  unfolding act
  was-timed d i x X = noted (timed d i) x (with_timer d i (at (plain t).book p)) X refl

  pub was-marked : (x : Program) → x ≡ with_mark (at (plain t).book p) → (r : Tables) → Says r (amend lists p x (plain t))
      → Played t (on p marked ∷ []) r
  unfolding act
  was-marked x X = noted marked x (with_mark (at (plain t).book p)) X refl
