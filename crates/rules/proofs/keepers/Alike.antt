-- The two keepers keep the same chains: shown for fresh tables, for each step once, and so for every request and every run.
-- A rule sees a state only through its view, and states that are alike have one view; so nothing is said here of any single rule.
-- Assumes nothing.
use Prim.Native.Nat.{ℕ, suc, ◌≤◌, ◌<◌}
use native.Mathlib.Omega.{arith}
use native.Mathlib.Decide.{ℕ_discrete}
use mathlib.Core.Path.{◌≡◌, refl, sym, ap, ◌∙◌, subst}
use mathlib.Core.Logic.{◌≢◌}
use mathlib.Core.Bool.{Bool, true, false, cond}
use mathlib.Core.List.{List, [], ◌∷◌}
use lib.ListN.{length, get_or, set, length-set, length-replicate, get_or-replicate}
use lib.Seq.{get_or-set_same, get_or-set_other}
use lib.Dec.{eqb}
use borrow.Author.Tests.{eq-eqb, ne_eqb, eqb-true, eqb-false}
use Rattle.lists.specs.Lists.{same, insert, remove, up_to}
use Rattle.lists.proofs.Laws.{same-ne}
use Rattle.lists.proofs.Tests.{up_to-true}
use Rattle.records.specs.declared.Program.{Program}
use Rattle.records.specs.declared.Why.TheVariants.{Nothing}
use Rattle.records.specs.Records.{Known, known, unused, in_state, wait_over, with_priority, with_timer, with_mark, newcomer}
use Rattle.rules.specs.Book.{Book, at, state_of, prio_of, put, with_clock, with_holders, with_resources, fresh_book}
use Rattle.rules.specs.Requests.{Request}
use Rattle.rules.specs.Plans.{Deed, becomes, wakes, priced, loaded, unloaded, timed, marked, Event, on, clocked, held}
use Rattle.rules.specs.Plans.{numbered, renewed, number_of, values_of, events_of}
use Rattle.rules.specs.Rules.{plan}
use Rattle.rules.specs.Keeper.{lists, Entries, entries, sorted, State, leave, enter, amend, act, step, play, view, asks, after, fresh}
use Rattle.rules.specs.Replay.{Fits}
use Rattle.rules.proofs.shared.Places.{known-true, at_same, at_other, fresh_at}
use Rattle.rules.proofs.shared.Deeds.{Turned, turned-each, turned-put}
use Rattle.rules.proofs.keepers.Fits.{Noted, fits-unique, fits-edit, fits-remove, fits-insert, sorted-fits}
use Rattle.rules.proofs.Statements.{runs, answers}

-- the same book, and chains that the entries account for
pub record Alike (a : State lists) (t : State entries) : Type 0 where
  pub book : t.book ≡ a.book
  pub noted : Noted a.book t.kept
  pub seven : length a.kept ≡ 7
  pub fits : (s : ℕ) → 1 ≤ s → s < 7 → Fits a.book t.kept.entry s (get_or a.kept s [])

-- one record
module _ (b : Book) (L : length b.programs ≡ 32) (p : ℕ) (P : Known p) (r : Program) where
  pub state-other : (z : ℕ) → Known z → z ≢ p → state_of (put p r b) z ≡ state_of b z
  state-other z Z n = ap (λ (x : Program). x.state) (at_other b p P r z Z n)

  pub state-same : state_of (put p r b) p ≡ r.state
  state-same = ap (λ (x : Program). x.state) (at_same b L p P r)

-- the replay with the same book
abbrev pub beside : State lists → Entries → State entries
beside a e = record { book = a.book; kept = e }

-- a change of the book that leaves states, and the priorities of programs in chains
edit-alike : (a : State lists) (e : Entries) (b : Book) → Alike a (beside a e) → length b.programs ≡ 32
    → ((z : ℕ) → Known z → state_of b z ≡ state_of a.book z)
    → ((z : ℕ) → Known z → state_of a.book z ≢ 0 → prio_of b z ≡ prio_of a.book z)
    → Alike (record { book = b; kept = a.kept }) (record { book = b; kept = e })
edit-alike a e b A L f g = record {
  book = refl;
  noted = record {
    long = L;
    early = A.noted.early;
    apart = λ y z Y Z h k. A.noted.apart y z Y Z (λ i. h (f y Y ∙ i)) (λ i. k (f z Z ∙ i));
  };
  seven = A.seven;
  fits = λ s l h. fits-edit a.book b e.entry e.entry s (get_or a.kept s []) (A.fits s l h)
      (λ z Z. ap (λ (x : ℕ). same x s) (f z Z)) (λ z Z i. g z Z (λ w. omega (arith, i, w))) (λ z Z i. refl);
}

module _ (p : ℕ) (P : Known p) where
  -- p's record is another
  module _ (a : State lists) (e : Entries) (r : Program) (A : Alike a (beside a e)) where
    turned : Turned p r a.book.programs (put p r a.book).programs
    turned = turned-put a.book p r P A.noted.long

    states : (z : ℕ) → Known z → z ≢ p → state_of (put p r a.book) z ≡ state_of a.book z
    states = state-other a.book A.noted.long p P r

    -- of those in chains
    priorities : (state_of a.book p ≢ 0 → r.priority ≡ prio_of a.book p) → (z : ℕ) → Known z → state_of a.book z ≢ 0
        → prio_of (put p r a.book) z ≡ prio_of a.book z
    priorities h = turned-each turned (λ z q. state_of a.book z ≢ 0 → q.priority ≡ prio_of a.book z) h (λ z Z n m. refl)

    -- of the same state
    pub amend-alike : r.state ≡ state_of a.book p → (state_of a.book p ≢ 0 → r.priority ≡ prio_of a.book p)
        → Alike (amend lists p r a) (amend entries p r (beside a e))
    amend-alike h k =
        edit-alike a e (put p r a.book) A turned.long (turned-each turned (λ z q. q.state ≡ state_of a.book z) h (λ z Z n. refl))
        (priorities k)

    -- of the same priority if p was in a chain, and the chain of state x is another: p is in no other chain, before and after
    chain-alike : (x : ℕ) (c : List ℕ) (e' : Entries) → (state_of a.book p ≢ 0 → r.priority ≡ prio_of a.book p)
        → ((s : ℕ) → 1 ≤ s → s ≢ x → (state_of a.book p ≢ s) × (r.state ≢ s))
        → Noted (put p r a.book) e' → ((z : ℕ) → z ≢ p → e'.entry z ≡ e.entry z)
        → (1 ≤ x → x < 7 → Fits (put p r a.book) e'.entry x c)
        → Alike (record { book = put p r a.book; kept = set a.kept x c }) (record { book = put p r a.book; kept = e' })
    chain-alike x c e' pr out N old here = record {
      book = refl;
      noted = N;
      seven = length-set a.kept x c ∙ A.seven;
      fits = λ s l h. go s l h (ℕ_discrete s x);
    }
      where
        go : (s : ℕ) → 1 ≤ s → s < 7 → Dec (s ≡ x) → Fits (put p r a.book) e'.entry s (get_or (set a.kept x c) s [])
        go s l h (yes i) =
            subst (λ (y : ℕ). Fits (put p r a.book) e'.entry y (get_or (set a.kept x c) y [])) (sym i)
            (subst (Fits (put p r a.book) e'.entry x) (sym (get_or-set_same a.kept x c [] (omega (arith, A.seven))))
            (here (omega arith) (omega arith)))
        go s l h (no n) =
            subst (Fits (put p r a.book) e'.entry s) (sym (get_or-set_other a.kept x s c [] n))
            (fits-edit a.book (put p r a.book) e.entry e'.entry s (get_or a.kept s []) (A.fits s l h)
            (turned-each turned (λ z q. same q.state s ≡ same (state_of a.book z) s)
            (same-ne r.state s (out s l n).1 ∙ sym (same-ne (state_of a.book p) s (out s l n).0)) (λ z Z m. refl))
            (λ z Z j. priorities pr z Z (λ i. omega (arith, i, j))) (λ z Z j. old z (λ i. (out s l n).0 (ap (state_of a.book) (sym i) ∙ j))))

  -- p leaves
  pub leave-alike : (a : State lists) (e : Entries) → Alike a (beside a e) → Alike (leave lists p a) (leave entries p (beside a e))
  leave-alike a e A = go (eqb s 0) refl
    where
      s : ℕ
      s = state_of a.book p

      r : Program
      r = in_state 0 Nothing (at a.book p)

      was : (z : ℕ) → Known z → state_of (put p r a.book) z ≢ 0 → state_of a.book z ≢ 0
      was = turned-each (turned a e r A) (λ z q. q.state ≢ 0 → state_of a.book z ≢ 0) (λ h. absurd (h refl)) (λ z Z n h. h)

      go : (d : Bool) → eqb s 0 ≡ d
          → Alike (record { book = put p r a.book; kept = cond d a.kept (set a.kept s (remove p (get_or a.kept s []))) })
          (record { book = put p r a.book; kept = cond d e e })
      go true i = amend-alike a e r A (sym (eqb-true s 0 i)) (λ n. refl)
      go false i =
          chain-alike a e r A s (remove p (get_or a.kept s [])) e (λ n. refl) (λ x l n. (λ j. n (sym j), λ j. omega (arith, j)))
          (record {
            long = (turned a e r A).long;
            early = A.noted.early;
            apart = λ y z Y Z h k. A.noted.apart y z Y Z (was y Y h) (was z Z k);
          }) (λ z n. refl)
          (λ l h. fits-remove a.book (put p r a.book) p P (states a e r A) (priorities a e r A (λ n. refl)) e.entry s
          (get_or a.kept s []) l (A.fits s l h) refl
          (λ w. eqb-false s 0 i (sym w ∙ state-same a.book A.noted.long p P r)))

  -- p, dormant, enters, whatever its record is from now on
  pub enter-alike : (r : Program) (a : State lists) (e : Entries) → Alike a (beside a e) → state_of a.book p ≡ 0
      → Alike (enter lists p r a) (enter entries p r (beside a e))
  enter-alike r a e A D = go (eqb s 0) refl
    where
      s : ℕ
      s = r.state

      awake : state_of a.book p ≢ 0 → r.priority ≡ prio_of a.book p
      awake n = absurd (n D)

      b : Book
      b = put p r a.book

      e' : Entries
      e' = entries.entered b p s e

      new : e'.entry p ≡ e.next
      new = rw (eq-eqb p p refl)

      old : (z : ℕ) → z ≢ p → e'.entry z ≡ e.entry z
      old z n = rw (ne_eqb z p n)

      early : (z : ℕ) → e'.entry z < suc e.next
      early z = at-z (ℕ_discrete z p)
        where
          at-z : Dec (z ≡ p) → e'.entry z < suc e.next
          at-z (yes q) = rw q (omega (arith, new))
          at-z (no n) = omega (arith, old z n, A.noted.early z)

      apart : (y z : ℕ) → Known y → Known z → state_of b y ≢ 0 → state_of b z ≢ 0 → e'.entry y ≡ e'.entry z → y ≡ z
      apart y z Y Z h k q = both (ℕ_discrete y p) (ℕ_discrete z p)
        where
          both : Dec (y ≡ p) → Dec (z ≡ p) → y ≡ z
          both (yes i) (yes j) = i ∙ sym j
          both (yes i) (no j) = absurd (omega (arith, A.noted.early z, old z j, q, new, ap e'.entry i))
          both (no i) (yes j) = absurd (omega (arith, A.noted.early y, old y i, q, new, ap e'.entry j))
          both (no i) (no j) =
              A.noted.apart y z Y Z (λ v. h (states a e r A y Y i ∙ v)) (λ v. k (states a e r A z Z j ∙ v)) (sym (old y i) ∙ q ∙ old z j)

      go : (d : Bool) → eqb s 0 ≡ d
          → Alike (record { book = b; kept = cond d a.kept (set a.kept s (insert (prio_of b) p (get_or a.kept s []))) })
          (record { book = b; kept = cond d e e' })
      go true i = amend-alike a e r A (eqb-true s 0 i ∙ sym D) awake
      go false i =
          chain-alike a e r A s (insert (prio_of b) p (get_or a.kept s [])) e' awake (λ x l n. (λ j. omega (arith, j, D), λ j. n (sym j)))
          (record { long = (turned a e r A).long; early = early; apart = apart }) old
          (λ l h. fits-insert a.book b p P (states a e r A) (priorities a e r A awake) e.entry e'.entry s (get_or a.kept s [])
          l (A.fits s l h)
          (λ v. omega (arith, v, D)) (state-same a.book A.noted.long p P r) old (λ z. omega (arith, new, A.noted.early z)))

  -- p is dormant once it has left
  pub left-state : (a : State lists) → length a.book.programs ≡ 32 → state_of (leave lists p a).book p ≡ 0
  left-state a L = state-same a.book L p P (in_state 0 Nothing (at a.book p))

  -- the deeds, of a state a and entries e
  module _ (a : State lists) (e : Entries) (A : Alike a (beside a e)) where
    abbrev u : State lists
    u = leave lists p a

    abbrev f : Entries
    f = (leave entries p (beside a e)).kept

    shift-alike : (r : Program) → Alike (enter lists p r u) (enter entries p r (beside u f))
    shift-alike r = enter-alike r u f (leave-alike a e A) (left-state a A.noted.long)

    put-alike : (r : Program) → r.state ≡ 0 → Alike (amend lists p r u) (amend entries p r (beside u f))
    put-alike r z =
        let Z : state_of u.book p ≡ 0 = left-state a A.noted.long in
        amend-alike u f r (leave-alike a e A) (z ∙ sym Z) (λ k. absurd (k Z))

    pub act-alike : (d : Deed) → Alike (act lists p d a) (act entries p d (beside a e))
    unfolding act
    act-alike (becomes s w) = shift-alike (in_state s w (at a.book p))
    act-alike wakes = shift-alike (wait_over (at a.book p))
    act-alike (priced n) = shift-alike (with_priority n (at a.book p))
    act-alike (loaded nm n) = put-alike (newcomer nm n) refl
    act-alike unloaded = put-alike unused refl
    act-alike (timed d i) = amend-alike a e (with_timer d i (at a.book p)) A refl (λ k. refl)
    act-alike marked = amend-alike a e (with_mark (at a.book p)) A refl (λ k. refl)

-- fresh tables
pub fresh-alike : (T S R Y : ℕ) → Alike (fresh lists T S R Y) (fresh entries T S R Y)
fresh-alike T S R Y = record {
  book = refl;
  noted = record {
    long = length-replicate 32 unused;
    early = λ z. omega arith;
    apart = λ y z Y Z h k e. absurd (h (dormant y Y));
  };
  seven = length-replicate {A = List ℕ} 7 [];
  fits = λ s l h. subst (λ (c : List ℕ). Fits (fresh_book T S R Y) (λ z. 0) s c) (sym (get_or-replicate {A = List ℕ} 7 s [] [] h)) (record {
    member = λ z Z. sym (same-ne (state_of (fresh_book T S R Y) z) s (λ e. omega (arith, sym e ∙ dormant z Z)));
    within = λ z k. absurd (omega arith);
    ascends = tt;
  });
}
  where
    dormant : (z : ℕ) → Known z → state_of (fresh_book T S R Y) z ≡ 0
    dormant z Z = ap (λ (r : Program). r.state) (fresh_at z Z)

pub step-alike : (v : Event) (a : State lists) (t : State entries) → Alike a t → Alike (step lists v a) (step entries v t)
unfolding step
step-alike v a t A =
    subst (λ (b : Book). Alike (step lists v a) (step entries v (record { book = b; kept = t.kept }))) (sym A.book)
    (one v t.kept (record { book = refl; noted = A.noted; seven = A.seven; fits = A.fits }))
  where
    one : (v : Event) (e : Entries) → Alike a (beside a e) → Alike (step lists v a) (step entries v (beside a e))
    one (on p d) e B = go (known p) refl
      where
        go : (x : Bool) → known p ≡ x → Alike (cond x (act lists p d a) a) (cond x (act entries p d (beside a e)) (beside a e))
        go true h = act-alike p (known-true p h) a e B d
        go false h = B
    one (clocked c) e B = edit-alike a e (with_clock c a.book) B B.noted.long (λ z Z. refl) (λ z Z n. refl)
    one (held h) e B = edit-alike a e (with_holders h a.book) B B.noted.long (λ z Z. refl) (λ z Z n. refl)
    one (numbered r) e B = edit-alike a e (with_resources r a.book) B B.noted.long (λ z Z. refl) (λ z Z n. refl)
    one (renewed T S R Y) e B = fresh-alike T S R Y

pub play-alike : (es : List Event) (a : State lists) (t : State entries) → Alike a t → Alike (play lists es a) (play entries es t)
play-alike [] a t A = A
play-alike (e ∷ es) a t A = play-alike es (step lists e a) (step entries e t) (step-alike e a t A)

-- so the two list the same chains
pub order_alike : (a : State lists) (t : State entries) → Alike a t → (s : ℕ) → 1 ≤ s → s < 7
    → sorted t.book t.kept s ≡ get_or a.kept s []
order_alike a t A s l h =
    ap (λ (b : Book). sorted b t.kept s) A.book
    ∙ fits-unique a.book t.kept.entry s (sorted a.book t.kept s) (get_or a.kept s [])
    (sorted-fits a.book t.kept A.noted s l) (A.fits s l h)

pub view-alike : (a : State lists) (t : State entries) → Alike a t → view lists a ≡ view entries t
view-alike a t A = λ i. record { book = sym A.book i; chain = λ s. chain s (up_to 1 6 s) refl i }
  where
    chain : (s : ℕ) (b : Bool) → up_to 1 6 s ≡ b → cond b (get_or a.kept s []) [] ≡ cond b (sorted t.book t.kept s) []
    chain s true e = let l = up_to-true 1 6 s e in sym (order_alike a t A s l.0 (omega (arith, l.1)))
    chain s false e = refl

-- a request comes to the same, and leaves states that are alike
pub asks-alike : (a : State lists) (t : State entries) → Alike a t → (q : Request) → asks lists a q ≡ asks entries t q
asks-alike a t A q = ap (λ v. plan v q) (view-alike a t A)

pub after-alike : (a : State lists) (t : State entries) → Alike a t → (q : Request) → Alike (after lists a q) (after entries t q)
after-alike a t A q =
    let v : view lists a ≡ view entries t = view-alike a t A in
    let e : events_of (view lists a) (asks lists a q) ≡ events_of (view entries t) (asks entries t q) =
    λ i. events_of (v i) (asks-alike a t A q i) in
    subst (λ (es : List Event). Alike (after lists a q) (play entries es t)) e (play-alike (events_of (view lists a) (asks lists a q)) a t A)

pub runs-alike : (qs : List Request) (a : State lists) (t : State entries) → Alike a t → Alike (runs lists a qs) (runs entries t qs)
runs-alike [] a t A = A
runs-alike (q ∷ qs) a t A = runs-alike qs (after lists a q) (after entries t q) (after-alike a t A q)

pub answers-alike : (qs : List Request) (a : State lists) (t : State entries) → Alike a t → answers lists a qs ≡ answers entries t qs
answers-alike [] a t A = refl
answers-alike (q ∷ qs) a t A =
    let e : asks lists a q ≡ asks entries t q = asks-alike a t A q in
    let r : answers lists (after lists a q) qs ≡ answers entries (after entries t q) qs =
    answers-alike qs (after lists a q) (after entries t q) (after-alike a t A q) in
    λ i. (number_of (e i), values_of (e i)) ∷ r i
