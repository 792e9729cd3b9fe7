-- A deed keeps what is fine so, where the record that it makes is apt: right by itself, of a name of its own, with a son that nobody else
-- awaits, and still used and awake if others rely on it. Shown once for a record put in another's place; every deed is that.
-- Assumes nothing.
use Prim.Native.Nat.{ℕ}
use mathlib.Core.Path.{◌≡◌, sym, subst}
use mathlib.Core.Logic.{◌≢◌}
use mathlib.Core.Bool.{true}
use mathlib.Core.List.{List}
use Rattle.records.specs.declared.Program.{Program}
use Rattle.records.specs.declared.Resource.{Resource}
use Rattle.records.specs.declared.Why.TheVariants.{Son}
use Rattle.records.specs.Records.{Known}
use Rattle.rules.specs.Book.{Book, at, state_of, why_of, put}
use Rattle.rules.specs.Plans.{Deed, on, held, numbered}
use Rattle.rules.specs.Keeper.{lists, State, act, step}
use Rattle.rules.proofs.shared.Deeds.{made, Turned, turned-each, turned_apart, turned-put, act-put, step-put}
use Rattle.rules.proofs.soundness.Chaining.{Ordered, act-order}
use Rattle.rules.proofs.soundness.Fine.{Slack, Right, Sonny, Uses, Tracked, Owned, Numbered, Fine, fine-anew}

-- r may take the place of p's record
pub record Apt (e : Slack) (b : Book) (p : ℕ) (r : Program) : Type 0 where
  pub right : Right e.low e.high b.tracks b.numbers r
  pub name : r.used ≡ true → (z : ℕ) → Known z → z ≢ p → (at b z).used ≡ true → r.name ≡ (at b z).name → ⊥
  pub son : (k : ℕ) → r.why ≡ Son k → Sonny e.son b.programs p k
  pub only : (k z : ℕ) → r.why ≡ Son k → Known z → z ≢ p → why_of b z ≡ Son k → ⊥
  pub user : p ≢ e.user → (at b p).used ≡ true → r.used ≡ true
  pub used : p ≢ e.son → (at b p).used ≡ true → r.used ≡ true
  pub awake : p ≢ e.son → state_of b p ≢ 0 → r.state ≢ 0

-- what is said of users may be said of others
pub tracked-map : {U W : ℕ → Type 0} {T S : ℕ} {xs : List ℕ} → ((h : ℕ) → Known h → U h → W h) → Tracked U T S xs → Tracked W T S xs
tracked-map f t = record {
  long = t.long;
  each = λ i l.
      record { below = (t.each i l).below; just = (t.each i l).just; user = λ h. f _ h ((t.each i l).user h); most = (t.each i l).most };
}

pub owned-map : {U W : ℕ → Type 0} {x : Resource} → ((h : ℕ) → Known h → U h → W h) → Owned U x → Owned W x
owned-map {x = x} f o = record {
  owner = λ h. f x.owner h (o.owner h);
  locker = λ h. f x.lock h (o.locker h);
  clear = o.clear;
  high = o.high;
  most = o.most;
}

pub numbered-map : {U W : ℕ → Type 0} {R : ℕ} {xs : List Resource} → ((h : ℕ) → Known h → U h → W h) → Numbered U R xs → Numbered W R xs
numbered-map f t = record { long = t.long; each = λ r l m. owned-map f (t.each r l m) }

-- the book with other records
abbrev over : List Program → Book → Book
over ps b = record {
  programs = ps;
  clock = b.clock;
  year = b.year;
  tracks = b.tracks;
  system = b.system;
  numbers = b.numbers;
  holders = b.holders;
  resources = b.resources;
}

module _ (e : Slack) (a : State lists) (F : Fine e a) (p : ℕ) (P : Known p) (r : Program) (A : Apt e a.book p r) (qs : List Program)
    (T : Turned p r a.book.programs qs) where
  sonny : (z k : ℕ) → Sonny e.son a.book.programs z k → Sonny e.son qs z k
  sonny z k S = record {
    known = S.known;
    other = S.other;
    used = λ n. turned-each T (λ k r. k ≢ e.son → (at a.book k).used ≡ true → r.used ≡ true) A.used (λ k K m d u. u) k S.known n
        (S.used n);
    awake = λ n.
        turned-each T (λ k r. k ≢ e.son → state_of a.book k ≢ 0 → r.state ≢ 0) A.awake (λ k K m d u. u) k S.known n (S.awake n);
  }

  uses : (h : ℕ) → Known h → Uses e.user a.book.programs h → Uses e.user qs h
  uses = turned-each T (λ h r. Uses e.user a.book.programs h → h ≢ e.user → r.used ≡ true) (λ u n. A.user n (u n)) (λ h H m u. u)

  fine-put : (k : List (List ℕ)) → Ordered qs k → Fine e (record { book = over qs a.book; kept = k })
  fine-put k O = record {
    order = O;
    right = turned-each T (λ z r. Right e.low e.high a.book.tracks a.book.numbers r) A.right (λ z Z n. F.right z Z);
    distinct = λ y z Y Z u v w.
        turned_apart T (λ r s. (r.used ≡ true) × (s.used ≡ true) × (r.name ≡ s.name)) (λ r s i. (i.1, i.0, sym i.2))
        (λ z Z n i. A.name i.0 z Z n i.1 i.2) (λ y z Y Z i. F.distinct y z Y Z i.0 i.1 i.2) y z Y Z (u, v, w);
    sons = λ z k Z i. sonny z k
        (turned-each T (λ z r. r.why ≡ Son k → Sonny e.son a.book.programs z k) (A.son k) (λ z Z n. F.sons z k Z) z Z i);
    once = λ y z k Y Z u v. turned_apart T (λ r s. (r.why ≡ Son k) × (s.why ≡ Son k)) (λ r s i. (i.1, i.0))
        (λ z Z n i. A.only k z i.0 Z n i.1) (λ y z Y Z i. F.once y z k Y Z i.0 i.1) y z Y Z (u, v);
    tracked = tracked-map uses F.tracked;
    numbered = numbered-map uses F.numbered;
    sized = F.sized;
    now = F.now;
    time = F.time;
  }

-- a deed puts one record, and keeps the chains in order
pub fine-on : (e : Slack) (p : ℕ) → Known p → (d : Deed) (a : State lists) → Fine e a → Apt e a.book p (made d (at a.book p))
    → Fine e (step lists (on p d) a)
fine-on e p P d a F A =
    let r : Program = made d (at a.book p) in
    subst (Fine e) (sym (step-put lists p P d a))
    (fine-put e a F p P r A (put p r a.book).programs (turned-put a.book p r P F.order.long) (act lists p d a).kept
    (subst (λ (u : State lists). Ordered u.book.programs u.kept) (act-put lists p d a) (act-order p P d a F.order)))

-- tracks and numbers may pass to others
pub fine-held : (e : Slack) (xs : List ℕ) (a : State lists) → Fine e a
    → Tracked (Uses e.user a.book.programs) a.book.tracks a.book.system xs → Fine e (step lists (held xs) a)
unfolding step
fine-held e xs a F t = fine-anew e e a a.book.clock xs a.book.resources F F.right F.sons t F.numbered F.now F.time

pub fine-numbered : (e : Slack) (xs : List Resource) (a : State lists) → Fine e a
    → Numbered (Uses e.user a.book.programs) a.book.numbers xs → Fine e (step lists (numbered xs) a)
unfolding step
fine-numbered e xs a F n = fine-anew e e a a.book.clock a.book.holders xs F F.right F.sons F.tracked n F.now F.time
