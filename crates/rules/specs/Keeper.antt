-- Ways of keeping the order of chains, and what a request comes to under each.
-- Assumes nothing.
use Rattle.std.specs.Prelude.{ℕ, suc, Bool, List, [], ◌∷◌, get_or, set, replicate, leb, eqb}
use Rattle.std.proofs.Math.Bool.{cond}
use Rattle.limits.specs.Limits.{dormant, scheduled, suspended, states}
use Rattle.lists.specs.Lists.{keep, insert_by, insert, remove, up_to}
use Rattle.records.specs.declared.Program.{Program}
use Rattle.records.specs.declared.Why.TheVariants.{Nothing}
use Rattle.records.specs.Records.{known, all, unused, newcomer, in_state, wait_over, with_priority, with_timer, with_mark}
use Rattle.rules.specs.Book.{Book, at, state_of, prio_of, put, with_clock, with_holders, with_resources, fresh_book}
use Rattle.rules.specs.Requests.{Request}
use Rattle.rules.specs.Plans.{Deed, becomes, wakes, priced, loaded, unloaded, timed, marked, Event, on, clocked, held, numbered, renewed}
use Rattle.rules.specs.Plans.{Plan, View, events_of}
use Rattle.rules.specs.Rules.{plan}

-- What is kept of the order; the chain of a state, lowest first; what entering a chain and leaving it do to what is kept.
pub record Keeper : Type 1 where
  pub Kept : Type 0
  pub order : Book → Kept → ℕ → List ℕ
  pub entered : Book → ℕ → ℕ → Kept → Kept  -- the book, with p in state s already; p; s
  pub left : ℕ → ℕ → Kept → Kept  -- p, and the state that it leaves
  pub none : Kept  -- every chain empty

-- A list for each state from 0 to 6, that of 0 empty. A program entering a chain goes behind its equals (OUTLINE, "The tables").
abbrev pub lists : Keeper
lists = record {
  Kept = List (List ℕ);
  order = λ b k s. get_or k s [];
  entered = λ b p s k. set k s (insert (prio_of b) p (get_or k s []));
  left = λ p s k. set k s (remove p (get_or k s []));
  none = replicate states [];
}

-- No list (demand 3): when each program last entered a chain, and the number of the next entry.
pub record Entries : Type 0 where
  pub entry : ℕ → ℕ
  pub next : ℕ

-- q stands before p: by priority, and by entry among equals
abbrev pub earlier : (ℕ → ℕ) → (ℕ → ℕ) → ℕ → ℕ → Bool
earlier pr en q p = cond (eqb (pr q) (pr p)) (leb (en q) (en p)) (leb (pr q) (pr p))

abbrev pub sort : (ℕ → ℕ → Bool) → List ℕ → List ℕ
sort t [] = []
sort t (q ∷ qs) = insert_by t q (sort t qs)

-- the programs in state s, sorted
unfoldable pub sorted : Book → Entries → ℕ → List ℕ
unfolding all
sorted b e s = sort (earlier (prio_of b) e.entry) (keep (λ p. eqb (state_of b p) s) all)

abbrev pub entries : Keeper
entries = record {
  Kept = Entries;
  order = sorted;
  entered = λ b p s e. record { entry = λ q. cond (eqb q p) e.next (e.entry q); next = suc e.next };
  left = λ p s e. e;
  none = record { entry = λ q. 0; next = 1 };
}

module _ (K : Keeper) where
  pub record State : Type 0 where
    pub book : Book
    pub kept : K.Kept

  -- p leaves its chain and is dormant
  abbrev pub leave : ℕ → State → State
  leave p t = record {
    book = put p (in_state dormant Nothing (at t.book p)) t.book;
    kept = cond (eqb (state_of t.book p) dormant) t.kept (K.left p (state_of t.book p) t.kept);
  }

  -- p, which stands in no chain, has record r from now on, and enters the chain of its state unless it is dormant
  abbrev pub enter : ℕ → Program → State → State
  enter p r t =
      let b : Book = put p r t.book in
      record { book = b; kept = cond (eqb r.state dormant) t.kept (K.entered b p r.state t.kept) }

  -- p's record is replaced
  abbrev pub amend : ℕ → Program → State → State
  amend p r t = record { book = put p r t.book; kept = t.kept }

  unfoldable pub act : ℕ → Deed → State → State
  act p (becomes s w) t = enter p (in_state s w (at t.book p)) (leave p t)
  act p wakes t = enter p (wait_over (at t.book p)) (leave p t)
  act p (priced n) t = enter p (with_priority n (at t.book p)) (leave p t)
  act p (loaded nm n) t = amend p (newcomer nm n) (leave p t)
  act p unloaded t = amend p unused (leave p t)
  act p (timed d i) t = amend p (with_timer d i (at t.book p)) t
  act p marked t = amend p (with_mark (at t.book p)) t

  abbrev pub fresh : ℕ → ℕ → ℕ → ℕ → State
  fresh T S R Y = record { book = fresh_book T S R Y; kept = K.none }

  -- one event; a deed of a program that is none of 1 to 32 is nothing
  unfoldable pub step : Event → State → State
  unfolding act
  step (on p d) t = cond (known p) (act p d t) t
  step (clocked c) t = record { book = with_clock c t.book; kept = t.kept }
  step (held h) t = record { book = with_holders h t.book; kept = t.kept }
  step (numbered r) t = record { book = with_resources r t.book; kept = t.kept }
  step (renewed T S R Y) t = fresh T S R Y

  abbrev pub play : List Event → State → State
  play [] t = t
  play (e ∷ es) t = play es (step e t)

  -- what a rule sees, the chains being those of states 1 to 6: keepers need not agree on others; and the scheduled chain
  abbrev pub view : State → View
  view t = record { book = t.book; chain = λ s. cond (up_to scheduled suspended s) (K.order t.book t.kept s) [] }

  abbrev pub scheduled_chain : State → List ℕ
  scheduled_chain t = K.order t.book t.kept scheduled

  -- a request: what it comes to, and the state after it
  abbrev pub asks : State → Request → Plan
  asks t q = plan (view t) q

  abbrev pub after : State → Request → State
  after t q = play (events_of (view t) (asks t q)) t
