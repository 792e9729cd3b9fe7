-- What a deed leaves of the book: the program's own record becomes what the deed says, and nothing else changes. A deed may put
-- records more than once, but at one place.
-- Assumes nothing.
use Prim.Native.Nat.{ℕ, zero, suc, ◌-◌}
use native.Mathlib.Decide.{ℕ_discrete}
use mathlib.Core.Path.{◌≡◌, refl, sym, ap, ◌∙◌, subst}
use mathlib.Core.Logic.{◌≢◌}
use mathlib.Core.List.{List, [], ◌∷◌}
use lib.ListN.{length, set}
use Rattle.records.specs.declared.Program.{Program}
use Rattle.records.specs.declared.Why.TheVariants.{Nothing}
use Rattle.records.specs.Records.{Known, record_at, unused, newcomer, in_state, wait_over, with_priority, with_timer, with_mark}
use Rattle.rules.specs.Book.{Book, at, put, altered}
use Rattle.rules.specs.Plans.{Deed, becomes, wakes, priced, loaded, unloaded, timed, marked, on}
use Rattle.rules.specs.Keeper.{Keeper, State, act, step}
use Rattle.rules.proofs.shared.Places.{known_is, at_same, at_other, put-long}

-- the record after a deed
abbrev pub made : Deed → Program → Program
made (becomes s w) r = in_state s w r
made wakes r = wait_over r
made (priced n) r = with_priority n r
made (loaded nm n) r = newcomer nm n
made unloaded r = unused
made (timed d i) r = with_timer d i r
made marked r = with_mark r

-- a record put where one was just put
set-again : (ps : List Program) (i : ℕ) (r s : Program) → set (set ps i r) i s ≡ set ps i s
set-again [] i r s = refl
set-again (x ∷ xs) zero r s = refl
set-again (x ∷ xs) (suc i) r s = ap (λ (ys : List Program). x ∷ ys) (set-again xs i r s)

module _ (K : Keeper) (p : ℕ) where
  -- the state with other records and another order kept
  abbrev with : State K → K.Kept → List Program → State K
  with t k ps = record { book = altered t.book ps t.book.clock t.book.holders t.book.resources; kept = k }

  -- p leaves its chain, and has another record
  left-made : (t : State K) (k : K.Kept) (r : Program)
      → with t k (set (set t.book.programs (p - 1) (in_state 0 Nothing (at t.book p))) (p - 1) r)
      ≡ with t k (set t.book.programs (p - 1) r)
  left-made t k r = ap (with t k) (set-again t.book.programs (p - 1) (in_state 0 Nothing (at t.book p)) r)

  pub act-put : (d : Deed) (t : State K)
      → act K p d t ≡ record { book = put p (made d (at t.book p)) t.book; kept = (act K p d t).kept }
  unfolding act
  act-put (becomes s w) t = left-made t _ (in_state s w (at t.book p))
  act-put wakes t = left-made t _ (wait_over (at t.book p))
  act-put (priced n) t = left-made t _ (with_priority n (at t.book p))
  act-put (loaded nm n) t = left-made t _ (newcomer nm n)
  act-put unloaded t = left-made t _ unused
  act-put (timed d i) t = refl
  act-put marked t = refl

  -- the same of an event
  pub step-act : Known p → (d : Deed) (t : State K) → step K (on p d) t ≡ act K p d t
  unfolding step
  step-act P d t = rw (known_is p P)

  pub step-put : Known p → (d : Deed) (t : State K)
      → step K (on p d) t ≡ record { book = put p (made d (at t.book p)) t.book; kept = (act K p d t).kept }
  step-put P d t = step-act P d t ∙ act-put d t

-- the records of the second list are those of the first, but program p's is r
pub record Turned (p : ℕ) (r : Program) (ps qs : List Program) : Type 0 where
  pub long : length qs ≡ 32
  pub here : record_at qs p ≡ r
  pub rest : (z : ℕ) → Known z → z ≢ p → record_at qs z ≡ record_at ps z

module _ {p : ℕ} {r : Program} {ps qs : List Program} (T : Turned p r ps qs) where
  -- what is said of the new record, and of the others as they were, is said of each
  pub turned-each : (Q : ℕ → Program → Type 0) → Q p r → ((z : ℕ) → Known z → z ≢ p → Q z (record_at ps z)) → (z : ℕ) → Known z
      → Q z (record_at qs z)
  turned-each Q h f z Z = go (ℕ_discrete z p)
    where
      go : Dec (z ≡ p) → Q z (record_at qs z)
      go (yes i) = subst (λ (y : ℕ). Q y (record_at qs y)) (sym i) (subst (Q p) (sym T.here) h)
      go (no n) = subst (Q z) (sym (T.rest z Z n)) (f z Z n)

  -- records of which no two are alike in some way, nor is the new one to another
  pub turned_apart : (E : Program → Program → Type 0) → ((x y : Program) → E x y → E y x)
      → ((z : ℕ) → Known z → z ≢ p → E r (record_at ps z) → ⊥)
      → ((y z : ℕ) → Known y → Known z → E (record_at ps y) (record_at ps z) → y ≡ z) → (y z : ℕ) → Known y → Known z
      → E (record_at qs y) (record_at qs z) → y ≡ z
  turned_apart E turn new old y z Y Z =
      turned-each (λ y x. E x (record_at qs z) → y ≡ z)
      (turned-each (λ z x. E r x → p ≡ z) (λ h. refl) (λ z Z n h. absurd (new z Z n h)) z Z)
      (λ y Y m. turned-each (λ z x. E (record_at ps y) x → y ≡ z) (λ h. absurd (new y Y m (turn _ _ h))) (λ z Z n. old y z Y Z) z Z) y Y

pub turned-put : (b : Book) (p : ℕ) (r : Program) → Known p → length b.programs ≡ 32 → Turned p r b.programs (put p r b).programs
turned-put b p r P L = record { long = put-long b p r L; here = at_same b L p P r; rest = at_other b p P r }

pub step-turned : (K : Keeper) (p : ℕ) → Known p → (d : Deed) (t : State K) → length t.book.programs ≡ 32
    → Turned p (made d (at t.book p)) t.book.programs (step K (on p d) t).book.programs
step-turned K p P d t L =
    subst (λ (u : State K). Turned p (made d (at t.book p)) t.book.programs u.book.programs) (sym (step-put K p P d t))
    (turned-put t.book p (made d (at t.book p)) P L)
