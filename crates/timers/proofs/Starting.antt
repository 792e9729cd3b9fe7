-- A move as the code makes it: the timers of all programs are moved on first, and then those who start enter the scheduled chain one by one.
-- It comes to the same, since no timer has to do with a chain.
-- Assumes nothing.
use Prim.Native.Nat.{ℕ, suc, ◌-◌, ◌≤◌, ◌<◌}
use native.Mathlib.Omega.{arith}
use mathlib.Core.Path.{◌≡◌, refl, sym, ap, ap₂, ◌∙◌}
use mathlib.Core.Bool.{Bool, true, false, cond}
use mathlib.Core.List.{List, [], ◌∷◌, map}
use lib.ListN.{length, get_or, length-map, get_or-map}
use lib.Seq.{ext_get_or}
use lib.Dec.{eqb}
use borrow.Author.Tests.{eqb-true}
use Rattle.lists.specs.Lists.{count, keep}
use Rattle.lists.proofs.Tests.{both}
use Rattle.lists.proofs.Laws.{keep-in, keep-le, count-keep}
use Rattle.records.specs.declared.Program.{Program}
use Rattle.records.specs.declared.Why.TheVariants.{Nothing}
use Rattle.records.specs.Records.{Known, all, missing, in_state}
use Rattle.rules.specs.Book.{at, prio_of, put, altered}
use Rattle.rules.specs.Plans.{on, becomes}
use Rattle.rules.specs.Keeper.{lists, State, play}
use Rattle.rules.proofs.shared.Places.{all_one, all_once, all_in}
use Rattle.timers.specs.Inner.{falls_due, moved, starts, struck, starters, enter_all, moved_to, passed, starting}
use Rattle.timers.proofs.InTurn.{set_all, joined, scheduled-put, in-turn, put_in, put-out, length-put}
use Rattle.timers.proofs.Moves.{moved_at}

-- of a record whose timer is moved on
pub moved-state : (now : ℕ) (r : Program) → (moved now r).state ≡ r.state
moved-state now r = go (falls_due now r) refl
  where
    go : (b : Bool) → falls_due now r ≡ b → (moved now r).state ≡ r.state
    go true e = rw e
    go false e = rw e

pub moved-priority : (now : ℕ) (r : Program) → (moved now r).priority ≡ r.priority
moved-priority now r = go (falls_due now r) refl
  where
    go : (b : Bool) → falls_due now r ≡ b → (moved now r).priority ≡ r.priority
    go true e = rw e
    go false e = rw e

starts-sleeps : (now : ℕ) (r : Program) → starts now r ≡ true → r.state ≡ 0
unfolding starts
starts-sleeps now r e = eqb-true r.state 0 (both (falls_due now r) (eqb r.state 0) e).1

pub passed-at : (now : ℕ) (ps : List Program) (i : ℕ) → get_or (map (moved now) ps) i missing ≡ moved now (get_or ps i missing)
unfolding falls_due
passed-at now ps i = get_or-map (moved now) ps i missing

keep_all : (c : List ℕ) → keep (λ p. true) c ≡ c
keep_all [] = refl
keep_all (q ∷ qs) = ap (λ (xs : List ℕ). q ∷ xs) (keep_all qs)

module _ (now : ℕ) (a : State lists) (L : length a.book.programs ≡ 32) where
  abbrev new : ℕ → Program
  new p = in_state 1 Nothing (moved now (at a.book p))

  turn : (p : ℕ) → Known p → starts now (at a.book p) ≡ true → (t : State lists) → length t.book.programs ≡ 32
      → at t.book p ≡ moved now (at a.book p)
      → play lists (on p (becomes 1 Nothing) ∷ []) t
      ≡ record { book = put p (new p) t.book; kept = joined (prio_of t.book) p t.kept }
  turn p P q t K e =
      scheduled-put p P t (ap (λ (r : Program). r.state) e ∙ moved-state now (at a.book p) ∙ starts-sleeps now (at a.book p) q)
      ∙ ap (λ (r : Program). record {
        book = put p (in_state 1 Nothing r) t.book;
        kept = joined (prio_of t.book) p t.kept;
      }) e

  in_all : (z : ℕ) → 1 ≤ count z (starters now a.book) → Known z × (starts now (at a.book z) ≡ true)
  unfolding starters
  in_all z h = let k = keep-in (λ p. starts now (at a.book p)) z all h in (all_in z k.1, k.0)

  in-once : (z : ℕ) → count z (starters now a.book) ≤ 1
  unfolding starters
  in-once z = omega (arith, keep-le (λ p. starts now (at a.book p)) z all, all_once z)

  same-order : prio_of (passed now a).book ≡ prio_of a.book
  same-order = λ i p.
      (ap (λ (r : Program). r.priority) (passed-at now a.book.programs (p - 1)) ∙ moved-priority now (at a.book p)) i

  at-index : (i : ℕ) → at a.book (suc i) ≡ get_or a.book.programs i missing
  at-index i = ap (λ (k : ℕ). get_or a.book.programs k missing) (let e : suc i - 1 ≡ i = omega arith in e)

  counted : (i : ℕ) (x : Bool) → starts now (at a.book (suc i)) ≡ x
      → count (suc i) (starters now a.book) ≡ cond x (count (suc i) all) 0
  unfolding starters
  counted i x e = count-keep (λ p. starts now (at a.book p)) (suc i) all ∙ ap (λ (y : Bool). cond y (count (suc i) all) 0) e

  records : set_all new (starters now a.book) (map (moved now) a.book.programs) ≡ map (struck now) a.book.programs
  records =
      ext_get_or missing (set_all new (starters now a.book) (map (moved now) a.book.programs)) (map (struck now) a.book.programs)
      (length-put new (starters now a.book) (map (moved now) a.book.programs) ∙ length-map a.book.programs (moved now)
      ∙ sym (length-map a.book.programs (struck now)))
      (λ i h. each i (omega (arith, length-put new (starters now a.book) (map (moved now) a.book.programs), length-map a.book.programs (moved now)))
      ∙ sym (moved_at now a.book.programs i))
    where
      low : (z : ℕ) → 1 ≤ count z (starters now a.book) → 1 ≤ z
      low z h = (in_all z h).0.0

      each : (i : ℕ) → i < length a.book.programs
          → get_or (set_all new (starters now a.book) (map (moved now) a.book.programs)) i missing
          ≡ struck now (get_or a.book.programs i missing)
      each i h = go (starts now (at a.book (suc i))) refl
        where
          K : Known (suc i)
          K = (omega arith, omega (arith, L))

          by-test : (x : Bool) → starts now (at a.book (suc i)) ≡ x
              → struck now (at a.book (suc i))
              ≡ cond x (in_state 1 Nothing (moved now (at a.book (suc i)))) (moved now (at a.book (suc i)))
          by-test x e =
              ap (λ (y : Bool). cond y (in_state 1 Nothing (moved now (at a.book (suc i)))) (moved now (at a.book (suc i)))) e

          go : (x : Bool) → starts now (at a.book (suc i)) ≡ x
              → get_or (set_all new (starters now a.book) (map (moved now) a.book.programs)) i missing
              ≡ struck now (get_or a.book.programs i missing)
          go true e =
              put_in new (starters now a.book) (map (moved now) a.book.programs) i low in-once
              (omega (arith, counted i true e, all_one (suc i) K)) (omega (arith, length-map a.book.programs (moved now)))
              ∙ sym (by-test true e) ∙ ap (struck now) (at-index i)
          go false e =
              put-out new (starters now a.book) (map (moved now) a.book.programs) i low (counted i false e)
              ∙ passed-at now a.book.programs i ∙ ap (moved now) (sym (at-index i)) ∙ sym (by-test false e)
              ∙ ap (struck now) (at-index i)

  pub started-moved : play lists (starting (starters now a.book)) (passed now a) ≡ moved_to now a
  started-moved =
      in-turn (λ p. starts now (at a.book p) ≡ true) (λ p. on p (becomes 1 Nothing) ∷ []) (λ p. moved now (at a.book p)) new (λ p. true)
      turn (λ p. refl) (starters now a.book) (passed now a)
      (record {
        long = length-map a.book.programs (moved now) ∙ L;
        known = in_all;
        once = in-once;
        still = λ z h. passed-at now a.book.programs (z - 1);
      })
      ∙ ap (λ (ps : List Program). record {
        book = altered a.book ps now a.book.holders a.book.resources;
        kept = enter_all (prio_of (passed now a).book) (keep (λ p. true) (starters now a.book)) a.kept;
      }) records
      ∙ ap₂ (λ (f : ℕ → ℕ) (l : List ℕ). record {
        book = altered a.book (map (struck now) a.book.programs) now a.book.holders a.book.resources;
        kept = enter_all f l a.kept;
      }) same-order (keep_all (starters now a.book))
