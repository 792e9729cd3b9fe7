-- Which records are apt: those that a used program takes by another state, another priority, another timer or, where it waits, a mark; a
-- newcomer's, where none was used; and the unused one of a program that is excused.
-- Assumes nothing.
use Prim.Native.Nat.{ℕ, ◌≤◌}
use native.Mathlib.Omega.{arith}
use mathlib.Core.Path.{◌≡◌, refl, sym, ap, ◌∙◌}
use mathlib.Core.Logic.{◌≢◌}
use mathlib.Core.Bool.{Bool, true, false, cond}
use mathlib.Core.List.{List}
use Rattle.lists.proofs.Tests.{clash}
use Rattle.records.specs.declared.Program.{Program}
use Rattle.records.specs.declared.Why.{Why}
use Rattle.records.specs.declared.Why.TheVariants.{Nothing, Son}
use Rattle.records.specs.Names.{legal}
use Rattle.records.specs.Records.{Known, unused, newcomer, in_state, in_wait, with_priority, with_timer, with_mark}
use Rattle.rules.specs.Book.{at, state_of, why_of}
use Rattle.rules.specs.Keeper.{lists, State}
use Rattle.rules.specs.Plans.{wakes}
use Rattle.rules.proofs.shared.Deeds.{made}
use Rattle.rules.proofs.soundness.Fine.{Slack, alone, Timer, Right, Sonny, Fine}
use Rattle.rules.proofs.soundness.Apt.{Apt}

-- who waits for no son
abbrev pub Childless : Why → Type 0
Childless w = (k : ℕ) → w ≡ Son k → ⊥

pub nothing-childless : Childless Nothing
nothing-childless k e = let o : ◌≡◌ {A = ℕ} 0 1 = cc in omega arith

-- no timer
pub timer-none : (low high : ℕ) → Timer low high 0 0
timer-none low high = record { timeless = λ v. refl; above = λ v. absurd (v refl); near = λ v. absurd (v refl); steps = omega arith }

-- the unused record is right by itself
pub right-unused : (low high T R : ℕ) → Right low high T R unused
right-unused low high T R = record {
  lawful = λ v. clash {t = false} v refl;
  empty = λ v. refl;
  priority = omega arith;
  timer = timer-none low high;
  fitting = refl;
  waiter = λ v. clash {t = false} v refl;
}

module _ (e : Slack) (a : State lists) (F : Fine e a) (p : ℕ) (P : Known p) where
  module _ (u : (at a.book p).used ≡ true) where
    -- p stays used and keeps its name
    apt-kept : (r : Program) → r.used ≡ true → r.name ≡ (at a.book p).name → r.priority ≤ 32767
        → Timer e.low e.high r.due r.interval
        → alone a.book.tracks a.book.numbers r.state r.why ≡ true
        → (r.suspend ≡ true → in_wait r.state ≡ true)
        → ((k : ℕ) → r.why ≡ Son k → Sonny e.son a.book.programs p k)
        → ((k z : ℕ) → r.why ≡ Son k → Known z → z ≢ p → why_of a.book z ≡ Son k → ⊥)
        → (p ≢ e.son → state_of a.book p ≢ 0 → r.state ≢ 0) → Apt e a.book p r
    apt-kept r v i n t h x f g m = record {
      right = record {
        lawful = λ w. ap legal i ∙ (F.right p P).lawful u;
        empty = λ w. clash v w;
        priority = n;
        timer = t;
        fitting = h;
        waiter = x;
      };
      name = λ w z Z d y j. d (sym (F.distinct p z P Z u y (sym i ∙ j)));
      son = f;
      only = g;
      user = λ d w. v;
      used = λ d w. v;
      awake = m;
    }

    -- another state: p stays awake, unless it is the excused son
    pub apt-state : (s : ℕ) (w : Why) → alone a.book.tracks a.book.numbers s w ≡ true
        → ((k : ℕ) → w ≡ Son k → Sonny e.son a.book.programs p k)
        → ((k z : ℕ) → w ≡ Son k → Known z → z ≢ p → why_of a.book z ≡ Son k → ⊥)
        → (p ≢ e.son → state_of a.book p ≢ 0 → s ≢ 0) → Apt e a.book p (in_state s w (at a.book p))
    apt-state s w h =
        apt-kept (in_state s w (at a.book p)) u refl (F.right p P).priority (F.right p P).timer h (λ v. clash {t = false} v refl)

    pub apt-plain : (s : ℕ) (w : Why) → alone a.book.tracks a.book.numbers s w ≡ true → Childless w
        → (p ≢ e.son → state_of a.book p ≢ 0 → s ≢ 0) → Apt e a.book p (in_state s w (at a.book p))
    apt-plain s w h f m = apt-state s w h (λ k i. absurd (f k i)) (λ k z i Z n j. f k i) m

    pub apt-scheduled : Apt e a.book p (in_state 1 Nothing (at a.book p))
    apt-scheduled = apt-plain 1 Nothing refl nothing-childless (λ n v i. omega arith)

    -- its wait is over
    pub apt-woken : Apt e a.book p (made wakes (at a.book p))
    apt-woken = go (at a.book p).suspend
      where
        go : (x : Bool) → Apt e a.book p (in_state (cond x 6 1) Nothing (at a.book p))
        go true = apt-plain 6 Nothing refl nothing-childless (λ n v i. omega arith)
        go false = apt-scheduled

    same-only : (k z : ℕ) → why_of a.book p ≡ Son k → Known z → z ≢ p → why_of a.book z ≡ Son k → ⊥
    same-only k z i Z n j = n (sym (F.once p z k P Z i j))

    pub apt-priced : (n : ℕ) → n ≤ 32767 → Apt e a.book p (with_priority n (at a.book p))
    apt-priced n l =
        apt-kept (with_priority n (at a.book p)) u refl l (F.right p P).timer (F.right p P).fitting (F.right p P).waiter
        (λ k. F.sons p k P) same-only (λ m v. v)

    pub apt-timed : (d i : ℕ) → Timer e.low e.high d i → Apt e a.book p (with_timer d i (at a.book p))
    apt-timed d i t =
        apt-kept (with_timer d i (at a.book p)) u refl (F.right p P).priority t (F.right p P).fitting (F.right p P).waiter
        (λ k. F.sons p k P) same-only (λ m v. v)

    pub apt-marked : in_wait (state_of a.book p) ≡ true → Apt e a.book p (with_mark (at a.book p))
    apt-marked w =
        apt-kept (with_mark (at a.book p)) u refl (F.right p P).priority (F.right p P).timer (F.right p P).fitting (λ v. w)
        (λ k. F.sons p k P) same-only (λ m v. v)

  pub apt-loaded : (nm : List ℕ) (n : ℕ) → (at a.book p).used ≡ false → legal nm ≡ true → n ≤ 32767
      → ((z : ℕ) → Known z → (at a.book z).used ≡ true → (at a.book z).name ≡ nm → ⊥) → Apt e a.book p (newcomer nm n)
  apt-loaded nm n u l m f = record {
    right = record {
      lawful = λ v. l;
      empty = λ v. clash {t = true} refl v;
      priority = m;
      timer = timer-none e.low e.high;
      fitting = refl;
      waiter = λ v. clash {t = false} v refl;
    };
    name = λ v z Z w x i. f z Z x (sym i);
    son = λ k i. absurd (nothing-childless k i);
    only = λ k z i Z w j. nothing-childless k i;
    user = λ w v. refl;
    used = λ w v. refl;
    awake = λ w v. absurd (v (ap (λ (r : Program). r.state) ((F.right p P).empty u)));
  }

  pub apt-unused : e.son ≡ p → e.user ≡ p → Apt e a.book p unused
  apt-unused i j = record {
    right = right-unused e.low e.high a.book.tracks a.book.numbers;
    name = λ v. clash {t = false} v refl;
    son = λ k v. absurd (nothing-childless k v);
    only = λ k z v Z w x. nothing-childless k v;
    user = λ w v. absurd (w (sym j));
    used = λ w v. absurd (w (sym i));
    awake = λ w v. absurd (w (sym i));
  }
