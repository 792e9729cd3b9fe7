-- FRESH, TICK, and a call of the running program: its caller first.
-- Assumes nothing.
use Prim.Native.Nat.{ℕ, ◌+◌, ◌≤◌, ◌<◌}
use native.Mathlib.Omega.{arith}
use mathlib.Core.Path.{◌≡◌, refl, ◌∙◌}
use mathlib.Core.Bool.{true, false, ◌&&◌}
use mathlib.Core.List.{List, [], ◌∷◌, map}
use lib.ListN.{length}
use lib.Dec.{eqb}
use borrow.Author.Tests.{lt-ltb, le-ltb}
use Rattle.lists.specs.Lists.{keep, join}
use Rattle.clock.specs.Clock.{ceiling}
use Rattle.records.specs.Records.{all}
use Rattle.rules.specs.Book.{at, state_of}
use Rattle.rules.specs.declared.Order.{Order}
use Rattle.rules.specs.declared.Order.TheVariants.{Ru, Ss, Go, Pr, Of}
use Rattle.rules.specs.Requests.{Call, FRESH, TICK, operator, running}
use Rattle.rules.specs.Coded.{the_order}
use Rattle.rules.specs.Plans.{View, refused, done, renewed, clocked}
use Rattle.rules.specs.Rules.{may_start, head, plan, call, order, due_at, ticked}
use Rattle.rules.proofs.shared.Starting.{starts-true}
use Rattle.rules.proofs.shared.Paths.{need-met, need-failed, caller-none, caller-is}
use Rattle.decisions.specs.Inner.{Sizes, Fits, task_of, going, asking}

pub sizes-true : (T S R Y : ℕ) → may_start T S R Y ≡ true → Sizes T S R Y
sizes-true T S R Y e =
    let Z = starts-true T S R Y e in
    record { least = Z.some; most = Z.most; part = Z.first; few = Z.few; earliest = Z.earliest; latest = Z.latest }

module _ (v : View) where
  pub renewing : (T S R Y : ℕ) → may_start T S R Y ≡ true → plan v (FRESH T S R Y) ≡ done (0 ∷ []) (renewed T S R Y ∷ [])
  unfolding plan
  renewing T S R Y e = need-met 3 0 _ e

  pub renewing-not : (T S R Y : ℕ) → may_start T S R Y ≡ false → plan v (FRESH T S R Y) ≡ refused 3 0
  unfolding plan
  renewing-not T S R Y e = need-failed 3 0 _ e

  pub ticking : v.book.clock < ceiling → plan v TICK
      ≡ done (length (keep (λ p. due_at v.book p && eqb (state_of v.book p) 0) all) ∷ [])
      (clocked (v.book.clock + 1) ∷ join (map (λ p. ticked p (at v.book p)) (keep (due_at v.book) all)))
  unfolding plan
  ticking h = need-met 11 0 _ (lt-ltb v.book.clock ceiling h)

  pub ticking-not : ceiling ≤ v.book.clock → plan v TICK ≡ refused 11 0
  unfolding plan
  ticking-not h = need-failed 11 0 _ (le-ltb v.book.clock ceiling h)

  module _ (q : Call) (c : ℕ) (C : head (v.chain 1) ≡ c) where
    pub no-caller : c ≡ 0 → plan v (running q) ≡ refused 2 0
    unfolding plan
    no-caller e = caller-none v (λ p. call v p q) (C ∙ e)

    pub by-caller : 1 ≤ c → plan v (running q) ≡ call v c q
    unfolding plan
    by-caller h = caller-is v (λ p. call v p q) c C h

-- an order is a task of the program that it names
pub order-fits : (o : Order) → Fits 0 (task_of o)
order-fits Ru = omega arith
order-fits Ss = tt
order-fits Go = omega arith
order-fits (Pr n) = tt
order-fits (Of k) = tt

pub order-asks : (v : View) (nm : List ℕ) (o : Order) → plan v (operator (the_order o) nm) ≡ asking v 0 nm (task_of o)
unfolding plan order asking going
order-asks v nm Ru = refl
order-asks v nm Ss = refl
order-asks v nm Go = refl
order-asks v nm (Pr n) = refl
order-asks v nm (Of k) = refl
