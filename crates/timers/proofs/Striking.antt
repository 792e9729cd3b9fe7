-- What a move of the clock makes of a record: what it leaves, and that a move in which the program does not start, and a later one behind it,
-- are one move.
-- Assumes nothing.
use Prim.Native.Nat.{ℕ, ◌≤◌, ◌<◌}
use native.Mathlib.Omega.{arith}
use native.Mathlib.Decide.{ℕ_discrete, dec_le}
use mathlib.Core.Path.{◌≡◌, refl, sym, ap, ap₂, ◌∙◌}
use mathlib.Core.Bool.{Bool, true, false, cond, ◌&&◌}
use lib.Dec.{leb, ltb, eqb}
use borrow.Author.Tests.{ltb-true, leb-true, lt-ltb, le-leb}
use Rattle.lists.proofs.Tests.{both, and, clash}
use Rattle.records.specs.declared.Program.{Program}
use Rattle.records.specs.declared.Why.TheVariants.{Nothing}
use Rattle.records.specs.Records.{missing, in_state, with_timer}
use Rattle.timers.specs.Inner.{falls_due, due_beyond, moved, starts, struck}
use Rattle.timers.proofs.Beyond.{due-beyond, beyond-none, beyond-again, beyond-still}

-- the test of a due
pub falls-true : (now : ℕ) (r : Program) → falls_due now r ≡ true → (1 ≤ r.due) × (r.due ≤ now)
unfolding falls_due
falls-true now r e =
    let h = both (ltb 0 r.due) (leb r.due now) e in
    (ltb-true 0 r.due h.0, leb-true r.due now h.1)

pub falls-is : (now : ℕ) (r : Program) → 1 ≤ r.due → r.due ≤ now → falls_due now r ≡ true
unfolding falls_due
falls-is now r h k = and (lt-ltb 0 r.due h) (le-leb r.due now k)

pub falls-not : (now : ℕ) (r : Program) → (1 ≤ r.due → now < r.due) → falls_due now r ≡ false
falls-not now r h = go (falls_due now r) refl
  where
    go : (b : Bool) → falls_due now r ≡ b → b ≡ false
    go true e = let k = falls-true now r e in absurd (omega (arith, k.1, h k.0))
    go false e = refl

pub falls-later : (now later : ℕ) (r : Program) → now ≤ later → falls_due now r ≡ true → falls_due later r ≡ true
falls-later now later r h e = let k = falls-true now r e in falls-is later r k.0 (omega (arith, k.1))

-- the record with its timer beyond
abbrev timed : ℕ → Program → Program
timed now r = with_timer (due_beyond now r.due r.interval) r.interval r

-- which is as it was where it does not fall due
pub moved-not : (now : ℕ) (r : Program) → falls_due now r ≡ false → moved now r ≡ r
moved-not now r e = ap (λ (b : Bool). cond b (timed now r) r) e

-- by the two tests
abbrev by : Bool → Bool → ℕ → Program → Program
by falls sleeps now r = cond (falls && sleeps) (in_state 1 Nothing (cond falls (timed now r) r)) (cond falls (timed now r) r)

module _ (now : ℕ) (r : Program) where
  pub struck-by : {falls sleeps : Bool} → falls_due now r ≡ falls → eqb r.state 0 ≡ sleeps → struck now r ≡ by falls sleeps now r
  unfolding starts
  struck-by e s = ap₂ (λ (f t : Bool). by f t now r) e s

  pub starts_by : {falls sleeps : Bool} → falls_due now r ≡ falls → eqb r.state 0 ≡ sleeps → starts now r ≡ (falls && sleeps)
  unfolding starts
  starts_by e s = ap₂ (λ (f t : Bool). f && t) e s

  pub struck-not : falls_due now r ≡ false → struck now r ≡ r
  struck-not e = struck-by e refl

  pub starts-not : falls_due now r ≡ false → starts now r ≡ false
  starts-not e = starts_by e refl

  -- what does not start does not fall due, or is busy
  pub starts-busy : starts now r ≡ false → falls_due now r ≡ true → eqb r.state 0 ≡ false
  starts-busy n e = go (eqb r.state 0) refl
    where
      go : (b : Bool) → eqb r.state 0 ≡ b → b ≡ false
      go true s = clash (starts_by e s) n
      go false s = refl

  -- the priority stays
  pub struck-priority : (struck now r).priority ≡ r.priority
  struck-priority = go (falls_due now r) refl (eqb r.state 0) refl
    where
      go : (f : Bool) → falls_due now r ≡ f → (s : Bool) → eqb r.state 0 ≡ s → (struck now r).priority ≡ r.priority
      go true e true s = ap (λ (x : Program). x.priority) (struck-by e s)
      go true e false s = ap (λ (x : Program). x.priority) (struck-by e s)
      go false e t s = ap (λ (x : Program). x.priority) (struck-not e)

-- no record
pub missing-stays : (now : ℕ) → struck now missing ≡ missing
missing-stays now = struck-not now missing (falls-not now missing (λ h. absurd (omega arith)))

-- over a moment at which the program does not start
module _ (now later : ℕ) (after : now ≤ later) (r : Program) (idle : starts now r ≡ false) where
  -- it was due, and is busy
  module _ (e : falls_due now r ≡ true) where
    d : ℕ
    d = due_beyond now r.due r.interval

    here : struck now r ≡ timed now r
    here = struck-by now r e (starts-busy now r idle e)

    straight : struck later r ≡ timed later r
    straight = struck-by later r (falls-later now later r after e) (starts-busy now r idle e)

    again : falls_due later (timed now r) ≡ true → struck later (timed now r) ≡ with_timer (due_beyond later d r.interval) r.interval r
    unfolding d
    again f = struck-by later (timed now r) f (starts-busy now r idle e)

    twice : struck later (timed now r) ≡ timed later r
    unfolding d
    twice = go (ℕ_discrete r.interval 0) (dec_le d later)
      where
        past : r.due ≤ now
        past = (falls-true now r e).1

        go : Dec (r.interval ≡ 0) → Dec (d ≤ later) → struck later (timed now r) ≡ timed later r
        go (yes z) w =
            let none : d ≡ 0 = beyond-none now r.due r.interval z in
            struck-not later (timed now r) (falls-not later (timed now r) (λ h. absurd (omega (arith, none))))
            ∙ ap (λ (x : ℕ). with_timer x r.interval r) (none ∙ sym (beyond-none later r.due r.interval z))
        go (no z) (yes w) =
            let i : 1 ≤ r.interval = omega (arith, z) in
            let B = due-beyond now r.due r.interval i past in
            again (falls-is later (timed now r) (omega (arith, B.above)) w)
            ∙ ap (λ (x : ℕ). with_timer x r.interval r) (beyond-again now later r.due r.interval i past after w)
        go (no z) (no w) =
            let i : 1 ≤ r.interval = omega (arith, z) in
            struck-not later (timed now r) (falls-not later (timed now r) (λ h. omega (arith, w)))
            ∙ ap (λ (x : ℕ). with_timer x r.interval r)
            (sym (beyond-still now later r.due r.interval i past after (omega (arith, w))))

  pub struck-again : struck later (struck now r) ≡ struck later r
  struck-again = go (falls_due now r) refl
    where
      go : (b : Bool) → falls_due now r ≡ b → struck later (struck now r) ≡ struck later r
      go true e = ap (struck later) (here e) ∙ twice e ∙ sym (straight e)
      go false e = ap (struck later) (struck-not now r e)

  -- and then it starts or not as it would have without that moment
  pub starts-again : starts later (struck now r) ≡ starts later r
  starts-again = go (falls_due now r) refl
    where
      busy : (x : Program) → eqb x.state 0 ≡ false → starts later x ≡ false
      busy x s = starts-two (falls_due later x) refl
        where
          starts-two : (b : Bool) → falls_due later x ≡ b → starts later x ≡ false
          starts-two true f = starts_by later x f s
          starts-two false f = starts_by later x f s

      go : (b : Bool) → falls_due now r ≡ b → starts later (struck now r) ≡ starts later r
      go true e =
          let s = starts-busy now r idle e in
          ap (starts later) (here e) ∙ busy (timed now r) s ∙ sym (busy r s)
      go false e = ap (starts later) (struck-not now r e)
