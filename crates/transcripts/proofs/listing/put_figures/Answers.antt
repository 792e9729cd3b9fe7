-- `listing::put_figures` meets its contract: none, one or all three figures are stored one behind another. Assumes nothing.
use Prim.Native.Nat.{ℕ, suc, ◌+◌, ◌≤◌}
use native.Mathlib.Omega.{arith}
use mathlib.Core.Path.{◌≡◌, refl, sym, ap₂, subst}
use mathlib.Core.Logic.{inl, inr}
use mathlib.Core.List.{[], ◌∷◌}
use lib.ListN.{length, take, set, length-set}
use Rattle.text.specs.Inner.{Wrote}
use Rattle.text.proofs.Laws.{wrote_none}
use Rattle.transcripts.specs.Inner.{Width}
use Rattle.transcripts.proofs.listing.put_figures.Goals.{Else-width-eq1}
use Rattle.transcripts.proofs.listing.put_figures.Goals as goal

-- what is no width of none and of one is three
three : (w : ℕ) → Width w → (w ≡ 0 → ⊥) → (w ≡ 1 → ⊥) → w ≡ 3
three w (inl e) z o = absurd (z e)
three w (inr (inl e)) z o = absurd (o e)
three w (inr (inr e)) z o = e

pub returns-then-width-eq0 : goal.returns-then-width-eq0
returns-then-width-eq0 c =
    let a = c.args in
    subst (λ (w : ℕ). Wrote a.list.now a.at (take w (a.line ∷ a.begins ∷ a.other ∷ [])) a.list.now a.at)
    (sym c.if-width-eq0.true)
    wrote_none

pub returns-then-width-eq1 : goal.returns-then-width-eq1
returns-then-width-eq1 c =
    let a = c.args in
    let l = a.list.now in
    subst (λ (w : ℕ). Wrote l a.at (take w (a.line ∷ a.begins ∷ a.other ∷ [])) (set l a.at a.line) (a.at + 1))
    (sym c.if-width-eq1.true)
    (record { buffer = refl; place = omega arith })

-- three are put, and there is room for them
room : (c : Else-width-eq1) → c.args.at + 3 ≤ length c.args.list.now
room c =
    omega (arith, c.requires.width_in_bounds, three c.args.width c.requires.width c.if-width-eq0.false c.if-width-eq1.false)

pub bounds-list-at-2 : goal.bounds-list-at-2
bounds-list-at-2 c = let a = c.args in omega (arith, room (goal.at.bounds-list-at-2 c).Else-width-eq1, length-set a.list.now a.at a.line)

pub bounds-list-at-3 : goal.bounds-list-at-3
bounds-list-at-3 c =
    let a = c.args in
    omega (
      arith,
      room (goal.at.bounds-list-at-3 c).Else-width-eq1,
      length-set a.list.now a.at a.line,
      length-set (set a.list.now a.at a.line) (a.at + 1) a.begins,
    )

pub returns : goal.returns
returns c =
    let a = c.args in
    let l = a.list.now in
    let two : suc (suc a.at) ≡ a.at + 2 = omega arith in
    let one : suc a.at ≡ a.at + 1 = omega arith in
    subst
    (λ (w : ℕ). Wrote l a.at (take w (a.line ∷ a.begins ∷ a.other ∷ []))
    (set (set (set l a.at a.line) (a.at + 1) a.begins) (a.at + 2) a.other) (a.at + 3))
    (sym (three a.width c.requires.width c.if-width-eq0.false c.if-width-eq1.false))
    (record {
      buffer = sym (ap₂ (λ (i j : ℕ). set (set (set l a.at a.line) i a.begins) j a.other) one two);
      place = omega arith;
    })
