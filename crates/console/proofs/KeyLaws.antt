-- What a line does: the test of soundness comes first, whatever the line asks.
-- Assumes nothing.
use Prim.Native.Nat.{ℕ}
use native.Mathlib.Omega.{arith}
use mathlib.Core.Path.{◌≡◌, refl, sym, ap}
use mathlib.Core.Bool.{Bool, true, false}
use mathlib.Core.List.{List, [], ◌∷◌}
use Rattle.lists.proofs.Tests.{false-true}
use Rattle.rules.specs.declared.Answer.TheVariants.{NotUnderstood, NotSound}
use Rattle.rules.specs.Requests.{Request}
use Rattle.tables.specs.declared.Tables.{Tables}
use Rattle.tables.specs.Sound.{sound}
use Rattle.tables.specs.Calls.{told, asked, many_ticks}
use Rattle.tables.proofs.Serving.{asked-unsound}
use Rattle.tables.proofs.ManyTicks.{told-unsound}
use Rattle.rules.specs.Engine.{beside, not_sound, paged_in}
use Rattle.page.specs.Paging.{Written, paged}
use Rattle.console.specs.declared.Said.{Said}
use Rattle.console.specs.declared.Said.TheVariants.{Bad, Page, Asks, Ticks}
use Rattle.console.specs.Line.{Line, bad, PAGE, asks, ticks, line_of}
use Rattle.console.specs.Console.{obeyed, keyed, keyed_in}
use Rattle.console.specs.Inner.{obeys, refusing, is_page, says}

-- a line keyed in is obeyed as what it says
pub keyed-obeys : (t : Tables) (l buf : List ℕ) → keyed t l buf ≡ obeys t buf (line_of l)
unfolding keyed_in obeys
keyed-obeys t l buf = refl

-- what a line does by the test of soundness, b
abbrev pub doing : Bool → Tables → List ℕ → Line → Written
doing b t buf l = elim b [ true ↦ obeyed t buf l | false ↦ beside buf (not_sound t) ]

pub obeys-asks : (t : Tables) (buf : List ℕ) (q : Request) → obeys t buf (asks q) ≡ beside buf (asked t q)
unfolding obeys
obeys-asks t buf q = go (sound t) refl
  where
    go : (b : Bool) → sound t ≡ b → doing b t buf (asks q) ≡ beside buf (asked t q)
    go true e = refl
    go false e = ap (beside buf) (asked-unsound t q e)

pub obeys-ticks : (t : Tables) (buf : List ℕ) (n : ℕ) → obeys t buf (ticks n) ≡ beside buf (many_ticks t n)
unfolding obeys
obeys-ticks t buf n = go (sound t) refl
  where
    go : (b : Bool) → sound t ≡ b → doing b t buf (ticks n) ≡ beside buf (many_ticks t n)
    go true e = refl
    go false e = ap (beside buf) (told-unsound t n e)

pub obeys-page : (t : Tables) (buf : List ℕ) → obeys t buf PAGE ≡ paged t buf
unfolding obeys paged_in
obeys-page t buf = go (sound t) refl
  where
    go : (b : Bool) → sound t ≡ b → doing b t buf PAGE ≡ paged t buf
    go true e = refl
    go false e = rw (e, paged_in)

pub obeys-bad : (t : Tables) (buf : List ℕ) → obeys t buf bad ≡ beside buf (refusing t)
unfolding obeys
obeys-bad t buf = go (sound t)
  where
    go : (b : Bool)
        → doing b t buf bad ≡ beside buf (elim b [ true ↦ record { number = 13; values = 0 ∷ []; tables = t } | false ↦ not_sound t ])
    go true = refl
    go false = refl

-- a line that is not understood, in code's terms
pub refusing-sound : (t : Tables) → sound t ≡ true → told (record { answer = NotUnderstood; tables = t }) ≡ refusing t
refusing-sound t e = rw (e, refusing)

pub refusing-unsound : (t : Tables) → sound t ≡ false → told (record { answer = NotSound; tables = t }) ≡ refusing t
refusing-unsound t e = rw (e, refusing)

-- what is not PAGE
pub page-unsaid : (a : Said) → is_page a ≡ false → says a ≡ PAGE → ⊥
page-unsaid Bad e s = let z : ◌≡◌ {A = ℕ} 0 1 = cc in omega arith
page-unsaid Page e s = false-true (sym e)
page-unsaid (Asks q) e s = let z : ◌≡◌ {A = ℕ} 0 1 = cc in omega arith
page-unsaid (Ticks n) e s = let z : ◌≡◌ {A = ℕ} 0 1 = cc in omega arith
