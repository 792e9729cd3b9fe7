-- Tables that a page says, judged: read where they are sound and write these bytes.
-- Assumes nothing.
use Prim.Native.Nat.{ℕ}
use mathlib.Core.Path.{◌≡◌, refl, sym, ap, ap₂, ◌∙◌}
use mathlib.Core.Bool.{Bool, true, false, ◌&&◌}
use mathlib.Core.List.{List}
use Rattle.lists.specs.Lists.{alike}
use Rattle.lists.proofs.Tests.{alike-true, alike_is, clash}
use Rattle.rules.specs.declared.Answer.TheVariants.{Done}
use Rattle.tables.specs.declared.Tables.{Tables}
use Rattle.tables.specs.Tables.{plain}
use Rattle.tables.specs.Sound.{sound}
use Rattle.tables.specs.Calls.{Result, told}
use Rattle.page.specs.Page.{page}
use Rattle.reader.specs.Reading.{was_read, not_read, writes, judged}

judge-if : List ℕ → Tables → Bool → Result
judge-if s t b = elim b [ true ↦ was_read t | false ↦ not_read 0 ]

-- the comparison may be made either way round
other_way : (a b : List ℕ) (t : Bool) → alike a b ≡ t → alike b a ≡ t
other_way a b true e = alike_is b a (sym (alike-true a b e))
other_way a b false e = go (alike b a) refl
  where
    go : (u : Bool) → alike b a ≡ u → alike b a ≡ false
    go true f = clash (alike_is a b (sym (alike-true b a f))) e
    go false f = f

module _ (s : List ℕ) (t : Tables) {x : Result} where
  pub unsound : sound t ≡ false → x ≡ not_read 0 → x ≡ judged s 0 t
  unfolding writes judge-if
  unsound e f = f ∙ sym (ap (λ (b : Bool). judge-if s t (b && alike (page (plain t)) s)) e)

  pub other-bytes : sound t ≡ true → alike s (page (plain t)) ≡ false → x ≡ not_read 0 → x ≡ judged s 0 t
  unfolding writes judge-if
  other-bytes e k f =
      f ∙ sym (ap₂ (λ (b c : Bool). judge-if s t (b && c)) e (other_way s (page (plain t)) false k))

pub these-bytes : (s : List ℕ) (t : Tables) → sound t ≡ true → alike s (page (plain t)) ≡ true
    → told (record { answer = Done 0; tables = t }) ≡ judged s 0 t
unfolding writes judge-if
these-bytes s t e k = sym (ap₂ (λ (b c : Bool). judge-if s t (b && c)) e (other_way s (page (plain t)) true k))
