-- The verdict, case by case: what each of its tests says.
-- Assumes nothing.
use Prim.Native.Nat.{ℕ}
use mathlib.Core.Path.{◌≡◌, refl, sym, ap, ◌∙◌}
use mathlib.Core.Logic.{◌≢◌}
use mathlib.Core.Bool.{Bool, true, false}
use mathlib.Core.List.{List}
use borrow.Author.Tests.{eq-eqb, ne_eqb}
use Rattle.lists.specs.Lists.{alike}
use Rattle.lists.proofs.Tests.{clash, alike-true, alike_is}
use Rattle.tables.specs.declared.Tables.{Tables}
use Rattle.tables.specs.Tables.{plain}
use Rattle.tables.specs.Calls.{Result}
use Rattle.page.specs.Page.{page}
use Rattle.reader.specs.Reading.{not_read, reading}
use Rattle.reader.proofs.Exact.{not-read}
use Rattle.blocks.specs.Blocks.{tables_after}
use Rattle.following.specs.Differences.{differences}
use Rattle.following.specs.Following.{no_first, no_next, follows, does_not_follow, refused_at, compared, held_against, verdict}

-- a page that is not read, and its value
pub not-page : (s : List ℕ) → (reading s).number ≢ 0 → reading s ≡ not_read (refused_at (reading s))
not-page s n = let e = not-read s n in e ∙ ap (λ (r : Result). not_read (refused_at r)) (sym e)

module _ (t : Tables) (next : List ℕ) where
  pub held-not : (reading next).number ≢ 0 → held_against t next ≡ no_next (refused_at (reading next))
  unfolding held_against
  held-not n = rw (ne_eqb (reading next).number 0 n) refl

  pub held-is : (reading next).number ≡ 0 → held_against t next ≡ compared (page (plain t)) next
  unfolding held_against
  held-is e = rw (eq-eqb (reading next).number 0 e) refl

pub compared_same : (w s : List ℕ) → alike w s ≡ true → compared w s ≡ follows
unfolding compared
compared_same w s e = rw e refl

pub compared-other : (w s : List ℕ) → alike w s ≡ false → compared w s ≡ does_not_follow (differences s w)
unfolding compared
compared-other w s e = rw e refl

module _ (first : List ℕ) (ls : List (List ℕ)) (next : List ℕ) where
  pub first-not : (reading first).number ≢ 0 → verdict first ls next ≡ no_first (refused_at (reading first))
  unfolding verdict
  first-not n = rw (ne_eqb (reading first).number 0 n) refl

  pub first-is : (reading first).number ≡ 0 → verdict first ls next ≡ held_against (tables_after (reading first).tables ls) next
  unfolding verdict
  first-is e = rw (eq-eqb (reading first).number 0 e) refl

-- a comparison may be made either way round
pub other_way : (a b : List ℕ) (t : Bool) → alike a b ≡ t → alike b a ≡ t
other_way a b true e = alike_is b a (sym (alike-true a b e))
other_way a b false e = go (alike b a) refl
  where
    go : (u : Bool) → alike b a ≡ u → alike b a ≡ false
    go true f = clash (alike_is a b (sym (alike-true b a f))) e
    go false f = f

-- what a comparison of a text with the bytes of a page says of the page
pub page_alike : (t : Tables) (s written : List ℕ) (r b : Bool) → written ≡ page (plain t) → r ≡ alike s written → r ≡ b
    → alike (page (plain t)) s ≡ b
page_alike t s written r b e f g = other_way s (page (plain t)) b (ap (alike s) (sym e) ∙ sym f ∙ g)
