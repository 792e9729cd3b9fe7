-- The test of soundness is the test of the book and that of the chains: the same tests in another order.
-- Assumes nothing.
use mathlib.Core.Path.{◌≡◌, refl, sym, ap, ◌∙◌}
use mathlib.Core.Bool.{Bool, true, false, ◌&&◌}
use mathlib.Core.List.{List, [], ◌∷◌}
use Rattle.rules.specs.Test.{test_names, test_zeros, test_chains, test_whys, test_marks, test_system, test_users, test_unlocked}
use Rattle.rules.specs.Test.{test_limits, test_dues}
use Rattle.chains.specs.Links.{read, test_links}
use Rattle.ledger.specs.Ledger.{book_of, test_blank}
use Rattle.ledger.specs.Inner.{test_book}
use Rattle.tables.specs.declared.Tables.{Tables}
use Rattle.tables.specs.Sound.{sound}
use Rattle.tables.specs.Walks.{test_chained}

and_assoc : (x y z : Bool) → ((x && y) && z) ≡ (x && (y && z))
and_assoc true y z = refl
and_assoc false y z = refl

and-swap : (x y z : Bool) → ((x && y) && z) ≡ ((x && z) && y)
and-swap true true true = refl
and-swap true true false = refl
and-swap true false true = refl
and-swap true false false = refl
and-swap false y z = refl

-- a test and more tests; one of them put last
abbrev all_of : Bool → List Bool → Bool
all_of x [] = x
all_of x (y ∷ ys) = all_of (x && y) ys

last : (x z : Bool) (ys : List Bool) → all_of (x && z) ys ≡ (all_of x ys && z)
last x z [] = refl
last x z (y ∷ ys) = ap (λ (b : Bool). all_of b ys) (and-swap x z y) ∙ last (x && y) z ys

pub sound-parts : (t : Tables) → (test_book t.ledger && test_chained t.ledger.programs t.links) ≡ sound t
unfolding sound test_book test_chained test_chains
sound-parts t =
    let b = book_of t.ledger in
    let first = test_names b && test_zeros b in
    let c = test_chains b (read t.links) in
    let l = test_links t.links in
    let more = test_whys b ∷ test_marks b ∷ test_system b ∷ test_users b ∷ test_unlocked b ∷ test_blank t.ledger ∷ test_limits b ∷ test_dues b ∷ [] in
    sym (ap (λ (x : Bool). all_of x more) (and_assoc first c l) ∙ last first (c && l) more)

-- so the chains are looked at only where the book is sound
module _ (t : Tables) where
  pub book-fails : test_book t.ledger ≡ false → false ≡ sound t
  book-fails h = ap (λ (x : Bool). x && test_chained t.ledger.programs t.links) (sym h) ∙ sound-parts t

  pub book-passes : test_book t.ledger ≡ true → (c : Bool) → c ≡ test_chained t.ledger.programs t.links → c ≡ sound t
  book-passes h c k = k ∙ ap (λ (x : Bool). x && test_chained t.ledger.programs t.links) (sym h) ∙ sound-parts t
