-- The parts of a text that is cut in two: those that ended before the cut, and then those of the unended part with what follows.
-- Assumes nothing.
use Prim.Native.Nat.{ℕ, zero, suc}
use mathlib.Core.Path.{◌≡◌, refl, sym, ap, ◌∙◌}
use mathlib.Core.Bool.{Bool, true, false, cond}
use mathlib.Core.List.{List, [], ◌∷◌, ◌++◌}
use lib.ListN.{take}
use lib.Dec.{eqb}
use Rattle.text.specs.Text.{on_first, parts}
use Rattle.text.specs.Lines.{lines_ended, last_bytes}
use Rattle.text.proofs.Fields.{parts_cut}

-- a text without byte 10
pub data Plain : List ℕ → Type 0 where
  none : Plain []
  more : {x : ℕ} {xs : List ℕ} → eqb x 10 ≡ false → Plain xs → Plain (x ∷ xs)

pub plain-take : (n : ℕ) {s : List ℕ} → Plain s → Plain (take n s)
plain-take zero p = none
plain-take (suc n) none = none
plain-take (suc n) (more e p) = more e (plain-take n p)

parts-miss : (x : ℕ) (xs : List ℕ) → eqb x 10 ≡ false → parts 10 (x ∷ xs) ≡ on_first x (parts 10 xs)
unfolding parts
parts-miss x xs e = ap (λ (t : Bool). cond t ([] ∷ parts 10 xs) (on_first x (parts 10 xs))) e

-- it goes in front of the first part of what follows
pub parts-on : {o : List ℕ} → Plain o → (y f : List ℕ) (fs : List (List ℕ)) → parts 10 y ≡ f ∷ fs → parts 10 (o ++ y) ≡ (o ++ f) ∷ fs
parts-on none y f fs e = e
parts-on (more {x} {xs} n p) y f fs e = parts-miss x (xs ++ y) n ∙ ap (on_first x) (parts-on p y f fs e)

pub parts-plain : {o : List ℕ} → Plain o → parts 10 o ≡ o ∷ []
unfolding parts
parts-plain none = refl
parts-plain (more {x} {xs} n p) = parts-miss x xs n ∙ ap (on_first x) (parts-plain p)

-- some parts, one at least
lines_ended-more : (l m : List ℕ) (ms ls : List (List ℕ)) → ls ≡ m ∷ ms → lines_ended (l ∷ ls) ≡ l ∷ lines_ended ls
lines_ended-more l m ms ls e = ap (λ (xs : List (List ℕ)). lines_ended (l ∷ xs)) e ∙ ap (λ (xs : List (List ℕ)). l ∷ lines_ended xs) (sym e)

last_bytes-more : (l m : List ℕ) (ms ls : List (List ℕ)) → ls ≡ m ∷ ms → last_bytes (l ∷ ls) ≡ last_bytes ls
last_bytes-more l m ms ls e = ap (λ (xs : List (List ℕ)). last_bytes (l ∷ xs)) e ∙ ap last_bytes (sym e)

pub lines_ended-next : (l s : List ℕ) → lines_ended (l ∷ parts 10 s) ≡ l ∷ lines_ended (parts 10 s)
lines_ended-next l s = lines_ended-more l _ _ (parts 10 s) (parts_cut 10 s)

pub last_bytes-next : (l s : List ℕ) → last_bytes (l ∷ parts 10 s) ≡ last_bytes (parts 10 s)
last_bytes-next l s = last_bytes-more l _ _ (parts 10 s) (parts_cut 10 s)

-- the unended part has no byte 10
pub last_bytes-plain : (s : List ℕ) → Plain (last_bytes (parts 10 s))
unfolding parts
last_bytes-plain [] = none
last_bytes-plain (x ∷ xs) = go (eqb x 10) refl (last_bytes-plain xs)
  where
    first : (ls : List (List ℕ)) → eqb x 10 ≡ false → Plain (last_bytes ls) → Plain (last_bytes (on_first x ls))
    first [] n p = more n none
    first (f ∷ []) n p = more n p
    first (f ∷ g ∷ gs) n p = p

    go : (t : Bool) → eqb x 10 ≡ t → Plain (last_bytes (parts 10 xs)) → Plain (last_bytes (cond t ([] ∷ parts 10 xs) (on_first x (parts 10 xs))))
    go true e p = rw (last_bytes-next [] xs) p
    go false e p = first (parts 10 xs) e p

pub parts-append : (s y : List ℕ) → parts 10 (s ++ y) ≡ lines_ended (parts 10 s) ++ parts 10 (last_bytes (parts 10 s) ++ y)
unfolding parts
parts-append [] y = refl
parts-append (x ∷ xs) y = go (eqb x 10) refl (parts-append xs y)
  where
    first : (ls : List (List ℕ)) → eqb x 10 ≡ false
        → on_first x (lines_ended ls ++ parts 10 (last_bytes ls ++ y)) ≡ lines_ended (on_first x ls) ++ parts 10 (last_bytes (on_first x ls) ++ y)
    first [] n = sym (parts-miss x y n)
    first (f ∷ []) n = sym (parts-miss x (f ++ y) n)
    first (f ∷ g ∷ gs) n = refl

    go : (t : Bool) → eqb x 10 ≡ t → parts 10 (xs ++ y) ≡ lines_ended (parts 10 xs) ++ parts 10 (last_bytes (parts 10 xs) ++ y)
        → cond t ([] ∷ parts 10 (xs ++ y)) (on_first x (parts 10 (xs ++ y)))
        ≡ lines_ended (cond t ([] ∷ parts 10 xs) (on_first x (parts 10 xs)))
        ++ parts 10 (last_bytes (cond t ([] ∷ parts 10 xs) (on_first x (parts 10 xs))) ++ y)
    go true e ih = rw (lines_ended-next [] xs, last_bytes-next [] xs) (ap (λ (ls : List (List ℕ)). [] ∷ ls) ih)
    go false e ih = ap (on_first x) ih ∙ first (parts 10 xs) e
