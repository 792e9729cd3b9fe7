-- Two pages that are not one have a difference. Both end with byte 10, so their lines tell them: where the desk lists none, the lines part
-- somewhere.
-- Assumes nothing.
use Prim.Native.Nat.{ℕ, suc, ◌≤◌}
use native.Mathlib.Omega.{arith}
use mathlib.Core.Path.{◌≡◌, refl, sym, ap, subst, ◌∙◌}
use mathlib.Core.Bool.{Bool, true, false, cond}
use mathlib.Core.List.{List, [], ◌∷◌, ◌++◌, append-nil}
use mathlib.Core.Option.{some}
use lib.ListN.{length}
use lib.Dec.{eqb}
use borrow.Author.Tests.{eqb-true}
use Rattle.lists.specs.Lists.{alike, join}
use Rattle.lists.proofs.Tests.{alike-true}
use Rattle.text.specs.Text.{text, on_first, parts, between, entry}
use Rattle.text.specs.Lines.{drop_empty, lines_of, last_bytes}
use Rattle.text.proofs.Fields.{parts_cut}
use Rattle.rules.specs.Keeper.{lists, State}
use Rattle.page.specs.Page as made
use Rattle.page.specs.Page.{Line, line, end_key, last_word, bytes, page}
use Rattle.page.proofs.Writing.{pieces, page-pieces}
use Rattle.following.specs.Differences as differ
use Rattle.following.specs.Differences.{Difference, listed, or_else, parting, differences}

-- a text that ends with byte 10; bytes in front of it change nothing
pub data EndsTen : List ℕ → Type 0 where
  here : EndsTen (10 ∷ [])
  more : (x : ℕ) {xs : List ℕ} → EndsTen xs → EndsTen (x ∷ xs)

behind : (xs : List ℕ) {ys : List ℕ} → EndsTen ys → EndsTen (xs ++ ys)
behind [] e = e
behind (x ∷ xs) e = more x (behind xs e)

-- texts one after the other, the last of which does
data LastEnds : List (List ℕ) → Type 0 where
  last : {x : List ℕ} → EndsTen x → LastEnds (x ∷ [])
  next : {x : List ℕ} {xs : List (List ℕ)} → LastEnds xs → LastEnds (x ∷ xs)

join-ends : {xs : List (List ℕ)} → LastEnds xs → EndsTen (join xs)
join-ends (last {x} e) = subst EndsTen (sym (append-nil x)) e
join-ends (next {x} {xs} p) = behind x (join-ends p)

-- so does a page: `end=page`
word : EndsTen (bytes (line end_key (text last_word) ∷ []))
unfolding bytes entry
word = more 101 (more 110 (more 100 (more 61 (more 112 (more 97 (more 103 (more 101 here)))))))

pub page-ends : (a : State lists) → EndsTen (page a)
page-ends a =
    let p : LastEnds (pieces (λ (ls : List Line). ls) (made.parts a)) = next (next (next (next (next (last word))))) in
    subst EndsTen (sym (page-pieces a)) (join-ends p)

-- its parts are two or more, the last of them empty
record Split (s : List ℕ) : Type 0 where
  first : List ℕ
  second : List ℕ
  others : List (List ℕ)
  is : parts 10 s ≡ first ∷ second ∷ others
  last : last_bytes (second ∷ others) ≡ []

split : {s : List ℕ} → EndsTen s → Split s
unfolding parts
split here = record { first = []; second = []; others = []; is = refl; last = refl }
split (more x {xs} e) = go (eqb x 10) refl (split e)
  where
    go : (b : Bool) → eqb x 10 ≡ b → Split xs → Split (x ∷ xs)
    go true t p = record {
      first = [];
      second = p.first;
      others = p.second ∷ p.others;
      is = ap (λ (c : Bool). cond c ([] ∷ parts 10 xs) (on_first x (parts 10 xs))) t ∙ ap (λ (ls : List (List ℕ)). [] ∷ ls) p.is;
      last = p.last;
    }
    go false t p = record {
      first = x ∷ p.first;
      second = p.second;
      others = p.others;
      is = ap (λ (c : Bool). cond c ([] ∷ parts 10 xs) (on_first x (parts 10 xs))) t ∙ ap (on_first x) p.is;
      last = p.last;
    }

-- parts with a byte 10 between each two are the text again
apart : (x : ℕ) (ls : List (List ℕ)) → between 10 (on_first x ls) ≡ x ∷ between 10 ls
apart x [] = refl
apart x (f ∷ []) = refl
apart x (f ∷ g ∷ gs) = refl

again : (s : List ℕ) → between 10 (parts 10 s) ≡ s
unfolding parts
again [] = refl
again (x ∷ xs) = go (eqb x 10) refl (again xs)
  where
    ten : between 10 ([] ∷ parts 10 xs) ≡ 10 ∷ between 10 (parts 10 xs)
    ten =
        let e = parts_cut 10 xs in
        ap (λ (ls : List (List ℕ)). between 10 ([] ∷ ls)) e ∙ ap (λ (ls : List (List ℕ)). 10 ∷ between 10 ls) (sym e)

    go : (b : Bool) → eqb x 10 ≡ b → between 10 (parts 10 xs) ≡ xs
        → between 10 (cond b ([] ∷ parts 10 xs) (on_first x (parts 10 xs))) ≡ x ∷ xs
    go true t ih = ten ∙ (λ i. sym (eqb-true x 10 t) i ∷ ih i)
    go false t ih = apart x (parts 10 xs) ∙ ap (λ (ys : List ℕ). x ∷ ys) ih

-- the lines are the parts less the last, which is empty
stays : (f g : List ℕ) (gs : List (List ℕ)) → drop_empty (f ∷ g ∷ gs) ≡ f ∷ drop_empty (g ∷ gs)
stays [] g gs = refl
stays (x ∷ xs) g gs = refl

dropped : (gs : List (List ℕ)) (f g : List ℕ) → last_bytes (g ∷ gs) ≡ [] → f ∷ g ∷ gs ≡ drop_empty (f ∷ g ∷ gs) ++ ([] ∷ [])
dropped [] f g e = subst (λ (h : List ℕ). f ∷ h ∷ [] ≡ drop_empty (f ∷ h ∷ []) ++ ([] ∷ [])) (sym e) (base f)
  where
    base : (f : List ℕ) → f ∷ [] ∷ [] ≡ drop_empty (f ∷ [] ∷ []) ++ ([] ∷ [])
    base [] = refl
    base (x ∷ xs) = refl
dropped (h ∷ hs) f g e =
    ap (λ (ls : List (List ℕ)). f ∷ ls) (dropped hs g h e)
    ∙ ap (λ (ls : List (List ℕ)). ls ++ ([] ∷ [])) (sym (stays f g (h ∷ hs)))

told-again : {s : List ℕ} → EndsTen s → s ≡ between 10 (lines_of s ++ ([] ∷ []))
unfolding lines_of
told-again {s} e =
    let p = split e in
    sym (again s)
    ∙ ap (between 10) (p.is ∙ dropped p.others p.first p.second p.last
    ∙ ap (λ (ls : List (List ℕ)). drop_empty ls ++ ([] ∷ [])) (sym p.is))

lines-tell : {s w : List ℕ} → EndsTen s → EndsTen w → lines_of s ≡ lines_of w → s ≡ w
lines-tell e f q = told-again e ∙ ap (λ (ls : List (List ℕ)). between 10 (ls ++ ([] ∷ []))) q ∙ sym (told-again f)

-- lines that are not the same part somewhere
parting-some : (n : ℕ) (xs ys : List (List ℕ)) → (xs ≡ ys → ⊥) → 1 ≤ length (parting n xs ys)
unfolding parting
parting-some n [] [] f = absurd (f refl)
parting-some n [] (y ∷ ys) f = omega arith
parting-some n (x ∷ xs) [] f = omega arith
parting-some n (x ∷ xs) (y ∷ ys) f =
    go (alike x y) refl (λ e. parting-some (suc n) xs ys (λ q. f (λ i. alike-true x y e i ∷ q i)))
  where
    go : (b : Bool) → alike x y ≡ b → (alike x y ≡ true → 1 ≤ length (parting (suc n) xs ys))
        → 1 ≤ length (cond b (parting (suc n) xs ys) (differ.line n (some x) (some y) ∷ []))
    go true e r = r e
    go false e r = omega arith

pub some-difference : {s w : List ℕ} → EndsTen s → EndsTen w → (s ≡ w → ⊥) → 1 ≤ length (differences s w)
unfolding differences
some-difference {s} {w} e f n = go (listed s w)
  where
    go : (ds : List Difference) → 1 ≤ length (or_else ds (parting 1 (lines_of s) (lines_of w)))
    go [] = parting-some 1 (lines_of s) (lines_of w) (λ q. n (lines-tell e f q))
    go (d ∷ ds) = omega arith
