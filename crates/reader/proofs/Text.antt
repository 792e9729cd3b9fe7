-- A page's pieces between its bytes 10 are its lines, and nothing behind the last.
-- Assumes nothing.
use Prim.Native.Nat.{ℕ}
use mathlib.Core.Path.{◌≡◌, refl, ap, ◌∙◌}
use mathlib.Core.List.{List, [], ◌∷◌, ◌++◌, append_assoc}
use Rattle.lists.specs.Lists.{count, join}
use Rattle.text.specs.Text.{parts, entry}
use Rattle.page.specs.Page.{Line, bytes_of, bytes}
use Rattle.shapes.proofs.Pieces.{parts_at}

-- a line without its byte 10; and lines one behind another, before others
abbrev pub content : Line → List ℕ
content l = l.key ++ (61 ∷ l.value)

abbrev pub told : List Line → List (List ℕ) → List (List ℕ)
told [] rs = rs
told (l ∷ ls) rs = content l ∷ told ls rs

pub told-append : (xs ys : List Line) (rs : List (List ℕ)) → told (xs ++ ys) rs ≡ told xs (told ys rs)
told-append [] ys rs = refl
told-append (x ∷ xs) ys rs = ap (λ (r : List (List ℕ)). content x ∷ r) (told-append xs ys rs)

abbrev pub told_all : List (List Line) → List (List ℕ) → List (List ℕ)
told_all [] rs = rs
told_all (x ∷ xs) rs = told x (told_all xs rs)

pub told-join : (xs : List (List Line)) (rs : List (List ℕ)) → told (join xs) rs ≡ told_all xs rs
told-join [] rs = refl
told-join (x ∷ xs) rs = told-append x (join xs) rs ∙ ap (told x) (told-join xs rs)

-- lines without a byte 10
pub data Clean : List Line → Type 0 where
  clean-none : Clean []
  clean-more : {l : Line} {ls : List Line} → count 10 (content l) ≡ 0 → Clean ls → Clean (l ∷ ls)

pub clean-append : {xs ys : List Line} → Clean xs → Clean ys → Clean (xs ++ ys)
clean-append clean-none k = k
clean-append (clean-more e h) k = clean-more e (clean-append h k)

-- the pieces of a page are its lines
entry-content : (l : Line) (s : List ℕ) → bytes_of l ++ s ≡ content l ++ (10 ∷ s)
unfolding entry
entry-content l s = simp append_assoc

pub bytes-parts : {ls : List Line} → Clean ls → parts 10 (bytes ls) ≡ told ls ([] ∷ [])
unfolding bytes parts
bytes-parts clean-none = refl
bytes-parts (clean-more {l} {ls} e c) =
    ap (parts 10) (entry-content l (bytes ls)) ∙ parts_at 10 (content l) (bytes ls) e
    ∙ ap (λ (r : List (List ℕ)). content l ∷ r) (bytes-parts c)
