-- What is handed back with a lent list: the figures at its front, or, where it is short, the places needed.
-- Assumes nothing.
use Prim.Native.Nat.{ℕ, ◌+◌, ◌*◌, ◌^◌, ◌≤◌, ◌<◌}
use native.Mathlib.Nat.{add_comm, zero-mul, suc-mul}
use native.Mathlib.Omega.{arith}
use mathlib.Core.Path.{◌≡◌, refl, sym, ap, ap₂, subst, ◌∙◌}
use mathlib.Core.Logic.{inl, inr}
use mathlib.Core.Bool.{Bool, cond}
use mathlib.Core.List.{List, [], ◌∷◌, ◌++◌, map}
use lib.ListN.{length, length-append, take}
use lib.Seq.{sets, length-take-le}
use borrow.Author.Tests.{le-leb, lt-leb}
use Rattle.lists.specs.Lists.{join}
use Rattle.text.proofs.Laws.{wrote-front}
use Rattle.rules.specs.declared.Answer.TheVariants.{Done, TooShort}
use Rattle.rules.specs.Engine.{front}
use Rattle.transcripts.specs.Listing.{Listed, listed_lines, figures_of, answered, filled}
use Rattle.transcripts.specs.Inner.{Width, cut, Fills, filled_by}

pub cut-none : (c : List ℕ) (ds : List Listed) → cut 0 c ds ≡ []
cut-none c [] = refl
cut-none c (d ∷ ds) = cut-none c ds

pub cut-numbers : (c : List ℕ) (ds : List Listed) → cut 1 c ds ≡ map (λ (d : Listed). d.number) ds
cut-numbers c [] = refl
cut-numbers c (d ∷ ds) = ap (λ (ns : List ℕ). d.number ∷ ns) (cut-numbers c ds)

pub cut_all : (c : List ℕ) (ds : List Listed) → cut 3 c ds ≡ join (map (figures_of c) ds)
cut_all c [] = refl
cut_all c (d ∷ ds) = ap (λ (ns : List ℕ). figures_of c d ++ ns) (cut_all c ds)

-- as many figures of a line as the width says
pub width-long : (w : ℕ) → Width w → (xs : List ℕ) → length xs ≡ 3 → length (take w xs) ≡ w
width-long w v xs e = go v
  where
    go : Width w → length (take w xs) ≡ w
    go (inl q) = length-take-le w xs (omega arith)
    go (inr (inl q)) = length-take-le w xs (omega arith)
    go (inr (inr q)) = length-take-le w xs (omega arith)

pub cut-long : (w : ℕ) → Width w → (c : List ℕ) (ds : List Listed) → length (cut w c ds) ≡ length ds * w
cut-long w v c [] = sym (zero-mul w)
cut-long w v c (d ∷ ds) =
    length-append (take w (figures_of c d)) (cut w c ds)
    ∙ ap₂ ◌+◌ (width-long w v (figures_of c d) refl) (cut-long w v c ds) ∙ add_comm w (length ds * w) ∙ sym (suc-mul (length ds) w)

-- three for each line can be counted
pub width_fits : (w n m : ℕ) → Width w → n + n ≤ m → m ≤ 2 ^ 63 → n * w < 2 ^ 64
width_fits w n m (inl q) a b = subst (λ (i : ℕ). n * i < 2 ^ 64) (sym q) (omega arith)
width_fits w n m (inr (inl q)) a b = subst (λ (i : ℕ). n * i < 2 ^ 64) (sym q) (omega arith)
width_fits w n m (inr (inr q)) a b = subst (λ (i : ℕ). n * i < 2 ^ 64) (sym q) (omega arith)

-- a list is short, or not
pub filled-short : (n : ℕ) (figures list : List ℕ) → length list < length figures
    → filled n figures list ≡ answered (TooShort (length figures)) list
filled-short n figures list h =
    ap
    (λ (b : Bool). cond b (record { number = 0; values = n ∷ []; list = front figures list })
    (record { number = 12; values = length figures ∷ []; list = list }))
    (lt-leb (length figures) (length list) h)

pub filled-long : (n : ℕ) (figures list after : List ℕ) → length figures ≤ length list → after ≡ sets list 0 figures
    → filled n figures list ≡ answered (Done n) after
filled-long n figures list after h e =
    ap
    (λ (b : Bool). cond b (record { number = 0; values = n ∷ []; list = front figures list })
    (record { number = 12; values = length figures ∷ []; list = list }))
    (le-leb (length figures) (length list) h)
    ∙ ap (λ (l : List ℕ). answered (Done n) l)
    (sym (wrote-front {l = list} {x = figures} {l' = after} {n = 0 + length figures} (record { buffer = e; place = refl }) h))

module _ (o c l l' : List ℕ) (n w : ℕ) (v : Width w) (f : Fills 0 o c l l' n) where
  -- counting writes nothing
  counted_same : l' ≡ l
  counted_same = f.list ∙ ap (sets l 0) (cut-none c (listed_lines o c))

  -- the places needed
  needs-places : n * w ≡ length (cut w c (listed_lines o c))
  needs-places = ap (λ (k : ℕ). k * w) f.many ∙ sym (cut-long w v c (listed_lines o c))

  pub told-short : length l' < n * w → answered (TooShort (n * w)) l' ≡ filled_by w o c l
  told-short h =
      ap₂ (λ (k : ℕ) (x : List ℕ). answered (TooShort k) x) needs-places counted_same
      ∙ sym (filled-short (length (listed_lines o c)) (cut w c (listed_lines o c)) l (omega (arith, needs-places, ap length counted_same)))

  pub put-room : n * w ≤ length l' → length (cut w c (listed_lines o c)) ≤ length l'
  put-room h = omega (arith, needs-places)

  pub told-all : (l'' : List ℕ) (m : ℕ) → n * w ≤ length l' → Fills w o c l' l'' m → answered (Done n) l'' ≡ filled_by w o c l
  told-all l'' m h g =
      ap (λ (k : ℕ). answered (Done k) l'') f.many
      ∙ sym (filled-long (length (listed_lines o c)) (cut w c (listed_lines o c)) l l'' (omega (arith, needs-places, ap length counted_same))
      (g.list ∙ ap (λ (x : List ℕ). sets x 0 (cut w c (listed_lines o c))) counted_same))
