-- Laws of the scan over the line at a place.
-- Assumes nothing.
use Prim.Native.Nat.{ℕ, suc}
use mathlib.Core.Path.{◌≡◌, refl, sym, ap, ◌∙◌}
use mathlib.Core.Bool.{Bool, true, false, cond}
use mathlib.Core.List.{List, [], ◌∷◌, ◌++◌}
use mathlib.Core.Option.{Option, none, some}
use lib.ListN.{drop}
use Rattle.lists.specs.Lists.{alike}
use Rattle.text.specs.Text.{behind, parts}
use Rattle.shapes.specs.Shapes.{there, into}
use Rattle.reader.specs.Order.{Place, Choice, value_behind, may_come, after_kind, after_one, behind_line, behind_all, first_bad}
use Rattle.shapes.specs.Inner.{LineIs, NoLine, unended, keyless, shapeless, word_is}
use Rattle.shapes.proofs.Marks.{some-part}
use Rattle.reader.proofs.ScanLaws.{value-behind, pass}

pub scan-line : (p q : Place) (l s : List ℕ) (n : ℕ) → behind_line p l ≡ some q
    → first_bad p n (l ∷ parts 10 s) ≡ first_bad q (suc n) (parts 10 s)
unfolding first_bad
scan-line p q l s n e =
    let (m, ls, f) = some-part 10 s in
    ap (λ (x : List (List ℕ)). first_bad p n (l ∷ x)) f
    ∙ ap (λ (o : Option Place). elim o [ none ↦ n | some r ↦ first_bad r (suc n) (m ∷ ls) ]) e
    ∙ ap (first_bad q (suc n)) (sym f)

pub scan-stop : (p : Place) (l s : List ℕ) (n : ℕ) → behind_line p l ≡ none → first_bad p n (l ∷ parts 10 s) ≡ n
unfolding first_bad
scan-stop p l s n e =
    let (m, ls, f) = some-part 10 s in
    ap (λ (x : List (List ℕ)). first_bad p n (l ∷ x)) f ∙ ap (λ
    (o : Option Place). elim o [ none ↦ n | some r ↦ first_bad r (suc n) (m ∷ ls) ]) e

-- two places behind which the line leads alike
pub scan-alike : (p q : Place) (l s : List ℕ) (n : ℕ) → behind_line p l ≡ behind_line q l → {ls : List (List ℕ)} → ls ≡ l ∷ parts 10 s
    → first_bad p n ls ≡ first_bad q n ls
unfolding first_bad
scan-alike p q l s n h e =
    let (m, ls, f) = some-part 10 s in
    let g = e ∙ ap (λ (x : List (List ℕ)). l ∷ x) f in
    ap (first_bad p n) g
    ∙ ap (λ (o : Option Place). elim o [ none ↦ n | some r ↦ first_bad r (suc n) (m ∷ ls) ]) h
    ∙ sym (ap (first_bad q n) g)

-- whether there is something, of what is made of it
pub there-into : {A : Type 0} {B : Type 0} (f : A → B) (o : Option A) → there (into f o) ≡ there o
there-into f none = refl
there-into f (some a) = refl

-- one that is of another kind, or of the kind but not of its shape
pub pass-key : (c : Choice) (cs : List Choice) (l : List ℕ) → behind (c.kind.key ++ (61 ∷ [])) l ≡ none
    → after_one (c ∷ cs) l ≡ after_one cs l
unfolding value_behind
pass-key c cs l e =
    ap (λ (o : Option (List ℕ)). elim o [ none ↦ after_one cs l | some v ↦ after_kind (c.then v) (c.kind.shape v) (after_one cs l) ]) e

pub pass_shape : (c : Choice) (cs : List Choice) (v : List ℕ) → c.kind.shape v ≡ false
    → after_one (c ∷ cs) (c.kind.key ++ (61 ∷ v)) ≡ after_one cs (c.kind.key ++ (61 ∷ v))
unfolding value_behind
pass_shape c cs v e =
    let l : List ℕ = c.kind.key ++ (61 ∷ v) in
    ap (λ (o : Option (List ℕ)). elim o [ none ↦ after_one cs l | some w ↦ after_kind (c.then w) (c.kind.shape w) (after_one cs l) ])
    (value-behind c.kind.key v)
    ∙ ap (λ (t : Bool). after_kind (c.then v) t (after_one cs l)) e

-- the scan over the line at a place, of the first kind that may come there
module _ {A : Type 0} (shape : List ℕ → Option A) (s : List ℕ) (at : ℕ) (p : Place) (c : Choice) (cs : List Choice)
    (may : may_come p ≡ c ∷ cs) where
  pub scan-on : {a : A} {next : ℕ} (l : LineIs shape s at c.kind.key a next) → c.kind.shape l.value ≡ there (shape l.value)
      → (n : ℕ)
      → first_bad p n (parts 10 (drop at s)) ≡ first_bad (c.then l.value) (suc n) (parts 10 (drop next s))
  unfolding behind_line
  scan-on {a} {next} l e n =
      ap (first_bad p n) l.cut
      ∙ scan-line p (c.then l.value) _ (drop next s) n
      (ap (λ (x : List Choice). after_one x (c.kind.key ++ (61 ∷ l.value))) may
      ∙ pass c.kind c.then cs l.value (e ∙ ap there l.shaped))

-- and where it is of the only kind that may come there, but is not there
module _ {A : Type 0} (shape : List ℕ → Option A) (s : List ℕ) (at : ℕ) (p : Place) (c : Choice) (may : may_come p ≡ c ∷ []) where
  pub scan-off : ((n : ℕ) (l : List ℕ) → behind_all p n l ≡ n) → ((v : List ℕ) → c.kind.shape v ≡ there (shape v))
      → NoLine shape s at c.kind.key → (n : ℕ) → first_bad p n (parts 10 (drop at s)) ≡ n
  unfolding behind_line first_bad
  scan-off b e (unended l k) n = ap (first_bad p n) k ∙ b n l
  scan-off b e (keyless l next k f) n =
      ap (first_bad p n) k
      ∙ scan-stop p l (drop next s) n (ap (λ (x : List Choice). after_one x l) may ∙ pass-key c [] l f)
  scan-off b e (shapeless v next k f) n =
      ap (first_bad p n) k
      ∙ scan-stop p (c.kind.key ++ (61 ∷ v)) (drop next s) n
      (ap (λ (x : List Choice). after_one x (c.kind.key ++ (61 ∷ v))) may ∙ pass_shape c [] v (e v ∙ ap there f))

-- whether a value is the word is what its shape says
pub word-there : (w v : List ℕ) → alike v w ≡ there (word_is w v)
word-there w v = go (alike v w)
  where
    go : (b : Bool) → b ≡ there (cond b (some true) none)
    go true = refl
    go false = refl
