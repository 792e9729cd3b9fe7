-- Numbers up to a mark, alone, behind a word, or where a word may stand in their place.
-- Assumes nothing.
use Prim.Native.Nat.{ℕ, zero, suc, ◌+◌, ◌*◌, ◌-◌, ◌<◌, ◌≤◌}
use native.Mathlib.Omega.{arith}
use mathlib.Core.Path.{◌≡◌, refl, sym, ap, ap₂, ◌∙◌, subst}
use mathlib.Core.Logic.{◌≢◌}
use mathlib.Core.Bool.{Bool, true, false}
use mathlib.Core.List.{List, [], ◌∷◌, ◌++◌, append_assoc}
use mathlib.Core.Option.{Option, none, some, none-ne-some}
use lib.Dec.{ltb}
use lib.ListN.{length, get_or, drop, take, length-drop, length-append, get_or-append}
use lib.Seq.{slice, split_at, get_or-drop, get_or-take, get_or-append_seam, drop-drop, length-slice}
use borrow.Author.Tests.{ltb-true, ltb-false}
use Rattle.limits.specs.Limits.{page_digits}
use Rattle.lists.specs.Lists.{same, up_to, count}
use Rattle.lists.proofs.Tests.{clash}
use Rattle.lists.proofs.Laws.{count-append}
use Rattle.text.specs.declared.Digits.{Digits}
use Rattle.text.specs.Inner.{DigitsFrom, BehindAt}
use Rattle.text.specs.Text.{text, horner, behind}
use Rattle.text.proofs.Fields.{drop-take, slice-head}
use Rattle.text.proofs.Words.{behind-append, behind-exact}
use Rattle.text.proofs.Read.{number_of-plain}
use Rattle.text.proofs.Exact.{Plain, plain, number_of-exact}
use Rattle.records.specs.Numbers.{globally}
use Rattle.page.specs.Page.{dash, global_word}
use Rattle.shapes.specs.Shapes.{word, figure, figure_or_dash, party_of, next}
use Rattle.shapes.specs.Inner.{coded_by, word_is}
use Rattle.shapes.proofs.Pieces.{decimal-only}
use Rattle.std.specs.Prelude as option
use Rattle.std.specs.Prelude.{Some, None}
use Rattle.shapes.specs.Inner.{SaidIs, NotSaid, FigureTo}
use Rattle.shapes.proofs.Marks.{Free, word-free, either-free, named, unnamed, either_first, either_second, neither}
use Rattle.shapes.proofs.Marks.{same-front, found-behind, not_behind}

-- NUMBERS
-- every byte of a number is a digit
digit_at : (l : List ℕ) (a n i : ℕ) → horner a l ≡ some n → i < length l → up_to 48 57 (get_or l i 0) ≡ true
digit_at [] a n i e h = absurd (omega arith)
digit_at (x ∷ l) a n zero e h = go (up_to 48 57 x) refl e
  where
    go : (t : Bool) → up_to 48 57 x ≡ t → elim t [ true ↦ horner (a * 10 + (x - 48)) l | false ↦ none ] ≡ some n → up_to 48 57 x ≡ true
    go true t e = t
    go false t e = absurd (none-ne-some n e)
digit_at (x ∷ l) a n (suc i) e h = go (up_to 48 57 x) e (λ q. digit_at l (a * 10 + (x - 48)) n i q (omega arith))
  where
    go : (t : Bool) → elim t [ true ↦ horner (a * 10 + (x - 48)) l | false ↦ none ] ≡ some n
        → (horner (a * 10 + (x - 48)) l ≡ some n → up_to 48 57 (get_or l i 0) ≡ true) → up_to 48 57 (get_or l i 0) ≡ true
    go true e k = k e
    go false e k = absurd (none-ne-some n e)

-- a text cut at a place
cut-behind : (s : List ℕ) (from j : ℕ) → from + j < length s
    → drop from s ≡ slice from (from + j) s ++ (get_or s (from + j) 0 ∷ drop (from + j + 1) s)
cut-behind s from j h =
    let e : from + suc j ≡ from + j + 1 = omega arith in
    split_at (drop from s) j 0 (omega (arith, length-drop from s))
    ∙ ap₂ (λ (x y : List ℕ). x ++ y) (sym (drop-take from j s))
    (ap₂ ◌∷◌ (get_or-drop from s j 0) (drop-drop (suc j) from s ∙ ap (λ (i : ℕ). drop i s) e))

pub slice_cut : (s : List ℕ) (from to : ℕ) → from ≤ to → to < length s → drop from s ≡ slice from to s ++ (get_or s to 0 ∷ drop (to + 1) s)
slice_cut s from to l h =
    let e : from + (to - from) ≡ to = omega arith in
    subst (λ (t : ℕ). drop from s ≡ slice from t s ++ (get_or s t 0 ∷ drop (t + 1) s)) e (cut-behind s from (to - from) (omega arith))

-- digits up to one that is none, and a mark that is none
module _ {s : List ℕ} {from : ℕ} {r : Digits} (D : DigitsFrom s from page_digits r) (d : ℕ) (mark : up_to 48 57 d ≡ false) where
  inside : (i : ℕ) → from + i < r.end → get_or (slice from r.end s) i 0 ≡ get_or s (from + i) 0
  inside i h = get_or-drop from (take r.end s) i 0 ∙ get_or-take r.end s (from + i) 0 h

  -- a number that ends with the mark ends where the digits do
  module _ (v rest : List ℕ) (e : drop from s ≡ v ++ (d ∷ rest)) where
    long : from + suc (length v) ≤ length s
    long = omega (arith, length-drop from s, ap length e ∙ length-append v (d ∷ rest))

    at_mark : get_or s (from + length v) 0 ≡ d
    at_mark = sym (get_or-drop from s (length v) 0) ∙ ap (λ (x : List ℕ). get_or x (length v) 0) e ∙ get_or-append_seam v d rest 0

    before-mark : (i : ℕ) → i < length v → get_or s (from + i) 0 ≡ get_or v i 0
    before-mark i h = sym (get_or-drop from s i 0) ∙ ap (λ (x : List ℕ). get_or x i 0) e ∙ get_or-append v (d ∷ rest) 0 i h

    pub ends : (m : ℕ) → figure v ≡ some m → r.end ≡ from + length v
    ends m f = go (ltb r.end (from + length v)) refl (ltb (from + length v) r.end) refl
      where
        g : Plain page_digits v m
        g = plain page_digits v m f

        go : (a : Bool) → ltb r.end (from + length v) ≡ a → (b : Bool) → ltb (from + length v) r.end ≡ b → r.end ≡ from + length v
        go true p b q =
            let l : r.end < from + length v = ltb-true r.end (from + length v) p in
            let k : from + (r.end - from) ≡ r.end = omega arith in
            let digit : up_to 48 57 (get_or s r.end 0) ≡ true =
            ap (λ (i : ℕ). up_to 48 57 (get_or s i 0)) (sym k)
            ∙ ap (up_to 48 57) (before-mark (r.end - from) (omega arith))
            ∙ digit_at v 0 m (r.end - from) g.said (omega arith) in
            clash digit (D.stops (omega (arith, long)) (omega (arith, g.high)))
        go false p true q =
            let l : from + length v < r.end = ltb-true (from + length v) r.end q in
            clash (ap (up_to 48 57) (sym (inside (length v) l ∙ at_mark))
            ∙ digit_at (slice from r.end s) 0 r.value (length v) D.value
            (omega (arith, length-slice from r.end s D.high))) mark
        go false p false q = omega (arith, ltb-false r.end (from + length v) p, ltb-false (from + length v) r.end q)

  unsaid : ((v rest : List ℕ) (m : ℕ) → drop from s ≡ v ++ (d ∷ rest) → r.end ≡ from + length v → Plain page_digits v m → ⊥)
      → NotSaid figure d s from
  unsaid k = record { unshaped = λ v rest e. go v rest e (figure v) refl }
    where
      go : (v rest : List ℕ) → drop from s ≡ v ++ (d ∷ rest) → (o : Option ℕ) → figure v ≡ o → figure v ≡ none
      go v rest e none f = f
      go v rest e (some m) f = absurd (k v rest m e (ends v rest e m f) (plain page_digits v m f))

  -- no digit; no byte behind the digits; another one than the mark; a zero in front of others
  pub no_digit : r.end ≡ from → NotSaid figure d s from
  no_digit q = unsaid (λ v rest m e h g. omega (arith, g.low))

  pub no-mark : r.end ≡ length s → NotSaid figure d s from
  no-mark q = unsaid (λ v rest m e h g. omega (arith, long v rest e))

  pub other-mark : get_or s r.end 0 ≢ d → NotSaid figure d s from
  other-mark n = unsaid (λ v rest m e h g. n (ap (λ (i : ℕ). get_or s i 0) h ∙ at_mark v rest e))

  pub zero-first : from + 1 < r.end → get_or s from 0 ≡ 48 → NotSaid figure d s from
  zero-first l z = unsaid (λ v rest m e h g.
      let k : from + 0 ≡ from = omega arith in
      g.head (omega arith) (sym (before-mark v rest e 0 (omega arith)) ∙ ap (λ (i : ℕ). get_or s i 0) k ∙ z))

  -- a number
  pub figure-said : from < r.end → r.end < length s → get_or s r.end 0 ≡ d → (from + 1 < r.end → get_or s from 0 ≡ 48 → ⊥)
      → SaidIs figure d s from r.value (r.end + 1)
  figure-said l h q z = record {
    value = slice from r.end s;
    cut = slice_cut s from r.end D.low h ∙ ap (λ (x : ℕ). slice from r.end s ++ (x ∷ drop (r.end + 1) s)) q;
    beyond = omega arith;
    within = omega arith;
    shaped = number_of-plain page_digits (slice from r.end s) (omega (arith, length-slice from r.end s D.high))
        (omega (arith, length-slice from r.end s D.high))
        (λ k y. z (omega (arith, length-slice from r.end s D.high)) (sym (slice-head s from r.end l D.high) ∙ y)) ∙ D.value;
  }

-- WHAT STANDS IN NONE OF THEM
pub figure-free : (e : ℕ) → (48 ≤ e → 57 < e) → Free figure e
figure-free e h = record { without = λ v n q. ap (count e) (number_of-exact page_digits v n (omega arith) q).0 ∙ decimal-only e n h }

pub party-free : (e : ℕ) → (48 ≤ e → 57 < e) → count e (text global_word) ≡ 0 → Free party_of e
party-free e h k = either-free (word global_word globally) figure (word-free globally (text global_word) e k) (figure-free e h)

pub no-dash : count 10 (text dash) ≡ 0
unfolding same
no-dash = refl

pub dashed-free : (e : ℕ) → (48 ≤ e → 57 < e) → count e (text dash) ≡ 0 → Free figure_or_dash e
dashed-free e h k = either-free (word dash 0) figure (word-free 0 (text dash) e k) (figure-free e h)

-- A NUMBER BEHIND A WORD
abbrev coded_in : Option (List ℕ) → Option ℕ
coded_in o = elim o [ none ↦ none | some r ↦ figure r ]

module _ (w : List ℕ) where
  pub coded-free : (e : ℕ) → (48 ≤ e → 57 < e) → count e w ≡ 0 → Free (coded_by w) e
  coded-free e h k = record { without = λ v n q. go v n (behind w v) refl q }
    where
      go : (v : List ℕ) (n : ℕ) (o : Option (List ℕ)) → behind w v ≡ o → coded_in o ≡ some n → count e v ≡ 0
      go v n none t q = absurd (none-ne-some n q)
      go v n (some r) t q =
          ap (count e) (behind-exact w v r t) ∙ omega (arith, count-append e w r, k, (figure-free e h).without r n q)

  module _ (d : ℕ) {s : List ℕ} {from : ℕ} where
    pub uncoded : behind w (slice from (length s) s) ≡ none → NotSaid (coded_by w) d s from
    uncoded n = record { unshaped = λ v rest e. go v rest e (behind w v) refl }
      where
        go : (v rest : List ℕ) → drop from s ≡ v ++ (d ∷ rest) → (o : Option (List ℕ)) → behind w v ≡ o → coded_by w v ≡ none
        go v rest e none t = ap coded_in t
        go v rest e (some r) t =
            absurd (none-ne-some (r ++ (d ∷ rest)) (sym (not_behind w s from n)
            ∙ ap (behind w) (e ∙ ap (λ (x : List ℕ). x ++ (d ∷ rest)) (behind-exact w v r t)
            ∙ append_assoc w r (d ∷ rest)) ∙ behind-append w (r ++ (d ∷ rest))))

    module _ {i : ℕ} (b : BehindAt w s from (length s) i) where
      coded-unsaid : NotSaid figure d s i → NotSaid (coded_by w) d s from
      coded-unsaid n = record { unshaped = λ v rest e. go v rest e (behind w v) refl }
        where
          go : (v rest : List ℕ) → drop from s ≡ v ++ (d ∷ rest) → (o : Option (List ℕ)) → behind w v ≡ o → coded_by w v ≡ none
          go v rest e none t = ap coded_in t
          go v rest e (some r) t =
              ap coded_in t ∙ n.unshaped r rest (same-front w (drop i s) (r ++ (d ∷ rest))
              (sym (found-behind b) ∙ e ∙ ap (λ (x : List ℕ). x ++ (d ∷ rest)) (behind-exact w v r t) ∙ append_assoc w r (d ∷ rest)))

      coded-said : {n next : ℕ} → SaidIs figure d s i n next → SaidIs (coded_by w) d s from n next
      coded-said {n} {next} x = record {
        value = w ++ x.value;
        cut = found-behind b ∙ ap (λ (z : List ℕ). w ++ z) x.cut ∙ sym (append_assoc w x.value (d ∷ drop next s));
        beyond = omega (arith, x.beyond, b.place);
        within = x.within;
        shaped = ap coded_in (behind-append w x.value) ∙ x.shaped;
      }

      pub coded-figure : (r : option.Option (ℕ × ℕ)) → FigureTo figure d s i r → FigureTo (coded_by w) d s from r
      coded-figure (Some r) x = coded-said x
      coded-figure None x = coded-unsaid x

-- Laws of a number or a word, for whoever proves about them.
module _ {d : ℕ} {s : List ℕ} {from : ℕ} where
  pub dash-said : {next : ℕ} → SaidIs (word_is (text dash)) d s from true next → SaidIs figure_or_dash d s from 0 next
  dash-said x = either_first (word dash 0) figure (named 0 x)

  pub dash-or-figure : NotSaid (word_is (text dash)) d s from
      → (r : option.Option (ℕ × ℕ)) → FigureTo figure d s from r → FigureTo figure_or_dash d s from r
  dash-or-figure n (Some r) x = either_second (word dash 0) figure (unnamed 0 n) x
  dash-or-figure n None x = neither (word dash 0) figure (unnamed 0 n) x

  pub global-said : {next : ℕ} → SaidIs (word_is (text global_word)) d s from true next → SaidIs party_of d s from globally next
  global-said x = either_first (word global_word globally) figure (named globally x)

  pub global-or-figure : NotSaid (word_is (text global_word)) d s from
      → (r : option.Option (ℕ × ℕ)) → FigureTo figure d s from r → FigureTo party_of d s from r
  global-or-figure n (Some r) x = either_second (word global_word globally) figure (unnamed globally n) x
  global-or-figure n None x = neither (word global_word globally) figure (unnamed globally n) x
