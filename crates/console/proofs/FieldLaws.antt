-- Laws of the fields of a line: none past its end, and from a place before it the part up to the next comma, with the fields behind it;
-- what numbers or a name there come to.
-- Assumes nothing.
use Prim.Native.Nat.{ℕ, suc, ◌+◌, ◌<◌, ◌≤◌}
use native.Mathlib.Omega.{arith}
use mathlib.Core.Path.{◌≡◌, refl, sym, ap, ap₂, subst, ◌∙◌}
use mathlib.Core.Logic.{◌≢◌}
use mathlib.Core.Bool.{Bool, true, false, cond, ◌&&◌}
use mathlib.Core.List.{List, [], ◌∷◌}
use mathlib.Core.Option.{Option, none, some}
use lib.Dec.{ltb, eqb}
use lib.ListN.{length, get_or, drop}
use lib.Seq.{slice}
use borrow.Author.Tests.{eq-eqb, ne_eqb, ltb-true, ltb-false, le-leb, lt-leb}
use Rattle.limits.specs.Limits.{usual_year}
use Rattle.text.specs.Text.{number_of, parts}
use Rattle.text.specs.Inner.{PartEnd}
use Rattle.text.proofs.Fields.{part_end}
use Rattle.records.specs.Names.{name_of}
use Rattle.std.specs.Prelude as option
use Rattle.std.specs.Prelude.{Some, None}
use Rattle.console.specs.Line.{Line, bad, Form, number, name}
use Rattle.console.specs.Inner.{fields_from, NameRead, Counted, none_left, or_end, counted, on_numbers, NumbersRead, on_name}

fields-are : (s : List ℕ) (at : ℕ) → at ≤ length s → fields_from s at ≡ parts 44 (drop at s)
unfolding fields_from
fields-are s at h = ap (λ (b : Bool). cond b (parts 44 (drop at s)) []) (le-leb at (length s) h)

pub fields-past : (s : List ℕ) (at : ℕ) → length s < at → fields_from s at ≡ []
unfolding fields_from
fields-past s at h = ap (λ (b : Bool). cond b (parts 44 (drop at s)) []) (lt-leb at (length s) h)

pub fields-cut : {s : List ℕ} {at e : ℕ} → PartEnd 44 s at e → fields_from s at ≡ slice at e s ∷ fields_from s (e + 1)
fields-cut {s} {at} {e} p = fields-are s at (omega arith) ∙ go (ltb e (length s)) refl
  where
    go : (b : Bool) → ltb e (length s) ≡ b → parts 44 (drop at s) ≡ slice at e s ∷ fields_from s (e + 1)
    go true t =
        let m : e < length s = ltb-true e (length s) t in
        p.more m ∙ ap (λ (fs : List (List ℕ)). slice at e s ∷ fs) (sym (fields-are s (e + 1) (omega arith)))
    go false t =
        let m : e ≡ length s = omega (arith, ltb-false e (length s) t) in
        p.last m ∙ ap (λ (fs : List (List ℕ)). slice at e s ∷ fs) (sym (fields-past s (e + 1) (omega arith)))

pub fields-all : (s : List ℕ) → fields_from s 0 ≡ parts 44 s
fields-all s = fields-are s 0 (omega arith)

-- what stands for numbers of which none is left
abbrev absent : option.Option (List ℕ)
absent = Some (usual_year ∷ usual_year ∷ usual_year ∷ usual_year ∷ [])

-- numbers
-- a field is left: it is none of the end's
some_left : (b : Bool) (x : Line) (k : Form) (f : List ℕ) (fs : List (List ℕ)) → or_end b x k (f ∷ fs) ≡ k (f ∷ fs)
some_left true x k f fs = refl
some_left false x k f fs = refl

and-false : (b : Bool) → b && false ≡ false
and-false true = refl
and-false false = refl

module _ (s : List ℕ) (at m : ℕ) (spare : Bool) (k : Counted) where
  abbrev others : Form
  others = number λ a. counted m spare (λ b c d e. k a b c d)

  -- none is left, and the last may be left away or not
  none_left_lem : {t : Bool} → spare && eqb m 0 ≡ t → length s < at → counted (suc m) spare k (fields_from s at) ≡ or_end t (none_left k) others []
  none_left_lem t h = ap (counted (suc m) spare k) (fields-past s at h) ∙ ap (λ (b : Bool). or_end b (none_left k) others []) t

  -- one is left: it is a number or not
  abbrev after : ℕ → Option ℕ → Line
  after end r = elim r [ none ↦ bad | some a ↦ counted m spare (λ b c d e. k a b c d) (fields_from s (end + 1)) ]

  one_left : {end : ℕ} → PartEnd 44 s at end → {r : Option ℕ} → number_of 10 (slice at end s) ≡ r
      → counted (suc m) spare k (fields_from s at) ≡ after end r
  one_left {end} p h =
      ap (counted (suc m) spare k) (fields-cut p)
      ∙ some_left (spare && eqb m 0) (none_left k) others (slice at end s) (fields_from s (end + 1)) ∙ ap (after end) h

module _ {s : List ℕ} {at n : ℕ} {spare : Bool} where
  pub numbers-none : length s < at → n ≡ 0 → NumbersRead s at n spare absent
  numbers-none h e = record { says = λ k. ap₂ (λ (m : ℕ) (fs : List (List ℕ)). counted m spare k fs) e (fields-past s at h) }

  pub numbers_more : at ≤ length s → n ≡ 0 → NumbersRead s at n spare None
  numbers_more h e =
      record { says = λ k. ap₂ (λ (m : ℕ) (fs : List (List ℕ)). counted m spare k fs) e (fields-cut (part_end 44 s at h)) }

  -- one at least
  module _ {m : ℕ} (e : suc m ≡ n) where
    one_less : {r : option.Option (List ℕ)} → NumbersRead s at (suc m) spare r → NumbersRead s at n spare r
    one_less {r} h = subst (λ (x : ℕ). NumbersRead s at x spare r) e h

    pub numbers-spare : length s < at → spare ≡ true → m ≡ 0 → NumbersRead s at n spare absent
    numbers-spare h t z = one_less (record { says = λ k. none_left_lem s at m spare k (ap₂ ◌&&◌ t (eq-eqb m 0 z)) h })

    pub numbers-short : length s < at → spare ≡ false → NumbersRead s at n spare None
    numbers-short h t = one_less (record { says = λ k. none_left_lem s at m spare k (ap (λ (b : Bool). b && eqb m 0) t) h })

    pub numbers-few : length s < at → m ≢ 0 → NumbersRead s at n spare None
    numbers-few h z = one_less (record { says = λ k. none_left_lem s at m spare k (ap (λ (b : Bool). spare && b) (ne_eqb m 0 z) ∙ and-false spare) h })

    module _ {end : ℕ} (p : PartEnd 44 s at end) where
      pub number-not : number_of 10 (slice at end s) ≡ none → NumbersRead s at n spare None
      number-not h = one_less (record { says = λ k. one_left s at m spare k p h })

      -- and the others
      module _ {a : ℕ} (h : number_of 10 (slice at end s) ≡ some a) {r : option.Option (List ℕ)} (others : NumbersRead s (end + 1) m spare r) where
        then : (k : Counted) → counted (suc m) spare k (fields_from s at) ≡ on_numbers (λ b c d e. k a b c d) r
        then k = one_left s at m spare k p h ∙ others.says (λ b c d e. k a b c d)

        pub others-not : r ≡ None → NumbersRead s at n spare None
        others-not t = one_less (record { says = λ k. then k ∙ ap (on_numbers (λ b c d e. k a b c d)) t })

        pub others-are : {ns : List ℕ} → r ≡ Some ns
            → NumbersRead s at n spare (Some (a ∷ get_or ns 0 0 ∷ get_or ns 1 0 ∷ get_or ns 2 0 ∷ []))
        others-are t = one_less (record { says = λ k. then k ∙ ap (on_numbers (λ b c d e. k a b c d)) t })

-- a name
pub name-past : {s : List ℕ} {at : ℕ} → length s < at → NameRead s at None
name-past {s} {at} h = record { says = λ k. ap (name k) (fields-past s at h) }

abbrev on_name_of : (List ℕ → Form) → List (List ℕ) → Option (List ℕ) → Line
on_name_of k fs r = elim r [ none ↦ bad | some nm ↦ k nm fs ]

module _ {s : List ℕ} {at e : ℕ} (p : PartEnd 44 s at e) where
  pub name-not : name_of (slice at e s) ≡ none → NameRead s at None
  name-not h = record { says = λ k. ap (name k) (fields-cut p) ∙ ap (on_name_of k (fields_from s (e + 1))) h }

  pub name-is : {nm : List ℕ} → name_of (slice at e s) ≡ some nm → NameRead s at (Some (nm, e + 1))
  name-is h = record { says = λ k. ap (name k) (fields-cut p) ∙ ap (on_name_of k (fields_from s (e + 1))) h }

-- What is read of a name is all that a form does with it; for whoever proves about forms.
pub name-told : {s : List ℕ} {at : ℕ} {r q : option.Option (List ℕ × ℕ)} → NameRead s at r → r ≡ q → (k : List ℕ → Form)
    → name k (fields_from s at) ≡ on_name k s q
name-told {s} h e k = h.says k ∙ ap (on_name k s) e
