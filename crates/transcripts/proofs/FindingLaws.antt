-- What a search comes to, test by test; and the part that a place names.
-- Assumes nothing.
use Prim.Native.Nat.{ℕ, ◌-◌, ◌≤◌, ◌<◌}
use native.Mathlib.Omega.{arith}
use mathlib.Core.Path.{◌≡◌, refl, sym, ap, ap₂, subst, ◌∙◌}
use mathlib.Core.Bool.{Bool, true, false, cond, ◌&&◌, ◌||◌}
use mathlib.Core.List.{List, [], ◌∷◌}
use mathlib.Core.Option.{Option, none, some}
use lib.ListN.{length}
use lib.Dec.{leb, eqb}
use borrow.Author.Tests.{eq-eqb, ne_eqb, le-leb, lt-leb, leb-true}
use denote.Ref.{Bor}
use Rattle.lists.proofs.Tests.{both, not-both}
use Rattle.transcripts.proofs.LineLaws.{span_is}
use Rattle.transcripts.specs.declared.finding.Mark.{Mark}
use Rattle.transcripts.specs.declared.finding.Mark.TheVariants.{Original, Copy}
use Rattle.transcripts.specs.declared.finding.Place.{Place}
use Rattle.std.specs.Prelude as option
use Rattle.transcripts.specs.declared.lines.Span.{Span}
use Rattle.std.specs.Prelude.{None}
use Rattle.transcripts.specs.Inner.{at_span}
use Rattle.transcripts.specs.Transcripts.{Line, lines_in, occurrence}
use Rattle.transcripts.specs.Finding.{Sought, empty_front, refused, found_or, sought, marked, within, PartOf, PartAt}
use Rattle.transcripts.specs.Inner.{lines_from, span_of, behind_others}

module _ (original copy key : List ℕ) (n : ℕ) where
  abbrev searched : Sought
  searched = found_or Original (occurrence key n (lines_in original)) (found_or Copy (occurrence key n (lines_in copy)) (refused 17))

  tested : (b c : Bool) → eqb (length key) 0 ≡ b → eqb n 0 ≡ c → sought original copy key n ≡ cond (b || c) (refused 3) searched
  unfolding sought
  tested b c e f = ap₂ (λ (x y : Bool). cond (x || y) (refused 3) searched) e f

  pub empty-key : length key ≡ 0 → sought original copy key n ≡ refused 3
  empty-key h = tested true (eqb n 0) (eq-eqb (length key) 0 h) refl

  pub no-occurrence : n ≡ 0 → sought original copy key n ≡ refused 3
  no-occurrence h = tested (eqb (length key) 0) true refl (eq-eqb n 0 h) ∙ either (eqb (length key) 0)
    where
      either : (b : Bool) → cond (b || true) (refused 3) searched ≡ refused 3
      either true = refl
      either false = refl

  pub searches : (length key ≡ 0 → ⊥) → (n ≡ 0 → ⊥) → sought original copy key n ≡ searched
  searches h l = tested false false (ne_eqb (length key) 0 h) (ne_eqb n 0 l)

-- a line looked for from the front
from_front : (s k : List ℕ) (n : ℕ) → occurrence k n (lines_in s) ≡ behind_others k (n - 1) (lines_from s 0)
unfolding occurrence lines_in behind_others
from_front s k n = refl

-- what was found, by its place
found_at : (m : Mark) (y : Option Line) (a e : ℕ) (other : Sought) → at_span a e ≡ span_of y
    → found_or m y other ≡ record { number = 0; values = 0 ∷ []; place = record { mark = m; begins = a; ends = e } }
found_at m none a e other q = let z : ◌≡◌ {A = ℕ} 0 1 = cc in absurd (omega arith)
found_at m (some x) a e other q =
    let (b, f) = span_is q in
    ap₂ (λ (i j : ℕ). record { number = 0; values = 0 ∷ []; place = record { mark = m; begins = i; ends = j } }) b f

found_nowhere : (m : Mark) (y : Option Line) (other : Sought) → None ≡ span_of y → found_or m y other ≡ other
found_nowhere m none other q = refl
found_nowhere m (some x) other q = let z : ◌≡◌ {A = ℕ} 0 1 = cc in absurd (omega arith)

-- where the search looks: the two texts from their fronts on
module _ (original copy key : List ℕ) (n : ℕ) (h : length key ≡ 0 → ⊥) (l : n ≡ 0 → ⊥) where
  abbrev span_at : List ℕ → option.Option Span
  span_at s = span_of (behind_others key (n - 1) (lines_from s 0))

  looked : (s : List ℕ) (x : option.Option Span) → x ≡ span_at s → x ≡ span_of (occurrence key n (lines_in s))
  looked s x e = e ∙ ap span_of (sym (from_front s key n))

  pub in-original : (a e : ℕ) → at_span a e ≡ span_at original
      → sought original copy key n ≡ record { number = 0; values = 0 ∷ []; place = record { mark = Original; begins = a; ends = e } }
  in-original a e q =
      searches original copy key n h l ∙ found_at Original (occurrence key n (lines_in original)) a e _ (looked original (at_span a e) q)

  module _ (m : None ≡ span_at original) where
    passed : sought original copy key n ≡ found_or Copy (occurrence key n (lines_in copy)) (refused 17)
    passed = searches original copy key n h l ∙ found_nowhere Original (occurrence key n (lines_in original)) _ (looked original None m)

    pub in-copy : (a e : ℕ) → at_span a e ≡ span_at copy
        → sought original copy key n ≡ record { number = 0; values = 0 ∷ []; place = record { mark = Copy; begins = a; ends = e } }
    in-copy a e q = passed ∙ found_at Copy (occurrence key n (lines_in copy)) a e _ (looked copy (at_span a e) q)

    pub in-neither : None ≡ span_at copy → sought original copy key n ≡ refused 17
    in-neither q = passed ∙ found_nowhere Copy (occurrence key n (lines_in copy)) _ (looked copy None q)

-- a place within its text, or not
module _ (original copy : List ℕ) (p : Place) where
  abbrev limit : ℕ
  limit = length (marked p.mark original copy)

  lies : (b c : Bool) → leb p.begins p.ends ≡ b → leb p.ends limit ≡ c → within original copy p ≡ cond (b && c) p empty_front
  lies b c e f = ap₂ (λ (x y : Bool). cond (x && y) p empty_front) e f

  pub within-crossed : p.ends < p.begins → within original copy p ≡ empty_front
  within-crossed h = lies false (leb p.ends limit) (lt-leb p.begins p.ends h) refl

  pub within-past : limit < p.ends → within original copy p ≡ empty_front
  within-past h =
      ap (λ (b : Bool). cond b p empty_front)
      (not-both (leb p.begins p.ends) (leb p.ends limit) (lt-leb p.ends limit h))

  pub within-is : p.begins ≤ p.ends → p.ends ≤ limit → within original copy p ≡ p
  within-is h l = lies true true (le-leb p.begins p.ends h) (le-leb p.ends limit l)

  -- a confined place lies within its text
  pub confined : ((within original copy p).begins ≤ (within original copy p).ends)
      × ((within original copy p).ends ≤ length (marked (within original copy p).mark original copy))
  confined = go (leb p.begins p.ends && leb p.ends limit) refl
    where
      go : (b : Bool) → (leb p.begins p.ends && leb p.ends limit) ≡ b
          → ((cond b p empty_front).begins ≤ (cond b p empty_front).ends)
          × ((cond b p empty_front).ends ≤ length (marked (cond b p empty_front).mark original copy))
      go true e =
          let t = both (leb p.begins p.ends) (leb p.ends limit) e in
          (leb-true p.begins p.ends t.0, leb-true p.ends limit t.1)
      go false e = (omega arith, omega arith)

-- the part of the text that a confined place's mark names
pub part_at : (original copy : Bor (List ℕ)) (p q : Place) (m : Mark) (r : Bor (List ℕ)) → q ≡ within original.now copy.now p
    → q.mark ≡ m → PartOf (marked m original copy) q.begins q.ends r → PartAt original copy p r
part_at original copy p q m r e f h =
    subst (λ (x : Place). PartOf (marked x.mark original copy) x.begins x.ends r) e
    (subst (λ (k : Mark). PartOf (marked k original copy) q.begins q.ends r) (sym f) h)
