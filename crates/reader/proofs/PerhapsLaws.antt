-- A line that may be left away. Where the next line is none of its kind, what may come is what may come behind it, and the scan is the same;
-- where it is one, a line more is well formed.
-- Assumes nothing.
use Prim.Native.Nat.{ℕ, suc, ◌+◌, ◌≤◌}
use native.Mathlib.Omega.{arith}
use mathlib.Core.Path.{◌≡◌, refl, sym, ap, ◌∙◌}
use mathlib.Core.Bool.{Bool, true, false}
use mathlib.Core.List.{List, [], ◌∷◌, ◌++◌}
use mathlib.Core.Option.{Option, none, some}
use lib.ListN.{length}
use Rattle.shapes.specs.Shapes.{there}
use Rattle.shapes.specs.Inner.{LineIs, NoLine, unended, keyless, shapeless}
use Rattle.reader.specs.Order.{Form, Place, perhaps, choice, value_behind, may_come, after_kind, after_one, behind_line, behind_all, first_bad}
use Rattle.reader.specs.Said.{begins_with}
use Rattle.reader.specs.Walks.{ahead}
use Rattle.reader.proofs.ScanLaws.{Good, good-step, value-behind, pass}
use Rattle.reader.proofs.LineLaws.{scan-on}

-- whether a line is of that kind, by its key and by its value
abbrev pub kind_by : Form → Option (List ℕ) → Bool
kind_by f o = elim o [ some v ↦ f.shape v | none ↦ false ]

pub begins-value : (f : Form) (v : List ℕ) (ls : List (List ℕ)) → begins_with f ((f.key ++ (61 ∷ v)) ∷ ls) ≡ f.shape v
begins-value f v ls = ap (kind_by f) (value-behind f.key v)

-- THE SCAN, at a place that is not the page's end
module _ (f : Form) (p : Place) (goes_on : (k : ℕ) (l : List ℕ) → behind_all p k l ≡ k) where
  other-line : (l : List ℕ) (ls : List (List ℕ)) → begins_with f (l ∷ ls) ≡ false → behind_line (perhaps f p) l ≡ behind_line p l
  unfolding behind_line
  other-line l ls e = go (value_behind f.key l) e
    where
      go : (o : Option (List ℕ)) → kind_by f o ≡ false
          → ◌≡◌ {A = Option Place} (elim o [
            | none ↦ after_one (may_come p) l
            | some v ↦ after_kind p (f.shape v) (after_one (may_come p) l)
          ]) (after_one (may_come p) l)
      go none e = refl
      go (some v) e = ap (λ (t : Bool). after_kind p t (after_one (may_come p) l)) e

  pub other-scan : (k : ℕ) (ls : List (List ℕ)) → (2 ≤ length ls → begins_with f ls ≡ false) → first_bad (perhaps f p) k ls ≡ first_bad p k ls
  unfolding first_bad
  other-scan k [] h = refl
  other-scan k (l ∷ []) h = sym (goes_on k l)
  other-scan k (l ∷ m ∷ ls) h =
      ap (λ (o : Option Place). elim o [ none ↦ k | some q ↦ first_bad q (suc k) (m ∷ ls) ]) (other-line l (m ∷ ls) (h (omega arith)))

  -- so a line comes there, where no line is bad
  pub some-line : (k : ℕ) (ls : List (List ℕ)) → 1 ≤ k → first_bad p k ls ≡ 0 → 2 ≤ length ls
  unfolding first_bad
  some-line k [] h e = absurd (omega arith)
  some-line k (l ∷ []) h e = absurd (omega (arith, goes_on k l))
  some-line k (l ∷ m ∷ ls) h e = omega arith

  -- AT A PLACE of a text, where a line is looked for by its shape
  module _ {A : Type 0} (shape : List ℕ → Option A) (same : (v : List ℕ) → f.shape v ≡ there (shape v)) (s : List ℕ) (g : ℕ) where
    pub there-begins : {a : A} {h : ℕ} → LineIs shape s g f.key a h → begins_with f (ahead s g) ≡ true
    there-begins {h = h} l = ap (begins_with f) l.cut ∙ begins-value f l.value (ahead s h) ∙ same l.value ∙ ap there l.shaped

    pub there-scan : {a : A} {h : ℕ} → LineIs shape s g f.key a h → (k : ℕ)
        → first_bad (perhaps f p) k (ahead s g) ≡ first_bad p (k + 1) (ahead s h)
    there-scan {h = h} l k =
        scan-on shape s g (perhaps f p) (choice f p) (may_come p) refl l (same l.value) k
        ∙ ap (λ (x : ℕ). first_bad p x (ahead s h)) (let e : suc k ≡ k + 1 = omega arith in e)

    pub none-begins : NoLine shape s g f.key → 2 ≤ length (ahead s g) → begins_with f (ahead s g) ≡ false
    unfolding value_behind
    none-begins (unended l e) h = absurd (omega (arith, ap length e))
    none-begins (keyless l next e k) h = ap (begins_with f) e ∙ ap (kind_by f) k
    none-begins (shapeless v next e k) h = ap (begins_with f) e ∙ begins-value f v (ahead s next) ∙ same v ∙ ap there k

    pub none-scan : NoLine shape s g f.key → (k : ℕ) → first_bad (perhaps f p) k (ahead s g) ≡ first_bad p (k + 0) (ahead s g)
    none-scan l k =
        other-scan k (ahead s g) (none-begins l) ∙ ap (λ (x : ℕ). first_bad p x (ahead s g)) (let e : k ≡ k + 0 = omega arith in e)

  -- READ BACK
  pub one-good : (v : List ℕ) (rs : List (List ℕ)) → f.shape v ≡ true → Good p rs → Good (perhaps f p) ((f.key ++ (61 ∷ v)) ∷ rs)
  unfolding behind_line
  one-good v rs e g = good-step (f.key ++ (61 ∷ v)) rs (pass f (λ w. p) (may_come p) v e) g

  pub none-good : (rs : List (List ℕ)) → begins_with f rs ≡ false → Good p rs → Good (perhaps f p) rs
  none-good rs e g = record { none = λ k. other-scan k rs (λ h. e) ∙ g.none k }
