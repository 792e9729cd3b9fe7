-- What bytes go into, one after another: a count of them, or a lent buffer.
-- Assumes nothing.
use Prim.Native.Nat.{ℕ, ◌+◌}
use native.Mathlib.Nat.{add-zero, add_assoc}
use mathlib.Core.Path.{◌≡◌, refl, sym, ap, ap₂, ◌∙◌}
use mathlib.Core.List.{List, [], ◌++◌}
use lib.ListN.{length, length-append}
use lib.Seq.{sets, length-sets}
use Rattle.text.proofs.Laws.{sets-append}
use Rattle.comparing.specs.Inner.{far_place}
use Rattle.comparing.specs.declared.sink.Count.{Count}
use Rattle.comparing.specs.declared.sink.Lent.{Lent}

-- Bytes that are put one after another are put as one, and each moves the place by its length; the end stays where it is.
pub record SinkLaws {S : Type 0} (after : S → List ℕ → S) (place end : S → ℕ) : Type 0 where
  pub none : (s : S) → after s [] ≡ s
  pub joined : (s : S) (x y : List ℕ) → after (after s x) y ≡ after s (x ++ y)
  pub moved : (s : S) (x : List ℕ) → place (after s x) ≡ place s + length x
  pub kept : (s : S) (x : List ℕ) → end (after s x) ≡ end s

-- a count, and how far it may go
abbrev pub counted : Count → List ℕ → Count
counted c x = record { at = c.at + length x }

abbrev pub count_end : Count → ℕ
count_end c = far_place

-- a lent buffer, which ends with its last byte
abbrev pub written : Lent → List ℕ → Lent
written l x = record l { out = record l.out { now = sets l.out.now l.at x }; at = l.at + length x }

abbrev pub lent_end : Lent → ℕ
lent_end l = length l.out.now

moved-twice : (at : ℕ) (x y : List ℕ) → at + length x + length y ≡ at + length (x ++ y)
moved-twice at x y = add_assoc at (length x) (length y) ∙ ap (λ (n : ℕ). at + n) (sym (length-append x y))

pub count_laws : SinkLaws counted (λ c. c.at) count_end
count_laws = record {
  none = λ c. ap (λ (n : ℕ). record c { at = n }) (add-zero c.at);
  joined = λ c x y. ap (λ (n : ℕ). record c { at = n }) (moved-twice c.at x y);
  moved = λ c x. refl;
  kept = λ c x. refl;
}

pub lent_laws : SinkLaws written (λ l. l.at) lent_end
lent_laws = record {
  none = λ l. ap (λ (n : ℕ). record l { at = n }) (add-zero l.at);
  joined = λ l x y.
      ap₂ (λ (b : List ℕ) (n : ℕ). record l { out = record l.out { now = b }; at = n }) (sym (sets-append x y l.out.now l.at))
      (moved-twice l.at x y);
  moved = λ l x. refl;
  kept = λ l x. length-sets l.out.now l.at x;
}
