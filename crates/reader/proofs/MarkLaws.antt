-- The mark behind a record, a line that may be left away.
-- Assumes nothing.
use Prim.Native.Nat.{ℕ, zero, suc, ◌+◌, ◌≤◌}
use native.Mathlib.Omega.{arith}
use mathlib.Core.Path.{◌≡◌, refl, ap}
use mathlib.Core.Bool.{Bool, true, false}
use mathlib.Core.List.{List}
use lib.ListN.{length, drop}
use Rattle.lists.specs.Lists.{hit, same}
use Rattle.text.specs.Text.{text}
use Rattle.page.specs.Page.{suspend_key, mark_word, mark_line}
use Rattle.shapes.specs.Inner.{LineIs, NoLine, word_is}
use Rattle.reader.specs.Order.{mark_form, perhaps, records_ahead, behind_all, first_bad}
use Rattle.reader.specs.Said.{marked_by}
use Rattle.reader.specs.Walks.{ahead}
use Rattle.reader.proofs.Text.{told, Clean, clean-none, clean-more}
use Rattle.reader.proofs.ScanLaws.{Good}
use Rattle.reader.proofs.LineLaws.{word-there}
use Rattle.reader.proofs.PerhapsLaws.{begins-value, some-line, there-begins, there-scan, none-begins, none-scan, one-good, none-good}

-- behind a record a page is not at its end
not-ended : (n k : ℕ) (l : List ℕ) → behind_all (records_ahead n) k l ≡ k
not-ended zero k l = refl
not-ended (suc n) k l = refl

-- AT A PLACE
-- whether a mark stands at g, and where the next record begins
pub record MarkAt (s : List ℕ) (g : ℕ) (mark : Bool) (h : ℕ) : Type 0 where
  pub beyond : g + hit mark ≤ h
  pub within : h ≤ length s
  pub scan : (n k : ℕ) → first_bad (perhaps mark_form (records_ahead n)) k (ahead s g) ≡ first_bad (records_ahead n) (k + hit mark) (ahead s h)
  pub says : (n k : ℕ) → 1 ≤ k → first_bad (records_ahead n) k (ahead s h) ≡ 0
      → (marked_by (ahead s g) ≡ mark) × (drop (hit mark) (ahead s g) ≡ ahead s h)

pub mark_on : (s : List ℕ) (g h : ℕ) → LineIs (word_is (text mark_word)) s g (text suspend_key) true h → MarkAt s g true h
mark_on s g h l =
    let w = word-there (text mark_word) in
    record {
      beyond = omega (arith, l.beyond);
      within = l.within;
      scan = λ n k. there-scan mark_form (records_ahead n) (not-ended n) (word_is (text mark_word)) w s g l k;
      says = λ n k j z. (there-begins mark_form (records_ahead n) (not-ended n) (word_is (text mark_word)) w s g l, ap (drop 1) l.cut);
    }

pub mark-off : (s : List ℕ) (g : ℕ) → g ≤ length s → NoLine (word_is (text mark_word)) s g (text suspend_key) → MarkAt s g false g
mark-off s g i l =
    let w = word-there (text mark_word) in
    record {
      beyond = omega arith;
      within = i;
      scan = λ n k. none-scan mark_form (records_ahead n) (not-ended n) (word_is (text mark_word)) w s g l k;
      says = λ n k j z. (
        none-begins mark_form (records_ahead n) (not-ended n) (word_is (text mark_word)) w s g l
            (some-line mark_form (records_ahead n) (not-ended n) k (ahead s g) j z),
        refl,
      );
    }

-- READ BACK
-- a mark's line where it stands, otherwise none, before lines of which the first is no mark: what they say
pub mark-told : (b : Bool) (rs : List (List ℕ)) → marked_by rs ≡ false
    → (marked_by (told (mark_line b) rs) ≡ b) × (drop (hit b) (told (mark_line b) rs) ≡ rs)
mark-told true rs e = (begins-value mark_form (text mark_word) rs, refl)
mark-told false rs e = (e, refl)

-- they are well formed, and have no byte 10
pub mark-good : (b : Bool) (n : ℕ) (rs : List (List ℕ)) → marked_by rs ≡ false → Good (records_ahead n) rs
    → Good (perhaps mark_form (records_ahead n)) (told (mark_line b) rs)
mark-good true n rs e g = one-good mark_form (records_ahead n) (not-ended n) (text mark_word) rs refl g
mark-good false n rs e g = none-good mark_form (records_ahead n) (not-ended n) rs e g

pub mark-clean : (b : Bool) → Clean (mark_line b)
unfolding same
mark-clean true = clean-more refl clean-none
mark-clean false = clean-none

-- What a mark adds is 1 at most; for whoever proves about marks.
pub hit-most : (b : Bool) → hit b ≤ 1
hit-most true = omega arith
hit-most false = omega arith
