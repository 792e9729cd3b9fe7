-- A verdict as it is shown, test by test; and that a page which is read has room in what is lent for one.
-- Assumes nothing.
use Prim.Native.Nat.{ℕ, ◌≤◌, ◌<◌}
use mathlib.Core.Path.{◌≡◌, refl, ap, subst, ◌∙◌}
use mathlib.Core.Logic.{◌≢◌}
use mathlib.Core.Bool.{Bool, true, false, cond, ◌&&◌}
use mathlib.Core.List.{List, [], ◌∷◌}
use lib.ListN.{length}
use lib.Dec.{leb, eqb}
use borrow.Author.Tests.{le-leb, lt-leb, eq-eqb, ne_eqb}
use Rattle.limits.specs.Limits.{page_room}
use Rattle.lists.specs.Lists.{alike}
use Rattle.rules.specs.Engine.{not_sound, beside}
use Rattle.tables.specs.declared.Tables.{Tables}
use Rattle.tables.specs.Tables.{plain}
use Rattle.tables.specs.Sound.{sound}
use Rattle.tables.proofs.Plain.{sound-plain}
use Rattle.page.specs.Page.{page}
use Rattle.page.specs.Paging.{Written}
use Rattle.page.proofs.Room.{page-room}
use Rattle.reader.specs.Reading.{reading}
use Rattle.reader.proofs.Exact.{accepted, accepted-arrays}
use Rattle.following.specs.Differences.{differences}
use Rattle.following.specs.Following.{follows, does_not_follow, held_against}
use Rattle.showing.specs.Showing.{longest_name, longest_page, is_taken, shown_in, with_tables}
use Rattle.comparing.specs.Verdicts.{verdict_text, verdict_shown}
use Rattle.following.proofs.Judged.{held-is, compared_same, compared-other}

-- a name and a text are taken, or not
pub taken : (name s : List ℕ) → length name ≤ longest_name → length s ≤ longest_page → is_taken name s ≡ true
taken name s n p =
    ap (λ (b : Bool). b && leb (length s) longest_page) (le-leb (length name) longest_name n) ∙ le-leb (length s) longest_page p

pub long-name : (name s : List ℕ) → longest_name < length name → is_taken name s ≡ false
long-name name s n = ap (λ (b : Bool). b && leb (length s) longest_page) (lt-leb (length name) longest_name n)

pub long-text : (name s : List ℕ) → length name ≤ longest_name → longest_page < length s → is_taken name s ≡ false
long-text name s n p =
    ap (λ (b : Bool). b && leb (length s) longest_page) (le-leb (length name) longest_name n) ∙ lt-leb (length s) longest_page p

module _ (t : Tables) (name next out : List ℕ) where
  abbrev read : Written
  read = with_tables t (reading next).tables (shown_in (verdict_text name (held_against t next)) out)

  abbrev not : Written
  not = record { number = (reading next).number; values = (reading next).values; tables = t; buffer = out }

  abbrev long : Written
  long = record { number = 3; values = 0 ∷ []; tables = t; buffer = out }

  -- by the three tests
  abbrev tested : Bool → Bool → Bool → Written
  tested a b c = cond a (cond b (cond c read not) long) (beside out (not_sound t))

  by_tests : (a b c : Bool) → sound t ≡ a → is_taken name next ≡ b → eqb (reading next).number 0 ≡ c
      → verdict_shown t name next out ≡ tested a b c
  unfolding verdict_shown
  by_tests a b c e f g = λ i. tested (e i) (f i) (g i)

  pub shown-unsound : sound t ≡ false → verdict_shown t name next out ≡ beside out (not_sound t)
  shown-unsound e = by_tests false (is_taken name next) (eqb (reading next).number 0) e refl refl

  pub shown-long : sound t ≡ true → is_taken name next ≡ false → verdict_shown t name next out ≡ long
  shown-long e f = by_tests true false (eqb (reading next).number 0) e f refl

  module _ (e : sound t ≡ true) (f : is_taken name next ≡ true) where
    pub shown-not : (reading next).number ≢ 0 → verdict_shown t name next out ≡ not
    shown-not n = by_tests true true false e f (ne_eqb (reading next).number 0 n)

    pub shown_read : (reading next).number ≡ 0 → verdict_shown t name next out ≡ read
    shown_read n = by_tests true true true e f (eq-eqb (reading next).number 0 n)

-- a page that is read has room
pub read-room : (s : List ℕ) → (reading s).number ≡ 0 → length s ≤ page_room
read-room s e =
    let a = accepted s e in
    subst (λ (x : List ℕ). length x ≤ page_room) a.1
    (page-room (plain (reading s).tables) (sound-plain (reading s).tables (accepted-arrays s e) a.0))

-- what is said where it follows, and where it does not
module _ (t : Tables) (name next : List ℕ) (e : (reading next).number ≡ 0) where
  pub text_same : alike (page (plain t)) next ≡ true → verdict_text name (held_against t next) ≡ verdict_text name follows
  text_same a = ap (verdict_text name) (held-is t next e ∙ compared_same (page (plain t)) next a)

  pub text-other : alike (page (plain t)) next ≡ false
      → verdict_text name (held_against t next) ≡ verdict_text name (does_not_follow (differences next (page (plain t))))
  text-other a = ap (verdict_text name) (held-is t next e ∙ compared-other (page (plain t)) next a)
