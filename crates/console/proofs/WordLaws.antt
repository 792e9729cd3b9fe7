-- Laws of the words of a line: looking a field up in the grammar's tables is seeking it among the words that the code numbers.
-- Assumes nothing.
use Prim.Native.Nat.{ℕ, zero, suc, ◌+◌, ◌<◌, ◌≤◌}
use native.Mathlib.Numerals.{add-one}
use native.Mathlib.Omega.{arith}
use mathlib.Core.Path.{◌≡◌, refl, sym, ap, ap₂, ◌∙◌}
use mathlib.Core.Logic.{◌≢◌}
use mathlib.Core.Bool.{Bool, true, false, cond, ◌&&◌}
use mathlib.Core.List.{List, [], ◌∷◌, map}
use lib.Dec.{eqb, ltb}
use lib.ListN.{length, get_or, drop, drop_of_length-le, get_or-eq_default}
use lib.Seq.{slice, drop-cons}
use borrow.Author.Tests.{ltb-true, eq-eqb, ne_eqb}
use Rattle.std.specs.Borrow.{Bor}
use Rattle.limits.specs.Limits.{longest_line}
use Rattle.lists.specs.Lists.{up_to, alike}
use Rattle.lists.proofs.Tests.{both, up_to-is, alike-true, alike_is}
use Rattle.text.specs.Text.{text, parts}
use Rattle.text.specs.Inner.{PartEnd}
use Rattle.text.proofs.Read.{up_to-over}
use Rattle.console.specs.declared.words.Word.{Word}
use Rattle.console.specs.Line.{Line, bad, PAGE, Form, Entry, look_up, execs, numbers, forms, line_of}
use Rattle.console.specs.Inner.{fields_from, no_word, lead, rows, row_at, requests, taking, ended, entries}
use Rattle.console.specs.Inner.{keys, behind, seek}
use Rattle.console.proofs.FieldLaws.{fields-past, fields-cut, fields-all}

-- of the entries, those behind the word `last`
abbrev under : ℕ → List Word → List Entry → List Entry
under last [] es = []
under last (r ∷ rs) [] = []
under last (r ∷ rs) (e ∷ es) = cond (eqb r.before last) (e ∷ under last rs es) (under last rs es)

abbrev texts : List Entry → List (List ℕ)
texts es = map (λ e. text e.key) es

module _ (last : ℕ) (f : List ℕ) (fs : List (List ℕ)) (x : Form) where
  abbrev at : List Entry → ℕ → Line
  at es i = get_or (map (λ e. e.form fs) es) i (x (f ∷ fs))

  abbrev place : List Word → List Entry → ℕ
  place rs es = seek last f rs (texts es)

  look-seek : (rs : List Word) (es : List Entry) → length rs ≡ length es → look_up (under last rs es) x f fs ≡ at es (place rs es)
  look-seek [] [] h = refl
  look-seek [] (e ∷ es) h = absurd (omega arith)
  look-seek (r ∷ rs) [] h = absurd (omega arith)
  look-seek (r ∷ rs) (e ∷ es) h = go (eqb r.before last) (look-seek rs es (omega arith))
    where
      hit : (b : Bool) → look_up (under last rs es) x f fs ≡ at es (place rs es)
          → elim b [ true ↦ e.form fs | false ↦ look_up (under last rs es) x f fs ] ≡ at (e ∷ es) (cond b 0 (suc (place rs es)))
      hit true ih = refl
      hit false ih = ih

      go : (b : Bool) → look_up (under last rs es) x f fs ≡ at es (place rs es)
          → look_up (cond b (e ∷ under last rs es) (under last rs es)) x f fs
          ≡ at (e ∷ es) (cond (b && alike f (text e.key)) 0 (suc (place rs es)))
      go true ih = hit (alike f (text e.key)) ih
      go false ih = ih

-- what stands at a place of a list hangs on no default
get_or-within : (l : List Line) (i : ℕ) (x y : Line) → i < length l → get_or l i x ≡ get_or l i y
get_or-within [] i x y h = absurd (omega arith)
get_or-within (z ∷ l) zero x y h = refl
get_or-within (z ∷ l) (suc i) x y h = get_or-within l i x y (omega arith)

-- a list told by its places
abbrev tabled : {A : Type 0} → ℕ → (ℕ → A) → List A
tabled zero g = []
tabled (suc n) g = g 0 ∷ tabled n (λ i. g (suc i))

tabled-at : {A : Type 0} (n : ℕ) (g : ℕ → A) (i : ℕ) (x : A) → i < n → get_or (tabled n g) i x ≡ g i
tabled-at zero g i x h = absurd (omega arith)
tabled-at (suc n) g zero x h = refl
tabled-at (suc n) g (suc i) x h = tabled-at n (λ j. g (suc j)) i x (omega arith)

-- no field, and a field: the grammar's form behind each word is what the code's tables say
behind-none : (i : ℕ) → i < no_word → behind i [] ≡ ended i []
unfolding execs numbers forms rows requests ended entries behind
behind-none i h = tabled-at no_word (λ j. ended j []) i bad h

module _ (f : List ℕ) (fs : List (List ℕ)) where
  behind-look : (i : ℕ) → i < no_word → behind i (f ∷ fs) ≡ look_up (under i rows entries) (ended (row_at i).instead) f fs
  unfolding execs numbers forms rows requests ended entries behind
  behind-look i h = tabled-at no_word (λ j. look_up (under j rows entries) (ended (row_at j).instead) f fs) i bad h

  behind-seek : (i : ℕ) → i < no_word → behind i (f ∷ fs) ≡ at i f fs (ended (row_at i).instead) entries (seek i f rows keys)
  unfolding execs numbers forms rows entries keys
  behind-seek i h = behind-look i h ∙ look-seek i f fs (ended (row_at i).instead) rows entries refl

-- behind a last word
behind-last : (i : ℕ) → i < no_word → (fs : List (List ℕ)) → behind i fs ≡ cond (row_at i).is_last (ended i fs) (behind i fs)
unfolding execs numbers forms rows requests ended entries behind
behind-last i h fs = tabled-at no_word (λ j. cond (row_at j).is_last (ended j fs) (behind j fs)) i bad h

-- a test that all of some places pass
abbrev pass : ℕ → (ℕ → Bool) → Bool
pass zero t = true
pass (suc n) t = t 0 && pass n (λ i. t (suc i))

passes : (n : ℕ) (t : ℕ → Bool) → pass n t ≡ true → (i : ℕ) → i < n → t i ≡ true
passes zero t e i h = absurd (omega arith)
passes (suc n) t e zero h = (both (t 0) (pass n (λ i. t (suc i))) e).0
passes (suc n) t e (suc i) h = passes n (λ j. t (suc j)) (both (t 0) (pass n (λ j. t (suc j))) e).1 i (omega arith)

-- behind word `last`: no field, a field that is no word there, a field that is word j
module _ {last : ℕ} (known : last < no_word) (s : List ℕ) (at : ℕ) where
  pub word-past : length s < at → behind last (fields_from s at) ≡ ended last (fields_from s at)
  word-past h = ap (behind last) (fields-past s at h) ∙ behind-none last known ∙ ap (ended last) (sym (fields-past s at h))

  pub word-last : {w : Word} → w ≡ row_at last → w.is_last ≡ true → behind last (fields_from s at) ≡ ended last (fields_from s at)
  word-last e t =
      let fs = fields_from s at in
      behind-last last known fs ∙ ap (λ (b : Bool). cond b (ended last fs) (behind last fs)) (ap (λ (x : Word). x.is_last) (sym e) ∙ t)

  module _ {end j : ℕ} (p : PartEnd 44 s at end) (which : j ≡ seek last (slice at end s) rows keys) where
    abbrev lines : List Line
    lines = map (λ e. e.form (fields_from s (end + 1))) entries

    there : behind last (fields_from s at) ≡ get_or lines j (ended (row_at last).instead (fields_from s at))
    there =
        ap (behind last) (fields-cut p) ∙ behind-seek (slice at end s) (fields_from s (end + 1)) last known
        ∙ ap₂ (λ (i : ℕ) (x : Line). get_or lines i x) (sym which) (ap (ended (row_at last).instead) (sym (fields-cut p)))

    pub word_none : {w : Word} → w ≡ row_at last → no_word ≤ j → behind last (fields_from s at) ≡ ended w.instead (fields_from s at)
    unfolding execs numbers forms entries
    word_none e h =
        there ∙ get_or-eq_default lines (ended (row_at last).instead (fields_from s at)) h
        ∙ ap (λ (x : Word). ended x.instead (fields_from s at)) (sym e)

    pub word_next : j < no_word → behind last (fields_from s at) ≡ behind j (fields_from s (end + 1))
    unfolding execs numbers forms entries behind
    word_next h = there ∙ get_or-within lines j (ended (row_at last).instead (fields_from s at)) bad h

-- the row in a word's place is one of the rows
pub instead-known : (i : ℕ) → i < no_word → {w : Word} → w ≡ row_at i → w.instead < no_word
unfolding rows
instead-known i h e =
    omega (arith, ap (λ (x : Word). x.instead) e, ltb-true (row_at i).instead no_word (passes no_word (λ j. ltb (row_at j).instead no_word) refl i h))

-- the whole line
line-is : (s : List ℕ) (b : Bool) → up_to 1 longest_line (length s) ≡ b → line_of s ≡ elim b [ true ↦ behind 0 (fields_from s 0) | false ↦ bad ]
unfolding line_of entries behind
line-is s b h =
    ap (λ (fs : List (List ℕ)). elim (up_to 1 longest_line (length s)) [ true ↦ behind 0 fs | false ↦ bad ]) (sym (fields-all s))
    ∙ ap (λ (t : Bool). elim t [ true ↦ behind 0 (fields_from s 0) | false ↦ bad ]) h

pub line-long : (s : List ℕ) → longest_line < length s → line_of s ≡ bad
line-long s h = line-is s false (up_to-over 1 longest_line (length s) h)

-- one of no bytes has no word
pub line-fits : (s : List ℕ) → length s ≤ longest_line → line_of s ≡ behind 0 (fields_from s 0)
unfolding line_of parts fields_from execs numbers forms entries behind
line-fits [] h = refl
line-fits (x ∷ s) h = line-is (x ∷ s) true (up_to-is 1 longest_line (length (x ∷ s)) (omega arith) h)

-- the line that asks for the page
pub page-line : line_of (text "PAGE") ≡ PAGE
unfolding line_of parts execs numbers forms
page-line = refl

-- what word i says where no word comes, by its row
pub ended-as : (i : ℕ) {w : Word} {named : Bool} → w ≡ row_at i → w.named ≡ named → (fs : List (List ℕ))
    → ended i fs ≡ taking named w.numbers w.spare i fs
unfolding ended
ended-as i {w} e h fs = ap (λ (x : Word). taking x.named x.numbers x.spare i fs) (sym e) ∙ ap (λ (b : Bool). taking b w.numbers w.spare i fs) h

-- the texts are not the same
alike-other : (f w : List ℕ) → f ≢ w → alike f w ≡ false
alike-other f w n = go (alike f w) refl
  where
    go : (b : Bool) → alike f w ≡ b → alike f w ≡ false
    go true e = absurd (n (alike-true f w e))
    go false e = e

-- what stands at a place of a table of texts
pub text_at : (bs : List (Bor (List ℕ))) (i : ℕ) (d : Bor (List ℕ)) → i < length bs → (get_or bs i d).now ≡ get_or (map (λ b. b.now) bs) i []
text_at [] i d h = absurd (omega arith)
text_at (b ∷ bs) zero d h = refl
text_at (b ∷ bs) (suc i) d h = text_at bs i d (omega arith)

pub texts-many : (bs : List (Bor (List ℕ))) → length (map (λ b. b.now) bs) ≡ length bs
texts-many [] = refl
texts-many (b ∷ bs) = ap suc (texts-many bs)

-- The search among the words: what is left of them, from word i on, is searched in the same way.
pub record Seeking (last : ℕ) (f : List ℕ) (i : ℕ) : Type 0 where
  pub same : seek last f rows keys ≡ i + seek last f (drop i rows) (drop i keys)
  pub within : i ≤ no_word

pub seeking_start : (last : ℕ) (f : List ℕ) → Seeking last f 0
seeking_start last f = record { same = omega arith; within = omega arith }

module _ {last : ℕ} {f : List ℕ} {i : ℕ} (h : Seeking last f i) where
  pub seeking-end : no_word ≤ i → no_word ≡ seek last f rows keys
  unfolding rows
  seeking-end l =
      omega (arith, h.same, h.within, ap (λ (rs : List Word). seek last f rs (drop i keys)) (drop_of_length-le rows {i = i} l))

  pub seeking_end : no_word ≤ i → no_word ≤ seek last f rows keys
  seeking_end l = omega (arith, seeking-end l)

  module _ (l : i < no_word) where
    abbrev rest : ℕ
    rest = seek last f (drop (i + 1) rows) (drop (i + 1) keys)

    seeking-cut : seek last f (drop i rows) (drop i keys) ≡ cond (eqb (row_at i).before last && alike f (get_or keys i [])) 0 (suc rest)
    unfolding rows execs numbers forms entries keys
    seeking-cut =
        ap₂ (seek last f) (drop-cons rows i (lead 0 0 0) l ∙ ap (λ (k : ℕ). row_at i ∷ drop k rows) (sym (add-one i)))
        (drop-cons keys i [] l ∙ ap (λ (k : ℕ). get_or keys i [] ∷ drop k keys) (sym (add-one i)))

    pub seeking_other : (row_at i).before ≢ last → Seeking last f (i + 1)
    seeking_other n =
        let e = seeking-cut ∙ ap (λ (t : Bool). cond (t && alike f (get_or keys i [])) 0 (suc rest)) (ne_eqb (row_at i).before last n) in
        record { same = omega (arith, h.same, e); within = omega arith }

    -- a word behind the last: it is the field or not
    module _ (here : (row_at i).before ≡ last) where
      seeking-test : {b : Bool} → alike f (get_or keys i []) ≡ b → seek last f (drop i rows) (drop i keys) ≡ cond b 0 (suc rest)
      seeking-test e =
          seeking-cut
          ∙ ap (λ (t : Bool). cond (t && alike f (get_or keys i [])) 0 (suc rest)) (eq-eqb (row_at i).before last here)
          ∙ ap (λ (t : Bool). cond t 0 (suc rest)) e

      pub seeking_hit : f ≡ get_or keys i [] → (i ≡ seek last f rows keys) × (seek last f rows keys < no_word)
      seeking_hit e =
          let q : i ≡ seek last f rows keys = omega (arith, h.same, seeking-test (alike_is f (get_or keys i []) e)) in (q, omega (arith, q))

      pub seeking_next : f ≢ get_or keys i [] → Seeking last f (i + 1)
      seeking_next n =
          record { same = omega (arith, h.same, seeking-test (alike-other f (get_or keys i []) n)); within = omega arith }
