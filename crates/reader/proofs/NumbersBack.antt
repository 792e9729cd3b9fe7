-- The resource numbers of a page, read back: put one by one into free ones they are the numbers.
-- Assumes nothing.
use Prim.Native.Nat.{ℕ, suc, ◌-◌, ◌≤◌}
use native.Mathlib.Omega.{arith}
use mathlib.Core.Path.{◌≡◌, refl, sym, ap, ◌∙◌}
use mathlib.Core.Bool.{Bool, true, false, cond}
use mathlib.Core.List.{List, [], ◌∷◌, map}
use mathlib.Core.Option.{Option, none, some}
use lib.Dec.{eqb}
use lib.ListN.{length, get_or, set, replicate, length-replicate, get_or-replicate}
use borrow.Author.Tests.{eqb-true}
use Rattle.lists.specs.Lists.{same, count, from, join}
use Rattle.lists.proofs.Laws.{same_refl, count-from, from_in}
use Rattle.lists.proofs.Tests.{up_to-is}
use Rattle.text.specs.Text.{text, behind}
use Rattle.records.specs.declared.Resource.{Resource}
use Rattle.records.specs.Numbers.{free, number_at}
use Rattle.rules.specs.Book.{Book, with_resources}
use Rattle.rules.specs.Keeper.{lists, State}
use Rattle.rules.specs.Sound.{Limits, Unlocked}
use Rattle.page.specs.Page.{Line, line, number_key, number_line, number_lines}
use Rattle.shapes.specs.Shapes.{there, Numbered, numbered}
use Rattle.reader.specs.Order.{value_behind, holding, numbering}
use Rattle.reader.specs.Said.{on_book, with_resource, with_line, rest_said}
use Rattle.shapes.proofs.Pieces.{clean_line}
use Rattle.reader.proofs.Text.{told, told-append, Clean, clean-none, clean-more, clean-append}
use Rattle.shapes.proofs.ValuesBack.{Short}
use Rattle.shapes.proofs.Joined.{number_text, number_of, number-back, number-clean}
use Rattle.reader.proofs.ScanLaws.{Good, number-first, number_step}
use Rattle.reader.proofs.Copying.{copied, Copies, copies-all}

-- ONE NUMBER, which has no line where it is free
abbrev vacant : Resource → Bool
vacant x = eqb x.owner 0

record Readable (n r : ℕ) (x : Resource) : Type 0 where
  low : 1 ≤ r
  high : r ≤ n
  number : Short r
  owner : Short x.owner
  lock : Short x.lock

abbrev line_if : ℕ → Resource → Bool → List Line
line_if r x b = cond b [] (line number_key (number_text r x.owner x.lock) ∷ [])

key-clean : count 10 (text number_key) ≡ 0
unfolding same
key-clean = refl

one-clean : (r : ℕ) (x : Resource) → Clean (number_line r x)
unfolding number_line
one-clean r x = go (vacant x)
  where
    go : (b : Bool) → Clean (line_if r x b)
    go true = clean-none
    go false =
        clean-more (clean_line (text number_key) (number_text r x.owner x.lock) key-clean (number-clean r x.owner x.lock))
        clean-none

-- both places at which numbers may come
record Both (rs : List (List ℕ)) : Type 0 where
  held : Good holding rs
  next : Good numbering rs

module _ (n r : ℕ) (x : Resource) (K : Readable n r x) where
  back : numbered (number_text r x.owner x.lock) ≡ some (number_of r x.owner x.lock)
  back = number-back r x.owner x.lock K.number K.owner K.lock

  one-good : (rs : List (List ℕ)) → Both rs → Both (told (number_line r x) rs)
  unfolding number_line
  one-good rs g = go (vacant x)
    where
      go : (b : Bool) → Both (told (line_if r x b) rs)
      go true = g
      go false = record {
        held = number-first (number_text r x.owner x.lock) rs (ap there back) g.next;
        next = number_step (number_text r x.owner x.lock) rs (ap there back) g.next;
      }

  line-said : (a : State lists) (rs : List (List ℕ)) (b : Bool)
      → rest_said a (told (line_if r x b) rs) ≡ rest_said (cond b a (with_resource (number_of r x.owner x.lock) a)) rs
  unfolding rest_said with_line value_behind behind
  line-said a rs true = refl
  line-said a rs false = ap (λ (o : Option Numbered). rest_said (elim o [ none ↦ a | some y ↦ with_resource y a ]) rs) back

  one-said : (a : State lists) (rs : List (List ℕ))
      → rest_said a (told (number_line r x) rs) ≡ rest_said (cond (vacant x) a (with_resource (number_of r x.owner x.lock) a)) rs
  unfolding number_line
  one-said a rs = line-said a rs (vacant x)

-- ALL OF THEM
abbrev pub with_numbers : List Resource → State lists → State lists
with_numbers ys a = on_book (with_resources ys) a

put-with : (r : ℕ) (x : Resource) (ys : List Resource) (a : State lists) → Readable a.book.numbers r x → (b : Bool)
    → cond b (with_numbers ys a) (with_resource (number_of r x.owner x.lock) (with_numbers ys a))
    ≡ with_numbers (cond b ys (set ys (r - 1) x)) a
put-with r x ys a K true = refl
put-with r x ys a K false =
    ap (λ (t : Bool). record { book = cond t (with_resources (set ys (r - 1) x) a.book) (with_resources ys a.book); kept = a.kept })
    (up_to-is 1 a.book.numbers r K.low K.high)

module _ (xs : List Resource) where
  abbrev lines_of : List ℕ → List Line
  lines_of c = join (map (λ r. number_line r (number_at xs r)) c)

  abbrev Each : ℕ → List ℕ → Type 0
  Each n c = (r : ℕ) → 1 ≤ count r c → Readable n r (number_at xs r)

  each-clean : (c : List ℕ) → Clean (lines_of c)
  each-clean [] = clean-none
  each-clean (r ∷ c) = clean-append (one-clean r (number_at xs r)) (each-clean c)

  each-good : (n : ℕ) (c : List ℕ) → Each n c → (rs : List (List ℕ)) → Both rs → Both (told (lines_of c) rs)
  each-good n [] R rs g = g
  each-good n (r ∷ c) R rs g =
      rw (told-append (number_line r (number_at xs r)) (lines_of c) rs)
      (one-good n r (number_at xs r) (R r (omega (arith, same_refl r))) (told (lines_of c) rs)
      (each-good n c (λ q h. R q (omega arith)) rs g))

  each-said : (a : State lists) (c : List ℕ) → Each a.book.numbers c → (ys : List Resource) (rs : List (List ℕ))
      → rest_said (with_numbers ys a) (told (lines_of c) rs) ≡ rest_said (with_numbers (copied free vacant xs c ys) a) rs
  each-said a [] R ys rs = refl
  each-said a (r ∷ c) R ys rs =
      let x = number_at xs r in
      let K = R r (omega (arith, same_refl r)) in
      ap (rest_said (with_numbers ys a)) (told-append (number_line r x) (lines_of c) rs)
      ∙ one-said a.book.numbers r x K (with_numbers ys a) (told (lines_of c) rs)
      ∙ ap (λ (s : State lists). rest_said s (told (lines_of c) rs)) (put-with r x ys a K (vacant x))
      ∙ each-said a c (λ q h. R q (omega arith)) (cond (vacant x) ys (set ys (r - 1) x)) rs

-- those of a sound book, put into free ones
module _ (b : Book) (l : length b.resources ≡ b.numbers) (L : Limits b) (U : Unlocked b) where
  all-each : Each b.resources b.numbers (from 1 b.numbers)
  all-each r h =
      let k = from_in r 1 b.numbers h in
      let O : (1 ≤ r) × (r ≤ b.numbers) = (k.0, omega arith) in
      record {
        low = O.0;
        high = O.1;
        number = omega (arith, L.few);
        owner = omega (arith, L.owner r O);
        lock = omega (arith, L.locker r O);
      }

  all-copies : Copies free vacant b.resources (from 1 b.numbers) (replicate b.numbers free)
  all-copies = record {
    long = length-replicate b.numbers free ∙ sym l;
    left = λ j h k. absurd (omega (arith, count-from (suc j) 1 b.numbers (omega arith) (omega arith)));
    skipped = λ j h k.
        let O : (1 ≤ suc j) × (suc j ≤ b.numbers) = (omega arith, omega arith) in
        let e : suc j - 1 ≡ j = omega arith in
        let x : Resource = get_or b.resources j free in
        let o : x.owner ≡ 0 = eqb-true x.owner 0 k in
        let w = ap (λ (i : ℕ). get_or b.resources i free) e in
        let z : x.lock ≡ 0 =
        ap (λ (y : Resource). y.lock) (sym w) ∙ U.clear (suc j) O (ap (λ (y : Resource). y.owner) w ∙ o) in
        get_or-replicate b.numbers j free free (omega arith) ∙ (λ i. record { owner = sym o i; lock = sym z i });
  }

  pub numbers-clean : Clean (number_lines b.numbers b.resources)
  unfolding number_lines
  numbers-clean = each-clean b.resources (from 1 b.numbers)

  pub numbers-good : (rs : List (List ℕ)) → Good holding rs → Good numbering rs
      → Good holding (told (number_lines b.numbers b.resources) rs)
  unfolding number_lines
  numbers-good rs g h =
      (each-good b.resources b.numbers (from 1 b.numbers) all-each rs (record { held = g; next = h })).held

  pub numbers-said : (a : State lists) → a.book.numbers ≡ b.numbers → (rs : List (List ℕ))
      → rest_said (with_numbers (replicate b.numbers free) a) (told (number_lines b.numbers b.resources) rs)
      ≡ rest_said (with_numbers b.resources a) rs
  unfolding number_lines
  numbers-said a e rs =
      each-said b.resources a (from 1 b.numbers) (rw e all-each) (replicate b.numbers free) rs
      ∙ ap (λ (ys : List Resource). rest_said (with_numbers ys a) rs)
      (copies-all free vacant b.resources (from 1 b.numbers) (replicate b.numbers free) all-copies)
