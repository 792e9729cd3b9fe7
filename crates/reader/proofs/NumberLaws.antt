-- The numbers that are allocated, line by line: what is read so far.
-- Assumes nothing.
use Prim.Native.Nat.{ℕ, suc, ◌+◌, ◌-◌, ◌≤◌, ◌<◌}
use native.Mathlib.Omega.{arith}
use mathlib.Core.Path.{◌≡◌, refl, sym, ap, ◌∙◌, subst}
use mathlib.Core.Bool.{Bool, true, false, cond}
use mathlib.Core.List.{List, ◌∷◌, ◌++◌, map}
use mathlib.Core.Option.{Option, none, some, none-ne-some, some-injective}
use lib.ListN.{length-map, length-set}
use Rattle.lists.specs.Lists.{up_to}
use Rattle.lists.proofs.Tests.{up_to-is}
use Rattle.text.specs.Text.{text, behind}
use Rattle.text.proofs.Read.{up_to-under, up_to-over}
use Rattle.records.specs.declared.Numbers.{Numbers}
use Rattle.records.specs.declared.Resource.{Resource}
use Rattle.records.specs.Numbers.{resources, table_of, with_number}
use Rattle.records.specs.Inner.{Fit}
use Rattle.records.proofs.Table.{resources-made, fit-with}
use Rattle.rules.specs.Book.{with_resources}
use Rattle.rules.specs.Keeper.{lists, State}
use Rattle.page.specs.Page.{number_key}
use Rattle.shapes.specs.Shapes as shapes
use Rattle.shapes.specs.Shapes.{into, numbered}
use Rattle.reader.specs.Order.{numbering, number_form, choice, value_behind}
use Rattle.reader.specs.Order.{first_bad}
use Rattle.reader.specs.Said.{on_book, with_resource, with_line, rest_said}
use Rattle.shapes.specs.Inner.{byte, narrow_resource, narrow_numbered, number_in, numbered_of, LineIs, NoLine}
use Rattle.reader.specs.Walks.{ahead, Onward, Keeps, NumbersRead}
use Rattle.reader.proofs.Mapping.{map-set}
use Rattle.reader.proofs.LineLaws.{there-into, scan-on}

-- what is allocated so far in a state
pub record SoFarOf (s : List ℕ) (at o : ℕ) (table : Numbers) (a : State lists) : Type 0 where
  pub told : List Resource
  pub held : Keeps table (on_book (with_resources told) a)
  pub says : rest_said a (ahead s at) ≡ rest_said (on_book (with_resources told) a) (ahead s o)

pub record SoFar (s : List ℕ) (at line : ℕ) (numbers table : Numbers) (o n : ℕ) : Type 0 where
  pub onward : Onward s o n
  pub fitting : Fit table
  pub scan : first_bad numbering line (ahead s at) ≡ first_bad numbering n (ahead s o)
  pub of : (a : State lists) → Keeps numbers a → SoFarOf s at o table a

pub none_yet : (s : List ℕ) (at line : ℕ) (t : Numbers) → Onward s at line → Fit t → SoFar s at line t t at line
none_yet s at line t h f =
    record { onward = h; fitting = f; scan = refl; of = λ a k. record { told = a.book.resources; held = k; says = refl } }

-- the table with a number put into it, where it is one of these
abbrev pub put_number : Numbers → ℕ → ℕ → ℕ → Numbers
put_number t r o l = cond (up_to 1 t.count r) (table_of t.count (with_number r o l (resources t))) t

pub put_in : (t : Numbers) (r o l : ℕ) → 1 ≤ r → r ≤ t.count → table_of t.count (with_number r o l (resources t)) ≡ put_number t r o l
put_in t r o l h k =
    sym (ap (λ (b : Bool). cond b (table_of t.count (with_number r o l (resources t))) t) (up_to-is 1 t.count r h k))

pub put-over : (t : Numbers) (r o l : ℕ) → t.count < r → t ≡ put_number t r o l
put-over t r o l h =
    sym (ap (λ (b : Bool). cond b (table_of t.count (with_number r o l (resources t))) t) (up_to-over 1 t.count r h))

pub put_under : (t : Numbers) (r o l : ℕ) → r < 1 → t ≡ put_number t r o l
put_under t r o l h =
    sym (ap (λ (b : Bool). cond b (table_of t.count (with_number r o l (resources t))) t) (up_to-under 1 t.count r h))

-- a number put into a table and into a state
module _ (t : Numbers) (a : State lists) (k : Keeps t a) (x : shapes.Numbered) where
  count-is : t.count ≡ a.book.numbers
  count-is = ap (λ (y : Numbers). y.count) k.table

  resources-are : resources t ≡ map narrow_resource a.book.resources
  resources-are =
      ap resources k.table
      ∙ resources-made a.book.numbers (map narrow_resource a.book.resources)
      (length-map a.book.resources narrow_resource ∙ k.long)

  abbrev told_by : Bool → List Resource
  told_by b = cond b (with_number x.number x.resource.owner x.resource.lock a.book.resources) a.book.resources

  pub newly : List Resource
  newly = told_by (up_to 1 a.book.numbers x.number)

  pub number-says : with_resource x a ≡ on_book (with_resources newly) a
  unfolding newly
  number-says = go (up_to 1 a.book.numbers x.number)
    where
      go : (b : Bool)
          → record {
            book = cond b (with_resources (with_number x.number x.resource.owner x.resource.lock a.book.resources)
                a.book) a.book;
            kept = a.kept;
          }
          ≡ on_book (with_resources (told_by b)) a
      go true = refl
      go false = refl

  pub number-keeps : Keeps (put_number t x.number (byte x.resource.owner) (byte x.resource.lock)) (on_book (with_resources newly) a)
  unfolding newly
  number-keeps =
      subst (λ (R : ℕ). Keeps (cond (up_to 1 R x.number) full t) (on_book (with_resources newly) a)) (sym count-is)
      (go (up_to 1 a.book.numbers x.number))
    where
      full : Numbers
      full = table_of t.count (with_number x.number (byte x.resource.owner) (byte x.resource.lock) (resources t))

      go : (b : Bool) → Keeps (cond b full t) (on_book (with_resources (told_by b)) a)
      go false = k
      go true =
          record {
            table = ap (λ (y : Numbers). table_of y.count (with_number x.number (byte x.resource.owner)
                (byte x.resource.lock) (resources t))) k.table
                ∙ ap (λ (y : List Resource). table_of a.book.numbers
                (with_number x.number (byte x.resource.owner) (byte x.resource.lock) y)) resources-are
                ∙ ap (table_of a.book.numbers) (sym (map-set narrow_resource a.book.resources (x.number - 1) x.resource));
            long = length-set a.book.resources (x.number - 1) x.resource ∙ k.long;
          }

-- a number as the code reads it
number-found : (o : Option shapes.Numbered) (r w l : ℕ) → some (numbered_of r w l) ≡ into narrow_numbered o
    → (x : shapes.Numbered) × (o ≡ some x) × (narrow_numbered x ≡ numbered_of r w l)
number-found none r w l e = absurd (none-ne-some _ (sym e))
number-found (some x) r w l e = (x, refl, some-injective _ _ (sym e))

-- a line of a number
line-says : (b : State lists) (v : List ℕ) (x : shapes.Numbered) (ls : List (List ℕ)) → numbered v ≡ some x
    → rest_said b ((text number_key ++ (61 ∷ v)) ∷ ls) ≡ rest_said (with_resource x b) ls
unfolding rest_said with_line value_behind behind
line-says b v x ls e = ap (λ (o : Option shapes.Numbered). rest_said (elim o [ none ↦ b | some y ↦ with_resource y b ]) ls) e

fits-put : (t : Numbers) (r o l : ℕ) → Fit t → Fit (put_number t r o l)
fits-put t r o l f = go (up_to 1 t.count r)
  where
    go : (b : Bool) → Fit (cond b (table_of t.count (with_number r o l (resources t))) t)
    go true = fit-with t r o l f
    go false = f

module _ {s : List ℕ} {at line : ℕ} {numbers table : Numbers} {o n : ℕ} (p : SoFar s at line numbers table o n) where
  -- no more of them
  pub all_read : NoLine number_in s o (text number_key) → NumbersRead s at line numbers (record { at = o; line = n; numbers = table })
  all_read l =
      record {
        onward = p.onward;
        scan = p.scan;
        next = l;
        of = λ a k. let q = p.of a k in record { told = q.told; held = q.held; says = q.says };
      }

  -- one more
  module _ {r w k next : ℕ} (l : LineIs number_in s o (text number_key) (numbered_of r w k) next) where
    more : (x : shapes.Numbered) → numbered l.value ≡ some x
        → SoFar s at line numbers (put_number table x.number (byte x.resource.owner) (byte x.resource.lock)) next (n + 1)
    more x e =
        record {
          onward = record { within = l.within; some = omega arith; counted = omega (arith, l.beyond, p.onward.counted) };
          fitting = fits-put table x.number (byte x.resource.owner) (byte x.resource.lock) p.fitting;
          scan = p.scan
              ∙ scan-on number_in s o numbering (choice number_form numbering) _ refl l
              (sym (there-into narrow_numbered (numbered l.value))) n
              ∙ ap (λ (y : ℕ). first_bad numbering y (ahead s next)) (let h : suc n ≡ n + 1 = omega arith in h);
          of = λ a k.
              let q = p.of a k in
              let b : State lists = on_book (with_resources q.told) a in
              record {
                told = newly table b q.held x;
                held = number-keeps table b q.held x;
                says = q.says ∙ ap (rest_said b) l.cut ∙ line-says b l.value x (ahead s next) e
                    ∙ ap (λ (y : State lists). rest_said y (ahead s next)) (number-says table b q.held x);
              };
        }

    pub one_more : (table' : Numbers) → table' ≡ put_number table r w k → SoFar s at line numbers table' next (n + 1)
    one_more table' f =
        let (x, e, h) = number-found (numbered l.value) r w k (sym l.shaped) in
        subst (λ (t : Numbers). SoFar s at line numbers t next (n + 1))
        (sym (f ∙ sym (ap (λ (y : shapes.Numbered). put_number table y.number y.resource.owner y.resource.lock) h))) (more x e)
