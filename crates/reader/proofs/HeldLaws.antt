-- The tracks that are held, line by line: what is read so far.
-- Assumes nothing.
use Prim.Native.Nat.{ℕ, zero, suc, ◌+◌, ◌-◌, ◌≤◌, ◌<◌}
use native.Mathlib.Omega.{arith}
use mathlib.Core.Path.{◌≡◌, refl, sym, ap, ◌∙◌, subst}
use mathlib.Core.Bool.{Bool, true, false, cond, ◌&&◌}
use mathlib.Core.List.{List, [], ◌∷◌, ◌++◌, map}
use mathlib.Core.Option.{Option, none, some, none-ne-some, some-injective}
use lib.ListN.{set, drop, length-map}
use lib.Dec.{leb, ltb}
use borrow.Author.Tests.{le-leb, lt-leb, lt-ltb, le-ltb}
use Rattle.lists.proofs.Tests.{and, not-both}
use Rattle.text.specs.Text.{text}
use Rattle.tracks.specs.declared.Tracks.{Tracks}
use Rattle.tracks.specs.declared.held.Run.{Run}
use Rattle.tracks.specs.Tracks.{places, table_at, holders, table_of, filled}
use Rattle.tracks.specs.Inner.{Fit}
use Rattle.tracks.proofs.Fits.{holders-of, fit}
use Rattle.tracks.proofs.Runs.{filled-long}
use Rattle.rules.specs.Book.{with_holders}
use Rattle.rules.specs.Keeper.{lists, State}
use Rattle.page.specs.Page.{held_key, number_key}
use Rattle.shapes.specs.Shapes.{there, into, run_in}
use Rattle.reader.specs.Order.{holding, numbering, ended, held_form, number_form, end_form, choice, value_behind}
use Rattle.reader.specs.Order.{behind_line, first_bad}
use Rattle.reader.specs.Said.{on_book, with_run, with_held, with_numbered, with_line, rest_said}
use Rattle.shapes.specs.Inner.{byte, narrow_run, held_in, run_of, LineIs, NoLine, unended, keyless, shapeless}
use Rattle.reader.specs.Walks.{ahead, Onward, Holds, HeldRead}
use Rattle.reader.proofs.Mapping.{map-set}
use Rattle.reader.proofs.ScanLaws.{value-behind}
use Rattle.reader.proofs.LineLaws.{there-into, scan-alike, pass-key, pass_shape, scan-on}

-- what is held so far in a state
pub record HeldSoFar (s : List ℕ) (at o : ℕ) (table : Tracks) (a : State lists) : Type 0 where
  pub told : List ℕ
  pub held : Holds table (on_book (with_holders told) a)
  pub says : rest_said a (ahead s at) ≡ rest_said (on_book (with_holders told) a) (ahead s o)

pub record SoFar (s : List ℕ) (at line : ℕ) (tracks table : Tracks) (o n : ℕ) : Type 0 where
  pub onward : Onward s o n
  pub fitting : Fit table
  pub scan : first_bad holding line (ahead s at) ≡ first_bad holding n (ahead s o)
  pub of : (a : State lists) → Holds tracks a → HeldSoFar s at o table a

pub none_yet : (s : List ℕ) (at line : ℕ) (t : Tracks) → Onward s at line → Fit t → SoFar s at line t t at line
none_yet s at line t h f =
    record { onward = h; fitting = f; scan = refl; of = λ a k. record { told = a.book.holders; held = k; says = refl } }

-- the table with a run put into it, where it has these tracks
abbrev pub within : Tracks → ℕ → ℕ → Bool
within t i j = leb i j && ltb j t.count

abbrev pub put_run : Tracks → ℕ → ℕ → ℕ → Tracks
put_run t i j h = cond (within t i j) (table_of t.count t.system (filled i (suc j - i) h (holders t))) t

pub put_in : (t : Tracks) (i j h n : ℕ) → i ≤ j → j < t.count → n ≡ suc j - i
    → table_of t.count t.system (filled i n h (holders t)) ≡ put_run t i j h
put_in t i j h n l u e =
    ap (λ (k : ℕ). table_of t.count t.system (filled i k h (holders t))) e
    ∙ sym (ap (λ (b : Bool). cond b (table_of t.count t.system (filled i (suc j - i) h (holders t))) t)
    (and (le-leb i j l) (lt-ltb j t.count u)))

pub put-over : (t : Tracks) (i j h : ℕ) → t.count ≤ j → t ≡ put_run t i j h
put-over t i j h u =
    sym (ap (λ (b : Bool). cond b (table_of t.count t.system (filled i (suc j - i) h (holders t))) t)
    (not-both (leb i j) (ltb j t.count) (le-ltb j t.count u)))

pub put_back : (t : Tracks) (i j h : ℕ) → j < i → t ≡ put_run t i j h
put_back t i j h u =
    sym (ap (λ (b : Bool). cond (b && ltb j t.count) (table_of t.count t.system (filled i (suc j - i) h (holders t))) t)
    (lt-leb i j u))

-- figures in a byte
map-filled : (i n h : ℕ) (xs : List ℕ) → map byte (filled i n h xs) ≡ filled i n (byte h) (map byte xs)
map-filled i zero h xs = refl
map-filled i (suc n) h xs =
    map-set byte (filled i n h xs) (i + n) h ∙ ap (λ (zs : List ℕ). set zs (i + n) (byte h)) (map-filled i n h xs)

-- a run put into a table and into a state
module _ (t : Tracks) (a : State lists) (k : Holds t a) (g : Run) where
  count-is : t.count ≡ a.book.tracks
  count-is = ap (λ (x : Tracks). x.count) k.table

  holders-are : holders t ≡ map byte a.book.holders
  holders-are =
      ap holders k.table
      ∙ holders-of a.book.tracks a.book.system (map byte a.book.holders) (length-map a.book.holders byte ∙ k.long)

  abbrev told_by : Bool → List ℕ
  told_by b = cond b (filled g.first (suc g.last - g.first) g.holder a.book.holders) a.book.holders

  pub newly : List ℕ
  newly = told_by (leb g.first g.last && ltb g.last a.book.tracks)

  pub run-says : with_run g a ≡ on_book (with_holders newly) a
  unfolding newly
  run-says = go (leb g.first g.last && ltb g.last a.book.tracks)
    where
      go : (b : Bool)
          → record {
            book = cond b (with_holders (filled g.first (suc g.last - g.first) g.holder a.book.holders) a.book)
                a.book;
            kept = a.kept;
          }
          ≡ on_book (with_holders (told_by b)) a
      go true = refl
      go false = refl

  pub run_holds : Holds (put_run t g.first g.last (byte g.holder)) (on_book (with_holders newly) a)
  unfolding newly
  run_holds =
      subst (λ (T : ℕ). Holds (cond (leb g.first g.last && ltb g.last T) full t) (on_book (with_holders newly) a)) (sym count-is)
      (go (leb g.first g.last && ltb g.last a.book.tracks))
    where
      full : Tracks
      full = table_of t.count t.system (filled g.first (suc g.last - g.first) (byte g.holder) (holders t))

      go : (b : Bool) → Holds (cond b full t) (on_book (with_holders (told_by b)) a)
      go false = k
      go true =
          record {
            table = ap (λ (x : Tracks). table_of x.count x.system
                (filled g.first (suc g.last - g.first) (byte g.holder) (holders t))) k.table
                ∙ ap (λ (x : List ℕ). table_of a.book.tracks a.book.system
                (filled g.first (suc g.last - g.first) (byte g.holder) x)) holders-are
                ∙ ap (table_of a.book.tracks a.book.system)
                (sym (map-filled g.first (suc g.last - g.first) g.holder a.book.holders));
            long = filled-long g.first (suc g.last - g.first) g.holder a.book.holders ∙ k.long;
          }

-- a run as the code reads it
run-found : (o : Option Run) (i j h : ℕ) → some (run_of i j h) ≡ into narrow_run o
    → (g : Run) × (o ≡ some g) × (narrow_run g ≡ run_of i j h)
run-found none i j h e = absurd (none-ne-some _ (sym e))
run-found (some g) i j h e = (g, refl, some-injective _ _ (sym e))

-- a line of a run
held-says : (b : State lists) (v : List ℕ) (g : Run) (ls : List (List ℕ)) → run_in v ≡ some g
    → rest_said b ((text held_key ++ (61 ∷ v)) ∷ ls) ≡ rest_said (with_run g b) ls
unfolding rest_said with_line
held-says b v g ls e =
    ap (λ (o : Option (List ℕ)). rest_said (elim o [
      | some w ↦ with_held w b
      | none ↦ elim (value_behind (text number_key) (text held_key ++ (61 ∷ v))) [ some w ↦ with_numbered w b | none ↦ b ]
    ]) ls) (value-behind (text held_key) v)
    ∙ ap (λ (o : Option Run). rest_said (elim o [ none ↦ b | some x ↦ with_run x b ]) ls) e

fits-put : (t : Tracks) (i j h : ℕ) → Fit t → Fit (put_run t i j h)
fits-put t i j h f = go (within t i j)
  where
    go : (b : Bool) → Fit (cond b (table_of t.count t.system (filled i (suc j - i) h (holders t))) t)
    go true = fit t.count t.system (filled i (suc j - i) h (holders t)) (filled-long i (suc j - i) h (holders t) ∙ f.long) f.most
    go false = f

-- a line of another kind, or of this one but not of its shape: what may come is the same as at the numbers
unheld : (v : List ℕ) → held_in v ≡ none → there (run_in v) ≡ false
unheld v e = sym (there-into narrow_run (run_in v)) ∙ ap there e

to-numbers : (s : List ℕ) (o n : ℕ) → NoLine held_in s o (text held_key) → first_bad holding n (ahead s o) ≡ first_bad numbering n (ahead s o)
unfolding first_bad behind_line
to-numbers s o n (unended l e) = ap (first_bad holding n) e ∙ sym (ap (first_bad numbering n) e)
to-numbers s o n (keyless l next e k) =
    scan-alike holding numbering l (drop next s) n
    (pass-key (choice held_form holding) (choice number_form numbering ∷ choice end_form ended ∷ []) l k) e
to-numbers s o n (shapeless v next e k) =
    scan-alike holding numbering (text held_key ++ (61 ∷ v)) (drop next s) n
    (pass_shape (choice held_form holding) (choice number_form numbering ∷ choice end_form ended ∷ []) v (unheld v k)) e

module _ {s : List ℕ} {at line : ℕ} {tracks table : Tracks} {o n : ℕ} (p : SoFar s at line tracks table o n) where
  -- no more of them
  pub all_read : NoLine held_in s o (text held_key) → HeldRead s at line tracks (record { at = o; line = n; tracks = table })
  all_read l =
      record {
        onward = p.onward;
        scan = p.scan ∙ to-numbers s o n l;
        of = λ a k. let q = p.of a k in record { told = q.told; held = q.held; says = q.says };
      }

  -- one more
  module _ {i j h next : ℕ} (l : LineIs held_in s o (text held_key) (run_of i j h) next) where
    more : (g : Run) → run_in l.value ≡ some g
        → SoFar s at line tracks (put_run table g.first g.last (byte g.holder)) next (n + 1)
    more g e =
        record {
          onward = record { within = l.within; some = omega arith; counted = omega (arith, l.beyond, p.onward.counted) };
          fitting = fits-put table g.first g.last (byte g.holder) p.fitting;
          scan = p.scan
              ∙ scan-on held_in s o holding (choice held_form holding) _ refl l (sym (there-into narrow_run (run_in l.value))) n
              ∙ ap (λ (x : ℕ). first_bad holding x (ahead s next)) (let h : suc n ≡ n + 1 = omega arith in h);
          of = λ a k.
              let q = p.of a k in
              let b : State lists = on_book (with_holders q.told) a in
              record {
                told = newly table b q.held g;
                held = run_holds table b q.held g;
                says = q.says ∙ ap (rest_said b) l.cut ∙ held-says b l.value g (ahead s next) e
                    ∙ ap (λ (x : State lists). rest_said x (ahead s next)) (run-says table b q.held g);
              };
        }

    pub one_more : (table' : Tracks) → table' ≡ put_run table i j h → SoFar s at line tracks table' next (n + 1)
    one_more table' f =
        let (g, e, k) = run-found (run_in l.value) i j h (sym l.shaped) in
        subst (λ (t : Tracks). SoFar s at line tracks t next (n + 1))
        (sym (f ∙ sym (ap (λ (x : Run). put_run table x.first x.last x.holder) k))) (more g e)

-- the tables hold the places that were read
pub all_held : {s : List ℕ} {at line : ℕ} (t : Tracks) {ps₀ ps : List ℕ} {o n : ℕ} → ps₀ ≡ places t
    → SoFar s at line (table_at t.count t.system ps₀) (table_at t.count t.system ps) o n → NoLine held_in s o (text held_key)
    → {x : Tracks} → x ≡ table_at t.count t.system ps → HeldRead s at line t (record { at = o; line = n; tracks = x })
all_held {s} {at} {line} t {ps₀} {ps} {o} {n} e p l {x} f =
    subst (λ (y : Tracks). HeldRead s at line t (record { at = o; line = n; tracks = y })) (sym f)
    (subst (λ (qs : List ℕ). HeldRead s at line (table_at t.count t.system qs)
    (record { at = o; line = n; tracks = table_at t.count t.system ps })) e (all_read p l))
