-- Turn after turn over a block prints for every line that ends in it, in order, and comes to the place of the line that does not; and a
-- turn with room before it that prints nothing finds no line that ends. Each turn prints for some of the lines from its place on; with room
-- before it, for one at least where there is one.
-- Assumes nothing.
use Prim.Native.Nat.{ℕ, zero, suc, ◌+◌, ◌-◌, ◌≤◌, ◌<◌}
use native.Mathlib.Decide.{dec_lt}
use native.Mathlib.Omega.{arith}
use mathlib.Core.Path.{◌≡◌, refl, sym, ap, ap₂, ◌∙◌}
use mathlib.Core.Bool.{Bool, true, false, cond}
use mathlib.Core.List.{List, [], ◌∷◌, ◌++◌, append_assoc, append-nil}
use lib.Dec.{eqb}
use lib.ListN.{length, take, drop, length-append, length-drop}
use lib.Seq.{slice, drop-drop, length-slice, take-length}
use borrow.Author.Tests.{eqb-true, eqb-false}
use Rattle.limits.specs.Limits.{page_room}
use Rattle.text.specs.Text.{on_first, parts, entry}
use Rattle.text.specs.Lines.{lines_ended, last_bytes}
use Rattle.text.specs.Inner.{PartEnd}
use Rattle.text.proofs.Fields.{until, part_end}
use Rattle.rules.specs.Keeper.{lists, State}
use Rattle.tables.specs.declared.Tables.{Tables}
use Rattle.tables.specs.Tables.{plain}
use Rattle.page.specs.Page.{bytes, lines, page}
use Rattle.page.specs.Paging.{Written}
use Rattle.console.specs.Line.{Line, bad, PAGE, asks, ticks, line_of}
use Rattle.console.specs.Console.{keyed}
use Rattle.console.specs.Sheet.{bytes_for, lent, answer_line, shown, printed}
use Rattle.blocks.specs.Blocks.{All, kept_after, tables_after, Turn, turn, Turned, turned, turns}
use Rattle.blocks.proofs.Cuts.{lines_ended-next, last_bytes-next}
use Rattle.blocks.proofs.Arriving.{printed-append, after-append}
use Rattle.blocks.proofs.Going.{behind, over, turn-next, turn-full}

-- every line prints something
answer-some : (r : Written) → 0 < length (answer_line r)
unfolding answer_line
answer-some r = omega arith

page-some : (a : State lists) → 0 < length (page a)
unfolding page lines bytes entry
page-some a = omega arith

shown-some : (x : Line) (t : Tables) (r : Written) → 0 < length (shown x t r)
shown-some bad t r = answer-some r
shown-some PAGE t r = go (eqb r.number 0)
  where
    go : (b : Bool) → 0 < length (cond b (page (plain t)) (answer_line r))
    go true = page-some (plain t)
    go false = answer-some r
shown-some (asks q) t r = answer-some r
shown-some (ticks n) t r = answer-some r

printed-some : (t : Tables) (ls : List (List ℕ)) → length (printed t ls) ≡ 0 → ls ≡ []
unfolding printed
printed-some t [] e = refl
printed-some t (l ∷ ls) e =
    absurd (omega (arith, shown-some (line_of l) t (keyed t l lent), length-append (bytes_for t l) (printed (keyed t l lent).tables ls)))

printed-one : (t : Tables) (ls : List (List ℕ)) → (length (printed t ls) ≡ 0 → ⊥) → 1 ≤ length ls
unfolding printed
printed-one t [] q = absurd (q refl)
printed-one t (l ∷ ls) q = omega arith

pub no-lines-left : (ls : List (List ℕ)) → length ls ≡ 0 → ls ≡ []
no-lines-left [] q = refl
no-lines-left (l ∷ ls) q = absurd (omega arith)

-- the first of the lines that end in a text: the text is cut behind its byte 10
pub record First (s l : List ℕ) (ls : List (List ℕ)) : Type 0 where
  pub cut : parts 10 s ≡ l ∷ parts 10 (drop (length l + 1) s)
  pub others : lines_ended (parts 10 (drop (length l + 1) s)) ≡ ls

-- and of none
module _ (s : List ℕ) where
  at-end : PartEnd 10 s 0 (0 + until 10 (drop 0 s))
  at-end = part_end 10 s 0 (omega arith)

  abbrev stop : ℕ
  stop = 0 + until 10 (drop 0 s)

  last-cut : stop ≡ length s → parts 10 s ≡ s ∷ []
  last-cut h = at-end.last h ∙ ap (λ (xs : List ℕ). xs ∷ []) (ap (λ (k : ℕ). take k s) h ∙ take-length s)

  more_cut : stop < length s → lines_ended (parts 10 s) ≡ slice 0 stop s ∷ lines_ended (parts 10 (drop (stop + 1) s))
  more_cut h = ap lines_ended (at-end.more h) ∙ lines_ended-next (slice 0 stop s) (drop (stop + 1) s)

  pub first-line : (l : List ℕ) (ls : List (List ℕ)) → lines_ended (parts 10 s) ≡ l ∷ ls → First s l ls
  first-line l ls q = go (dec_lt stop (length s))
    where
      go : Dec (stop < length s) → First s l ls
      go (no h) = absurd (omega (arith, ap length (sym (ap lines_ended (last-cut (omega (arith, at-end.high)))) ∙ q)))
      go (yes h) =
          let m = sym (more_cut h) ∙ q in
          let is : slice 0 stop s ≡ l = cc in
          let rest : lines_ended (parts 10 (drop (stop + 1) s)) ≡ ls = cc in
          let n : stop ≡ length l = omega (arith, length-slice 0 stop s at-end.high, ap length is) in
          record {
            cut = at-end.more h ∙ ap₂ (λ (xs : List ℕ) (k : ℕ). xs ∷ parts 10 (drop (k + 1) s)) is n;
            others = ap (λ (k : ℕ). lines_ended (parts 10 (drop (k + 1) s))) (sym n) ∙ rest;
          }

  pub none-ends : lines_ended (parts 10 s) ≡ [] → last_bytes (parts 10 s) ≡ s
  none-ends q = go (dec_lt stop (length s))
    where
      go : Dec (stop < length s) → last_bytes (parts 10 s) ≡ s
      go (yes h) = absurd (omega (arith, ap length (sym (more_cut h) ∙ q)))
      go (no h) = ap last_bytes (last-cut (omega (arith, at-end.high)))

-- what a turn over a text takes of it
pub record Took (t : Tables) (s : List ℕ) (at n : ℕ) (x : Turn) : Type 0 where
  pub lines : List (List ℕ)
  pub past : ℕ
  pub place : x.place ≡ at + past
  pub split : lines_ended (parts 10 s) ≡ lines ++ lines_ended (parts 10 (drop past s))
  pub rest : last_bytes (parts 10 (drop past s)) ≡ last_bytes (parts 10 s)
  pub bytes : x.bytes ≡ printed t lines
  pub tables : x.tables ≡ tables_after t lines
  pub some : page_room ≤ n → lines ≡ [] → lines_ended (parts 10 s) ≡ []

took-none : (t : Tables) (s : List ℕ) (at n : ℕ) → (page_room ≤ n → lines_ended (parts 10 s) ≡ []) → Took t s at n (over t at)
unfolding printed kept_after
took-none t s at n h =
    record { lines = []; past = 0; place = omega arith; split = refl; rest = refl; bytes = refl; tables = refl; some = λ b e. h b }

took-line : (t : Tables) (s : List ℕ) (at n : ℕ) (l : List ℕ) (ls : List (List ℕ)) (x : Turn) (n' : ℕ) → First s l ls
    → Took (keyed t l lent).tables (drop (length l + 1) s) (at + length l + 1) n' x → Took t s at n (behind (bytes_for t l) x)
unfolding printed kept_after
took-line t s at n l ls x n' f h =
    let s' : List ℕ = drop (length l + 1) s in
    let far : drop h.past s' ≡ drop (length l + 1 + h.past) s = drop-drop h.past (length l + 1) s in
    record {
      lines = l ∷ h.lines;
      past = length l + 1 + h.past;
      place = omega (arith, h.place);
      split =
          ap lines_ended f.cut ∙ lines_ended-next l s' ∙ ap (λ (xs : List (List ℕ)). l ∷ xs) h.split
          ∙ ap (λ (r : List ℕ). l ∷ (h.lines ++ lines_ended (parts 10 r))) far;
      rest = ap (λ (r : List ℕ). last_bytes (parts 10 r)) (sym far) ∙ h.rest ∙ sym (ap last_bytes f.cut ∙ last_bytes-next l s');
      bytes = ap (λ (xs : List ℕ). bytes_for t l ++ xs) h.bytes;
      tables = h.tables;
      some = λ b e. absurd (omega (arith, ap length e));
    }

pub turn-took : (ls : List (List ℕ)) (t : Tables) (s : List ℕ) (at n : ℕ) → lines_ended (parts 10 s) ≡ ls → Took t s at n (turn t ls at n)
unfolding turn
turn-took [] t s at n e = took-none t s at n (λ b. e)
turn-took (l ∷ ls) t s at n e =
    let f = first-line s l ls e in
    go (turn-took ls (keyed t l lent).tables (drop (length l + 1) s) (at + length l + 1) (n - length (bytes_for t l)) f.others)
    (dec_lt n page_room)
  where
    go : Took (keyed t l lent).tables (drop (length l + 1) s) (at + length l + 1) (n - length (bytes_for t l))
        (turn (keyed t l lent).tables ls (at + length l + 1) (n - length (bytes_for t l)))
        → Dec (n < page_room) → Took t s at n (turn t (l ∷ ls) at n)
    go h (yes small) = rw (turn-full t (l ∷ ls) at n small) (took-none t s at n (λ b. absurd (omega arith)))
    go h (no big) = rw (turn-next t l ls at n (omega arith)) (took-line t s at n l ls _ _ (first-line s l ls e) h)

-- a turn that prints nothing
pub turn-ends : (t : Tables) (s : List ℕ) (at n : ℕ) → page_room ≤ n → length (turn t (lines_ended (parts 10 s)) at n).bytes ≡ 0
    → lines_ended (parts 10 s) ≡ []
turn-ends t s at n big e =
    let h = turn-took (lines_ended (parts 10 s)) t s at n refl in
    h.some big (printed-some t h.lines (ap length (sym h.bytes) ∙ e))

-- from the place that a turn comes to
took-there : (t : Tables) (block : List ℕ) (at n : ℕ) (x : Turn) (h : Took t (drop at block) at n x)
    → drop h.past (drop at block) ≡ drop x.place block
took-there t block at n x h = drop-drop h.past at block ∙ ap (λ (k : ℕ). drop k block) (sym h.place)

took-split : (t : Tables) (block : List ℕ) (at n : ℕ) (x : Turn) (h : Took t (drop at block) at n x)
    → lines_ended (parts 10 (drop at block)) ≡ h.lines ++ lines_ended (parts 10 (drop x.place block))
took-split t block at n x h = h.split ∙ ap (λ (r : List ℕ). h.lines ++ lines_ended (parts 10 r)) (took-there t block at n x h)

none_left : (t : Tables) (block : List ℕ) (at n : ℕ) (x : Turn) (h : Took t (drop at block) at n x) → h.lines ≡ []
    → lines_ended (parts 10 (drop at block)) ≡ [] → All t block at x
none_left t block at n x h e q =
    let r : List ℕ = drop x.place block in
    let none : lines_ended (parts 10 r) ≡ [] =
    ap (λ (ls : List (List ℕ)). ls ++ lines_ended (parts 10 r)) (sym e) ∙ sym (took-split t block at n x h) ∙ q in
    record {
      bytes = h.bytes ∙ ap (printed t) (e ∙ sym q);
      tables = h.tables ∙ ap (tables_after t) (e ∙ sym q);
      rest = sym (none-ends r none) ∙ ap (λ (s : List ℕ). last_bytes (parts 10 s)) (sym (took-there t block at n x h)) ∙ h.rest;
    }

some_left : (t : Tables) (block : List ℕ) (at n : ℕ) (x y : Turn) → Took t (drop at block) at n x → All x.tables block x.place y
    → All t block at (record { tables = y.tables; place = y.place; bytes = x.bytes ++ y.bytes })
some_left t block at n x y h a =
    let ls : List (List ℕ) = lines_ended (parts 10 (drop x.place block)) in
    let split = sym (took-split t block at n x h) in
    record {
      bytes =
          ap₂ (λ (xs : List ℕ) (ys : List ℕ). xs ++ ys) h.bytes (a.bytes ∙ ap (λ (u : Tables). printed u ls) h.tables)
          ∙ sym (printed-append t h.lines ls)
          ∙ ap (printed t) split;
      tables = a.tables ∙ ap (λ (u : Tables). tables_after u ls) h.tables ∙ sym (after-append t h.lines ls)
          ∙ ap (tables_after t) split;
      rest = a.rest ∙ ap (λ (s : List ℕ). last_bytes (parts 10 s)) (sym (took-there t block at n x h)) ∙ h.rest;
    }

-- no more lines end than there are bytes
pub lines_ended-few : (s : List ℕ) → length (lines_ended (parts 10 s)) ≤ length s
unfolding parts
lines_ended-few [] = omega arith
lines_ended-few (x ∷ xs) = go (eqb x 10) (lines_ended-few xs)
  where
    first : (ls : List (List ℕ)) → length (lines_ended (on_first x ls)) ≡ length (lines_ended ls)
    first [] = refl
    first (f ∷ []) = refl
    first (f ∷ g ∷ gs) = refl

    go : (b : Bool) → length (lines_ended (parts 10 xs)) ≤ length xs
        → length (lines_ended (cond b ([] ∷ parts 10 xs) (on_first x (parts 10 xs)))) ≤ suc (length xs)
    go true ih = omega (arith, ap length (lines_ended-next [] xs))
    go false ih = omega (arith, first (parts 10 xs))

turns-all : (k : ℕ) (t : Tables) (block : List ℕ) (at n : ℕ) → page_room ≤ n → length (lines_ended (parts 10 (drop at block))) ≤ k
    → All t block at (turns k t block at n)
unfolding turns took-none
turns-all zero t block at n big few =
    let e = no-lines-left (lines_ended (parts 10 (drop at block))) (omega arith) in
    none_left t block at n (over t at) (took-none t (drop at block) at n (λ b. e)) refl e
turns-all (suc k) t block at n big few =
    let x : Turn = turn t (lines_ended (parts 10 (drop at block))) at n in
    go x (turn-took (lines_ended (parts 10 (drop at block))) t (drop at block) at n refl) (λ m. turns-all k x.tables block x.place n big m)
    (eqb (length x.bytes) 0) refl
  where
    go : (x : Turn) → Took t (drop at block) at n x →
        (length (lines_ended (parts 10 (drop x.place block))) ≤ k → All x.tables block x.place (turns k x.tables block x.place n))
        → (b : Bool) → eqb (length x.bytes) 0 ≡ b
        → All t block at
        (elim b [
          | true ↦ x
          | false ↦ record {
            tables = (turns k x.tables block x.place n).tables;
            place = (turns k x.tables block x.place n).place;
            bytes = x.bytes ++ (turns k x.tables block x.place n).bytes;
          }
        ])
    go x h ih true e =
        let none = printed-some t h.lines (ap length (sym h.bytes) ∙ eqb-true (length x.bytes) 0 e) in
        none_left t block at n x h none (h.some big none)
    go x h ih false e = some_left t block at n x _ h (ih fewer)
      where
        fewer : length (lines_ended (parts 10 (drop x.place block))) ≤ k
        fewer =
            omega (
              arith,
              ap length (took-split t block at n x h),
              length-append h.lines (lines_ended (parts 10 (drop x.place block))),
              printed-one t h.lines (λ q. eqb-false (length x.bytes) 0 e (ap length h.bytes ∙ q)),
            )

pub all-turns : (k : ℕ) (t : Tables) (block : List ℕ) (at n : ℕ) → page_room ≤ n → length block ≤ k → All t block at (turns k t block at n)
all-turns k t block at n big few = turns-all k t block at n big (omega (arith, lines_ended-few (drop at block), length-drop at block))

-- what a turn printed fits what was lent
pub turned-fits : (t : Tables) (block : List ℕ) (at : ℕ) (out : List ℕ) (x : Turned) → x ≡ turned t block at out
    → length x.buffer ≡ length out → x.used ≤ length out
unfolding turned
turned-fits t block at out x e same =
    let bytes : List ℕ = (turn t (lines_ended (parts 10 (drop at block))) at (length out)).bytes in
    omega (
      arith,
      ap (λ (y : Turned). y.used) e,
      ap (λ (y : Turned). length y.buffer) e,
      length-append bytes (drop (length bytes) out),
      length-drop (length bytes) out,
    )

-- the same turn by turn: from place `from` on the lines are to be printed for that are left of the block's, and
-- the tables are those after the others
pub record Onward (t₀ : Tables) (block : List ℕ) (t : Tables) (from : ℕ) : Type 0 where
  pub lines : List (List ℕ)
  pub split : lines_ended (parts 10 block) ≡ lines ++ lines_ended (parts 10 (drop from block))
  pub rest : last_bytes (parts 10 (drop from block)) ≡ last_bytes (parts 10 block)
  pub tables : t ≡ tables_after t₀ lines

pub onward-start : (t : Tables) (block : List ℕ) → Onward t block t 0
unfolding kept_after
onward-start t block = record { lines = []; split = refl; rest = refl; tables = refl }

pub onward-none : {t₀ : Tables} {block : List ℕ} {t : Tables} {from : ℕ} → Onward t₀ block t from → lines_ended (parts 10 (drop from block)) ≡ []
    → (t ≡ tables_after t₀ (lines_ended (parts 10 block))) × (drop from block ≡ last_bytes (parts 10 block))
onward-none {t₀} {block} {t} {from} o e = (
  o.tables ∙ ap (tables_after t₀) (sym (o.split ∙ ap (λ (ls : List (List ℕ)). o.lines ++ ls) e ∙ append-nil o.lines)),
  sym (none-ends (drop from block) e) ∙ o.rest,
)

module _ (t : Tables) (block : List ℕ) (from : ℕ) (out : List ℕ) (y : Turned) (is : y ≡ turned t block from out) where
  abbrev x : Turn
  x = turn t (lines_ended (parts 10 (drop from block))) from (length out)

  took : Took t (drop from block) from (length out) x
  took = turn-took (lines_ended (parts 10 (drop from block))) t (drop from block) from (length out) refl

  place_is : y.place ≡ x.place
  unfolding turned
  place_is = ap (λ (z : Turned). z.place) is

  used-is : y.used ≡ length x.bytes
  unfolding turned
  used-is = ap (λ (z : Turned). z.used) is

  tables-are : y.tables ≡ x.tables
  unfolding turned
  tables-are = ap (λ (z : Turned). z.tables) is

  split_at : lines_ended (parts 10 (drop from block)) ≡ took.lines ++ lines_ended (parts 10 (drop y.place block))
  split_at = took-split t block from (length out) x took ∙ ap (λ (k : ℕ). took.lines ++ lines_ended (parts 10 (drop k block))) (sym place_is)

  pub onward-turn : {t₀ : Tables} → Onward t₀ block t from → Onward t₀ block y.tables y.place
  onward-turn {t₀} o = record {
    lines = o.lines ++ took.lines;
    split =
        o.split
        ∙ ap (λ (ls : List (List ℕ)). o.lines ++ ls) split_at
        ∙ sym (append_assoc o.lines took.lines (lines_ended (parts 10 (drop y.place block))));
    rest =
        ap (λ (k : ℕ). last_bytes (parts 10 (drop k block))) place_is
        ∙ ap (λ (s : List ℕ). last_bytes (parts 10 s)) (sym (took-there t block from (length out) x took))
        ∙ took.rest
        ∙ o.rest;
    tables = tables-are ∙ took.tables ∙ ap (λ (u : Tables). tables_after u took.lines) o.tables
        ∙ sym (after-append t₀ o.lines took.lines);
  }

  -- a turn that prints something leaves fewer lines, and one that prints nothing leaves none
  pub turn-fewer : (y.used ≡ 0 → ⊥) → length (lines_ended (parts 10 (drop y.place block))) + 1 ≤ length (lines_ended (parts 10 (drop from block)))
  turn-fewer some =
      omega (
        arith,
        ap length split_at,
        length-append took.lines (lines_ended (parts 10 (drop y.place block))),
        printed-one t took.lines (λ q. some (used-is ∙ ap length took.bytes ∙ q)),
      )

  pub turn_last : page_room ≤ length out → y.used ≡ 0 → lines_ended (parts 10 (drop y.place block)) ≡ []
  turn_last big none =
      let e = turn-ends t (drop from block) from (length out) big (sym used-is ∙ none) in
      no-lines-left (lines_ended (parts 10 (drop y.place block)))
      (omega (arith, ap length split_at, ap length e, length-append took.lines (lines_ended (parts 10 (drop y.place block)))))
