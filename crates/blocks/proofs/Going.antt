-- A turn, line by line: what is left of it while lines are printed for. Where a line with room before it comes first, it is
-- printed for and the turn goes on behind it.
-- Assumes nothing.
use Prim.Native.Nat.{ℕ, ◌+◌, ◌-◌, ◌≤◌, ◌<◌}
use native.Mathlib.Decide.{dec_lt}
use native.Mathlib.Omega.{arith}
use mathlib.Core.Path.{◌≡◌, refl, sym, ap, ap₂, ◌∙◌}
use mathlib.Core.List.{List, [], ◌∷◌, ◌++◌, append-nil, append_assoc}
use lib.ListN.{length, take, drop, length-append, length-drop, drop_of_length-le}
use lib.Seq.{slice, take_at, drop_at, drop-drop, length-slice}
use borrow.Author.Tests.{le-leb, lt-leb}
use borrow.Author.Rules.{part_to_end}
use borrow.Rule.Slice.PartMut.{put_mid, Post-is}
use Rattle.limits.specs.Limits.{page_room}
use Rattle.text.specs.Text.{parts}
use Rattle.text.specs.Lines.{lines_ended}
use Rattle.rules.specs.Answers as answers
use Rattle.tables.specs.declared.Tables.{Tables}
use Rattle.tables.specs.declared.Outcome.{Outcome}
use Rattle.tables.specs.Calls.{told}
use Rattle.rules.specs.Engine.{beside, front}
use Rattle.page.specs.Paging.{Written}
use Rattle.console.specs.Console.{keyed}
use Rattle.console.specs.Sheet.{bytes_for, lent, printed_bytes, line_shown}
use Rattle.console.proofs.OneLine.{shown-long, printed-fits}
use Rattle.console.proofs.LineEnds.{LineEnd, line-within, line_taken}
use Rattle.blocks.specs.Blocks.{Turn, turn, turned}
use Rattle.blocks.proofs.Cuts.{lines_ended-next}

-- bytes and then a turn; a turn that is over
abbrev pub behind : List ℕ → Turn → Turn
behind bytes x = record { tables = x.tables; place = x.place; bytes = bytes ++ x.bytes }

abbrev pub over : Tables → ℕ → Turn
over t at = record { tables = t; place = at; bytes = [] }

pub turn-next : (t : Tables) (l : List ℕ) (ls : List (List ℕ)) (at n : ℕ) → page_room ≤ n
    → turn t (l ∷ ls) at n ≡ behind (bytes_for t l) (turn (keyed t l lent).tables ls (at + length l + 1) (n - length (bytes_for t l)))
unfolding turn
turn-next t l ls at n h = rw (le-leb page_room n h, turn)

pub turn-full : (t : Tables) (ls : List (List ℕ)) (at n : ℕ) → n < page_room → turn t ls at n ≡ over t at
unfolding turn
turn-full t [] at n h = refl
turn-full t (l ∷ ls) at n h = rw (lt-leb page_room n h, turn)

pub turn-none : (t : Tables) (ls : List (List ℕ)) (at n : ℕ) → ls ≡ [] → turn t ls at n ≡ over t at
unfolding turn
turn-none t ls at n e = rw e

-- no line ends from here on
pub no_lines : (s : List ℕ) (from e : ℕ) → LineEnd s from e → e ≡ length s → lines_ended (parts 10 (drop from s)) ≡ []
unfolding parts
no_lines s from e E h = go (dec_lt (length s) from)
  where
    go : Dec (length s < from) → lines_ended (parts 10 (drop from s)) ≡ []
    go (yes p) = ap (λ (r : List ℕ). lines_ended (parts 10 r)) (drop_of_length-le s {i = from} (omega arith))
    go (no p) = ap lines_ended ((E.line (omega arith)).last h)

-- a line ends at e
pub one_line : (s : List ℕ) (from e : ℕ) → LineEnd s from e → from ≤ length s → e < length s
    → lines_ended (parts 10 (drop from s)) ≡ slice from e s ∷ lines_ended (parts 10 (drop (e + 1) s))
one_line s from e E p h = ap lines_ended ((E.line p).more h) ∙ lines_ended-next (slice from e s) (drop (e + 1) s)

-- the turn over a block, from place `at` on: some bytes are printed, and from place `from` on the turn is to go on
pub record Going (t₀ : Tables) (block : List ℕ) (at : ℕ) (out₀ out : List ℕ) (t : Tables) (from used : ℕ) : Type 0 where
  pub bytes : List ℕ
  pub many : used ≡ length bytes
  pub fits : used ≤ length out₀
  pub buffer : out ≡ front bytes out₀
  pub left : turn t₀ (lines_ended (parts 10 (drop at block))) at (length out₀)
      ≡ behind bytes (turn t (lines_ended (parts 10 (drop from block))) from (length out₀ - used))

pub going_start : (t : Tables) (block : List ℕ) (at : ℕ) (out : List ℕ) → Going t block at out out t at 0
going_start t block at out =
    let n : length out ≡ length out - 0 = omega arith in
    record { bytes = []; many = refl; fits = omega arith; buffer = refl; left = ap (turn t (lines_ended (parts 10 (drop at block))) at) n }

module _ {t₀ t : Tables} {block out₀ out : List ℕ} {at from used : ℕ} (g : Going t₀ block at out₀ out t from used) where
  -- the turn is over
  pub going-over : turn t (lines_ended (parts 10 (drop from block))) from (length out₀ - used) ≡ over t from
      → record { tables = t; place = from; used = used; buffer = out } ≡ turned t₀ block at out₀
  unfolding turned
  going-over h =
      let e : turn t₀ (lines_ended (parts 10 (drop at block))) at (length out₀) ≡ record { tables = t; place = from; bytes = g.bytes } =
      g.left ∙ ap (behind g.bytes) h ∙ (λ i. record { tables = t; place = from; bytes = append-nil g.bytes i })
      in
      (λ i. record { tables = t; place = from; used = g.many i; buffer = g.buffer i })
      ∙ ap (λ (x : Turn). record { tables = x.tables; place = x.place; used = length x.bytes; buffer = front x.bytes out₀ }) (sym e)

  -- what the buffer has at its front, and behind it
  going-front : take used out ≡ g.bytes
  going-front = ap (take used) g.buffer ∙ take_at g.bytes (drop (length g.bytes) out₀) used (sym g.many)

  going-behind : drop used out ≡ drop used out₀
  going-behind =
      ap (drop used) g.buffer ∙ drop_at g.bytes (drop (length g.bytes) out₀) used (sym g.many)
      ∙ ap (λ (k : ℕ). drop k out₀) (sym g.many)

  pub going-length : length out ≡ length out₀
  going-length = ap length g.buffer
      ∙ omega (arith, length-append g.bytes (drop (length g.bytes) out₀), length-drop (length g.bytes) out₀, g.fits, g.many)

  -- a line is printed for, into the part of the buffer that is left, which then comes back
  module _ (e : ℕ) (E : LineEnd block from e) (ends : e < length block) (big : page_room ≤ length out₀ - used) (r : Outcome) (after : List ℕ)
      (same : length after ≡ length out - used)
      (says : beside after (told r) ≡ line_shown t (take (e - from) (drop from block)) (take (length out - used) (drop used out)))
      (n : ℕ) (counts : n ≡ printed_bytes (answers.number r.answer) (answers.values r.answer)) where
    abbrev line : List ℕ
    line = slice from e block

    abbrev put : List ℕ
    put = bytes_for t line

    low : from ≤ e
    low = (E.line (line-within E ends)).low

    behind-length : length (drop used out) ≡ length out₀ - used
    behind-length = ap length going-behind ∙ length-drop used out₀

    said : beside after (told r) ≡ line_shown t line (drop used out)
    said = says ∙ ap₂ (λ (l : List ℕ) (o : List ℕ). line_shown t l o) (line_taken block from e low) (part_to_end out used)

    printing : beside after (told r)
        ≡ record { number = 0; values = length put ∷ []; tables = (keyed t line lent).tables; buffer = front put (drop used out) }
    printing = said ∙ shown-long t line (drop used out) (omega (arith, behind-length))

    many : n ≡ length put
    many = counts ∙ ap (λ (w : Written). printed_bytes w.number w.values) printing

    pub going-fits : used + n ≤ length out₀
    going-fits = omega (arith, printed-fits t line (drop used out) after r said (same ∙ sym (length-drop used out)), behind-length, g.fits)

    all : used + length put ≡ length (g.bytes ++ put)
    all = omega (arith, length-append g.bytes put, g.many)

    back : put_mid used (length out - used) out after ≡ take used out ++ after
    back =
        ap (λ (xs : List ℕ). take used out ++ (after ++ xs))
        (Post-is used (length out) out (omega (arith, g.fits, going-length)) ∙ drop_of_length-le out {i = length out} (omega arith))
        ∙ ap (λ (xs : List ℕ). take used out ++ xs) (append-nil after)

    buffer : put_mid used (length out - used) out after ≡ front (g.bytes ++ put) out₀
    buffer =
        back
        ∙ ap (λ (xs : List ℕ). xs ++ after) going-front
        ∙ ap (λ (xs : List ℕ). g.bytes ++ xs)
        (ap (λ (w : Written). w.buffer) printing ∙ ap (λ (xs : List ℕ). put ++ drop (length put) xs) going-behind)
        ∙ ap (λ (xs : List ℕ). g.bytes ++ (put ++ xs)) (drop-drop (length put) used out₀ ∙ ap (λ (k : ℕ). drop k out₀) all)
        ∙ sym (append_assoc g.bytes put (drop (length (g.bytes ++ put)) out₀))

    -- the turn from the next line on
    abbrev next : Turn
    next = turn r.tables (lines_ended (parts 10 (drop (e + 1) block))) (e + 1) (length out₀ - (used + n))

    left : turn t (lines_ended (parts 10 (drop from block))) from (length out₀ - used) ≡ behind put next
    left =
        let len : length line ≡ e - from = length-slice from e block (omega arith) in
        let place : from + length line + 1 ≡ e + 1 = omega (arith, low) in
        let rest : length out₀ - used - length put ≡ length out₀ - (used + n) = omega (arith, many) in
        let ls : List (List ℕ) = lines_ended (parts 10 (drop (e + 1) block)) in
        let t' : (keyed t line lent).tables ≡ r.tables = sym (ap (λ (w : Written). w.tables) printing) in
        ap (λ (xs : List (List ℕ)). turn t xs from (length out₀ - used)) (one_line block from e E (line-within E ends) ends)
        ∙ turn-next t line ls from (length out₀ - used) big
        ∙ (λ i. behind put (turn (t' i) ls (place i) (rest i)))

    pub going-line : Going t₀ block at out₀ (put_mid used (length out - used) out after) r.tables (e + 1) (used + n)
    going-line = record {
      bytes = g.bytes ++ put;
      many = ap (λ (k : ℕ). used + k) many ∙ all;
      fits = going-fits;
      buffer = buffer;
      left =
          g.left
          ∙ ap (behind g.bytes) left
          ∙ (λ i. record { tables = next.tables; place = next.place; bytes = sym (append_assoc g.bytes put next.bytes) i });
    }
