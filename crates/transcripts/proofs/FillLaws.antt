-- The list as it is filled, line by line: what is put and what the lines ahead add to it is the whole.
-- Assumes nothing.
use Prim.Native.Nat.{ℕ, suc, ◌+◌, ◌≤◌, ◌<◌}
use native.Mathlib.Omega.{arith}
use mathlib.Core.Path.{◌≡◌, refl, sym, ap, ap₂, subst, ◌∙◌}
use mathlib.Core.Bool.{Bool, true, false, cond}
use mathlib.Core.List.{List, [], ◌∷◌, ◌++◌}
use mathlib.Core.Option.{Option, none, some}
use lib.ListN.{length, take, length-append}
use lib.Seq.{length-slice}
use Rattle.lists.proofs.Tests.{clash}
use Rattle.text.specs.Text.{parts}
use Rattle.text.specs.Inner.{Wrote}
use Rattle.text.proofs.Laws.{Left, left-start, left_step, left-room, left_end}
use Rattle.transcripts.specs.declared.listing.Turn.{Turn}
use Rattle.transcripts.specs.Transcripts.{Line, lines_in, key_of}
use Rattle.transcripts.specs.Listing.{counterpart_of, differs, Listed, listed_behind, listed_lines, begin_of, figures_of}
use Rattle.transcripts.specs.Inner.{lines_from, line_at, OnWay, Tells, Turned, TakesTurn, Width, cut, Fills}
use Rattle.transcripts.proofs.LineLaws.{from-none, from_next}
use Rattle.transcripts.proofs.WayLaws.{way-start}
use Rattle.transcripts.proofs.ListLaws.{width-long}

-- a line with a key has a byte
some_byte : (l k : List ℕ) → key_of l ≡ some k → 1 ≤ length l
unfolding key_of parts
some_byte [] k e = let z : ◌≡◌ {A = ℕ} 0 1 = cc in absurd (omega arith)
some_byte (b ∷ bs) k e = omega arith

-- the lines listed from a line on, by its key
module _ (copy : List ℕ) (before : List Line) (x : Line) (xs : List Line) where
  abbrev rest : List Listed
  rest = listed_behind copy (before ++ (x ∷ [])) xs

  abbrev entry : Option Line → Listed
  entry y = record { number = suc (length before); line = x; counterpart = y }

  abbrev pub headed : Option (List ℕ) → List Listed
  headed none = rest
  headed (some k) = cond (differs x (counterpart_of copy before k)) (entry (counterpart_of copy before k) ∷ rest) rest

  pub by_key : listed_behind copy before (x ∷ xs) ≡ headed (key_of x.bytes)
  unfolding listed_behind
  by_key = go (key_of x.bytes)
    where
      go : (o : Option (List ℕ))
          → elim o [
            | none ↦ listed_behind copy (before ++ (x ∷ [])) xs
            | some k ↦
                let y : Option Line = counterpart_of copy before k in
                cond (differs x y)
                (record { number = suc (length before); line = x; counterpart = y } ∷ listed_behind copy (before ++ (x ∷ [])) xs)
                (listed_behind copy (before ++ (x ∷ [])) xs)
          ] ≡ headed o
      go none = refl
      go (some k) = refl

  pub not_listed : (r : Turn) → Tells copy before x r (key_of x.bytes) → r.listed ≡ false → listed_behind copy before (x ∷ xs) ≡ rest
  not_listed r t f = by_key ∙ go (key_of x.bytes) t
    where
      go : (o : Option (List ℕ)) → Tells copy before x r o → headed o ≡ rest
      go none s = refl
      go (some k) s = ap (λ (b : Bool). cond b (entry (counterpart_of copy before k) ∷ rest) rest) (sym s.0 ∙ f)

  -- a line that is listed: its entry, where its counterpart begins, and that it has a byte
  pub record Entered (r : Turn) : Type 0 where
    pub other : Option Line
    pub list : listed_behind copy before (x ∷ xs) ≡ entry other ∷ rest
    pub begins : r.begins ≡ begin_of copy other
    pub long : 1 ≤ length x.bytes

  pub is-listed : (r : Turn) → Tells copy before x r (key_of x.bytes) → r.listed ≡ true → Entered r
  is-listed r t f = go (key_of x.bytes) refl t
    where
      go : (o : Option (List ℕ)) → key_of x.bytes ≡ o → Tells copy before x r o → Entered r
      go none e s = clash f s
      go (some k) e s = record {
        other = counterpart_of copy before k;
        list = by_key ∙ ap headed e
            ∙ ap (λ (b : Bool). cond b (entry (counterpart_of copy before k) ∷ rest) rest) (sym s.0 ∙ f);
        begins = s.1;
        long = some_byte x.bytes k e;
      }

-- what is put of one line
pub put_one : (w : ℕ) (copy : List ℕ) (d : Listed) (ds : List Listed) → cut w copy (d ∷ ds) ≡ take w (figures_of copy d) ++ cut w copy ds
put_one w copy d ds = refl

pub no_more : (copy : List ℕ) (before : List Line) → listed_behind copy before [] ≡ []
unfolding listed_behind
no_more copy before = refl

-- the loop: the line at `at` stands behind `before`, and `found` of these are listed
pub record Filling (w : ℕ) (o c l₀ l : List ℕ) (at base other line put found : ℕ) : Type 0 where
  pub before : List Line
  pub way : OnWay o c at base other before
  pub number : line ≡ length before
  pub left : Left l₀ 0 (cut w c (listed_lines o c)) l put (cut w c (listed_behind c before (lines_from o at)))
  pub count : found + length (listed_behind c before (lines_from o at)) ≡ length (listed_lines o c)
  pub few : found + found ≤ at
  pub counted : line ≤ at
  pub past : at ≤ length o + 1

pub filling-start : (w : ℕ) (o c l : List ℕ) → Filling w o c l l 0 0 0 0 0 0
unfolding listed_lines lines_in
filling-start w o c l = record {
  before = [];
  way = way-start o c;
  number = refl;
  left = left-start;
  count = omega arith;
  few = omega arith;
  counted = omega arith;
  past = omega arith;
}

-- the same under other names
pub filling-as : {w : ℕ} {o c l₀ l l' : List ℕ} {at base other line put put' found found' : ℕ} → l' ≡ l → put' ≡ put → found' ≡ found
    → Filling w o c l₀ l at base other line put found → Filling w o c l₀ l' at base other line put' found'
filling-as {w} {o} {c} {l₀} {l} {l'} {at} {base} {other} {line} {put} {put'} {found} {found'} p q r f =
    subst (λ (x : List ℕ). Filling w o c l₀ x at base other line put' found') (sym p)
    (subst (λ (x : ℕ). Filling w o c l₀ l at base other line x found') (sym q)
    (subst (λ (x : ℕ). Filling w o c l₀ l at base other line put x) (sym r) f))

module _ {w : ℕ} {o c l₀ l : List ℕ} {at base other line put found : ℕ} (f : Filling w o c l₀ l at base other line put found) where
  -- behind the last line
  pub filling-end : length o ≤ at → Fills w o c l₀ l found
  filling-end h =
      let none : listed_behind c f.before (lines_from o at) ≡ [] =
      ap (listed_behind c f.before) (from-none o at h) ∙ no_more c f.before
      in
      record {
        many = omega (arith, f.count, ap length none);
        few = omega (arith, f.few, f.past);
        list = (left_end f.left (ap (cut w c) none)).buffer;
      }

  module _ (h : at < length o) (r : Turn) (t : TakesTurn o c at base other r) where
    turned : Turned o c at f.before r
    turned = t.right f.before f.way

    abbrev this : Line
    this = line_at o at r.end

    ahead : listed_behind c f.before (lines_from o at) ≡ listed_behind c f.before (this ∷ lines_from o (r.end + 1))
    ahead = ap (listed_behind c f.before) (from_next o at r.end h t.end)

    counts : line + 1 ≡ length (f.before ++ (this ∷ []))
    counts = omega (arith, f.number, length-append f.before (this ∷ []))

    -- a line that is not listed
    pub filling-past : r.listed ≡ false → Filling w o c l₀ l (r.end + 1) r.base r.other (line + 1) put found
    filling-past n =
        let e = ahead ∙ not_listed c f.before this (lines_from o (r.end + 1)) r turned.tells n in
        record {
          before = f.before ++ (this ∷ []);
          way = turned.onward;
          number = counts;
          left = subst (λ (ds : List Listed). Left l₀ 0 (cut w c (listed_lines o c)) l put (cut w c ds)) e f.left;
          count = omega (arith, f.count, ap length e);
          few = omega (arith, f.few, t.end.low);
          counted = omega (arith, f.counted, t.end.low);
          past = omega (arith, t.end.high);
        }

    -- one that is
    module _ (y : r.listed ≡ true) where
      entered : Entered c f.before this (lines_from o (r.end + 1)) r
      entered = is-listed c f.before this (lines_from o (r.end + 1)) r turned.tells y

      abbrev item : Listed
      item = record { number = suc (length f.before); line = this; counterpart = entered.other }

      abbrev behind : List Listed
      behind = listed_behind c (f.before ++ (this ∷ [])) (lines_from o (r.end + 1))

      left-now : Left l₀ 0 (cut w c (listed_lines o c)) l put (take w (figures_of c item) ++ cut w c behind)
      left-now =
          subst (λ (ds : List Listed). Left l₀ 0 (cut w c (listed_lines o c)) l put (cut w c ds)) (ahead ∙ entered.list) f.left

      -- its figures, as the code has them
      figures-are : ((line + 1) ∷ at ∷ r.begins ∷ []) ≡ figures_of c item
      figures-are =
          let n : line + 1 ≡ suc (length f.before) = omega (arith, f.number) in
          ap₂ (λ (i j : ℕ). i ∷ at ∷ j ∷ []) n entered.begins

      pub room : length (cut w c (listed_lines o c)) ≤ length l₀ → Width w → put + w ≤ length l
      room b v =
          let b₀ : 0 + length (cut w c (listed_lines o c)) ≤ length l₀ = omega arith in
          omega (arith, left-room (take w (figures_of c item)) (cut w c behind) left-now b₀, width-long w v (figures_of c item) refl)

      pub filling-here : {l' : List ℕ} {put' : ℕ} → Wrote l put (take w ((line + 1) ∷ at ∷ r.begins ∷ [])) l' put'
          → Filling w o c l₀ l' (r.end + 1) r.base r.other (line + 1) put' (found + 1)
      filling-here {l'} {put'} wrote = record {
        before = f.before ++ (this ∷ []);
        way = turned.onward;
        number = counts;
        left = left_step (take w (figures_of c item)) left-now (subst (λ (xs : List ℕ). Wrote l put (take w xs) l' put') figures-are wrote);
        count = omega (arith, f.count, ap length (ahead ∙ entered.list));
        few =
            omega (
              arith,
              f.few,
              entered.long,
              length-slice at r.end o t.end.high,
            );
        counted = omega (arith, f.counted, t.end.low);
        past = omega (arith, t.end.high);
      }
