-- The lines that the desk lists, as they are said: each lies in its text where its figures say, so what is said by the figures is said of
-- the line; there are few of them, each is short; and they are gone through figure by figure.
-- Assumes nothing.
use Prim.Native.Nat.{ℕ, zero, suc, ◌+◌, ◌-◌, ◌*◌, ◌≤◌, ◌<◌, ◌/◌}
use native.Mathlib.Omega.{arith}
use mathlib.Core.Path.{◌≡◌, refl, sym, ap, ap₂, subst, ◌∙◌}
use mathlib.Core.Logic.{inr}
use mathlib.Core.Bool.{Bool, true, false, cond}
use mathlib.Core.List.{List, [], ◌∷◌, ◌++◌, map, map-map, append-nil}
use mathlib.Core.Option.{Option, none, some}
use lib.ListN.{length, get_or, take, drop, length-append}
use lib.Seq.{slice, take_at, length-slice}
use borrow.Author.Tests.{le-leb}
use Rattle.limits.specs.Limits.{page_room}
use Rattle.lists.specs.Lists.{join}
use Rattle.text.specs.Text.{text}
use Rattle.text.specs.Inner.{PartEnd}
use Rattle.text.proofs.Fields.{part_end}
use Rattle.rules.specs.declared.Answer.{Answer}
use Rattle.rules.specs.declared.Answer.TheVariants.{Done}
use Rattle.rules.specs.Engine.{front}
use Rattle.console.proofs.LineEnds.{end-within}
use Rattle.transcripts.specs.Transcripts.{Line, lines_in, key_of, has_key, with_key}
use Rattle.transcripts.specs.Listing.{counterpart_of, differs, Listed, listed_behind, listed_lines, begin_of, figures_of, figures_listed}
use Rattle.transcripts.specs.Listing.{answered, figuring}
use Rattle.transcripts.specs.Inner.{lines_from, line_at, behind_others}
use Rattle.transcripts.proofs.LineLaws.{from_start}
use Rattle.transcripts.proofs.KeyLaws.{key-none}
use Rattle.transcripts.proofs.OccurrenceLaws.{behind-none, behind-miss, behind-hit, behind_more}
use Rattle.transcripts.proofs.WayLaws.{counted-from}
use Rattle.transcripts.proofs.Standing.{by_lines}
use Rattle.transcripts.proofs.FillLaws.{headed, by_key, no_more}
use Rattle.transcripts.proofs.ListLaws.{cut_all, cut-long}
use Rattle.transcripts.proofs.Determined.{list-determined}
use Rattle.following.specs.Differences.{of_sheet, unmatched, only_written, written_line}
use Rattle.comparing.specs.Verdicts.{side, sides, difference_text, difference_texts}
use Rattle.comparing.specs.Inner.{line_from, said_of, pieces, piece_room}
use Rattle.comparing.specs.Sinks.{SinkLaws}
use Rattle.comparing.proofs.DifferenceLaws.{said-lacking, said-both, said-written, said-nothing, listed-room}
use Rattle.comparing.proofs.DifferenceLaws.{Due, due-step, due-end}

-- a line begins within its text and has the bytes of the line there; so does one that there may be, and each listed line with its
-- counterpart
pub record Lies (s : List ℕ) (x : Line) : Type 0 where
  pub begins : x.begins < length s
  pub bytes : x.bytes ≡ line_from s x.begins

abbrev pub MayLie : List ℕ → Option Line → Type 0
MayLie s none = Unit {0}
MayLie s (some y) = Lies s y

abbrev pub AllLie : List ℕ → List ℕ → List Listed → Type 0
AllLie o c [] = Unit {0}
AllLie o c (d ∷ ds) = Lies o d.line × MayLie c d.counterpart × AllLie o c ds

lies_at : (s : List ℕ) (at e : ℕ) → at < length s → PartEnd 10 s at e → Lies s (line_at s at e)
lies_at s at e h p =
    record { begins = h; bytes = ap (λ (i : ℕ). slice at i s) (end-within s at e (omega arith) p) }

-- one that is found by its key
other-lies : (s k : List ℕ) (at n : ℕ) → MayLie s (behind_others k n (lines_from s at))
other-lies s k at =
    by_lines s (λ i xs. (n : ℕ) → MayLie s (behind_others k n xs)) (λ i h n. subst (MayLie s) (sym (behind-none k n)) tt) more at
  where
    more : (i e : ℕ) → i < length s → PartEnd 10 s i e → ((n : ℕ) → MayLie s (behind_others k n (lines_from s (e + 1))))
        → (n : ℕ) → MayLie s (behind_others k n (line_at s i e ∷ lines_from s (e + 1)))
    more i e h p ih n = go (has_key k (slice i e s)) refl n
      where
        go : (b : Bool) → has_key k (slice i e s) ≡ b → (m : ℕ) → MayLie s (behind_others k m (line_at s i e ∷ lines_from s (e + 1)))
        go false q m = subst (MayLie s) (sym (behind-miss k (line_at s i e) (lines_from s (e + 1)) m q)) (ih m)
        go true q zero = subst (MayLie s) (sym (behind-hit k (line_at s i e) (lines_from s (e + 1)) q)) (lies_at s i e h p)
        go true q (suc m) =
            subst (MayLie s) (sym (behind_more k (line_at s i e) (lines_from s (e + 1)) (suc m) q (omega arith))) (ih (suc m - 1))

counterpart-lies : (c : List ℕ) (before : List Line) (k : List ℕ) → MayLie c (counterpart_of c before k)
counterpart-lies c before k =
    let n : ℕ = length (with_key k before) in
    subst (MayLie c) (sym (counted-from k c n ∙ ap (behind_others k n) (from_start c))) (other-lies c k 0 n)

-- a line with a key has a byte
some_byte : (l k : List ℕ) → key_of l ≡ some k → 1 ≤ length l
some_byte [] k e =
    let p = part_end 61 [] 0 (omega arith) in
    let f = key-none [] _ p (omega (arith, p.high)) in
    let z : ◌≡◌ {A = ℕ} 0 1 = cc in
    absurd (omega arith)
some_byte (b ∷ bs) k e = omega arith

-- the lines that are listed from a place on lie so, and take two bytes each at least
record Behind (o c : List ℕ) (at : ℕ) (ds : List Listed) : Type 0 where
  all : AllLie o c ds
  few : at ≤ length o + 1 → length ds + length ds + at ≤ length o + 1

behind-lie : (o c : List ℕ) (at : ℕ) (before : List Line) → Behind o c at (listed_behind c before (lines_from o at))
behind-lie o c =
    by_lines o (λ i xs. (before : List Line) → Behind o c i (listed_behind c before xs))
    (λ i h before. subst (Behind o c i) (sym (no_more c before)) (record { all = tt; few = λ l. omega arith })) more
  where
    more : (i e : ℕ) → i < length o → PartEnd 10 o i e
        → ((before : List Line) → Behind o c (e + 1) (listed_behind c before (lines_from o (e + 1))))
        → (before : List Line) → Behind o c i (listed_behind c before (line_at o i e ∷ lines_from o (e + 1)))
    more i e h p ih before =
        subst (Behind o c i) (sym (by_key c before (line_at o i e) (lines_from o (e + 1)))) (go (key_of (slice i e o)) refl)
      where
        rest : Behind o c (e + 1) (listed_behind c (before ++ (line_at o i e ∷ [])) (lines_from o (e + 1)))
        rest = ih (before ++ (line_at o i e ∷ []))

        past : Behind o c i (listed_behind c (before ++ (line_at o i e ∷ [])) (lines_from o (e + 1)))
        past = record { all = rest.all; few = λ l. omega (arith, rest.few (omega (arith, p.high)), p.low) }

        which : (k : List ℕ) → key_of (slice i e o) ≡ some k → (b : Bool)
            → Behind o c i (cond b (record { number = suc (length before); line = line_at o i e; counterpart = counterpart_of c before k }
            ∷ listed_behind c (before ++ (line_at o i e ∷ [])) (lines_from o (e + 1)))
            (listed_behind c (before ++ (line_at o i e ∷ [])) (lines_from o (e + 1))))
        which k q false = past
        which k q true = record {
          all = (lies_at o i e h p, counterpart-lies c before k, rest.all);
          few = λ l.
              omega (
                arith,
                rest.few (omega (arith, p.high)),
                some_byte (slice i e o) k q,
                length-slice i e o p.high,
              );
        }

        go : (q : Option (List ℕ)) → key_of (slice i e o) ≡ q → Behind o c i (headed c before (line_at o i e) (lines_from o (e + 1)) q)
        go none q = past
        go (some k) q = which k q (differs (line_at o i e) (counterpart_of c before k))

pub listed-lie : (o c : List ℕ) → AllLie o c (listed_lines o c)
unfolding listed_lines lines_in
listed-lie o c = (behind-lie o c 0 []).all

pub listed-few : (o c : List ℕ) → length (listed_lines o c) + length (listed_lines o c) ≤ length o + 1
unfolding listed_lines lines_in
listed-few o c = omega (arith, (behind-lie o c 0 []).few (omega arith))

-- what is said of a listed line, and that its figures say so
abbrev pub piece_text : Bool → Listed → List ℕ
piece_text true d = difference_text (of_sheet d)
piece_text false d = difference_texts (unmatched d.counterpart (written_line d.number d.line.bytes) [])

figures-say : (g : Bool) (o c : List ℕ) (d : Listed) → Lies o d.line → MayLie c d.counterpart
    → said_of g o c d.number d.line.begins (begin_of c d.counterpart) ≡ piece_text g d
figures-say g o c d l m = go g d.counterpart m
  where
    go : (b : Bool) (y : Option Line) → MayLie c y
        → said_of b o c d.number d.line.begins (begin_of c y)
        ≡ piece_text b (record { number = d.number; line = d.line; counterpart = y })
    go true none u = sym (said-lacking o c d.number d.line.begins (length c) true d.line.bytes refl l.bytes refl)
    go true (some y) u =
        sym (said-both o c d.number d.line.begins y.begins true d.line.bytes y.bytes refl l.bytes u.bytes
        (λ e. omega (arith, u.begins, e)))
    go false none u =
        sym (said-written o c d.number d.line.begins (length c) false d.line.bytes refl l.bytes refl)
        ∙ sym (append-nil (text "written line " ++ sides d.number (side none) d.line.bytes))
    go false (some y) u =
        sym (said-nothing o c d.number d.line.begins y.begins false refl (λ e. omega (arith, u.begins, e)))

pieces_are : (g : Bool) (o c : List ℕ) → pieces g o c ≡ join (map (piece_text g) (listed_lines o c))
pieces_are true o c = ap join (map-map difference_text of_sheet (listed_lines o c))
pieces_are false o c = only (listed_lines o c)
  where
    only : (ds : List Listed) → difference_texts (only_written ds) ≡ join (map (piece_text false) ds)
    only [] = refl
    only (d ∷ ds) = which d.counterpart (only ds)
      where
        which : (y : Option Line) → difference_texts (only_written ds) ≡ join (map (piece_text false) ds)
            → difference_texts (unmatched y (written_line d.number d.line.bytes) (only_written ds))
            ≡ difference_texts (unmatched y (written_line d.number d.line.bytes) []) ++ join (map (piece_text false) ds)
        which none e = ap₂ ◌++◌ (sym (append-nil (difference_text (written_line d.number d.line.bytes)))) e
        which (some y) e = e

-- how long it all is: no more than 4,096 lines, each with the room for one
abbrev pub most_said : ℕ
most_said = 80000000

pub pieces-far : (g : Bool) (o c : List ℕ) → length o ≤ page_room → length c ≤ page_room → length (pieces g o c) ≤ most_said
pieces-far g o c h k =
    omega (arith, ap length (pieces_are g o c), go (listed_lines o c) (listed-lie o c), listed-few o c)
  where
    go : (ds : List Listed) → AllLie o c ds → length (join (map (piece_text g) ds)) ≤ length ds * piece_room
    go [] l = omega arith
    go (d ∷ ds) l =
        omega (
          arith,
          go ds l.2,
          length-append (piece_text g d) (join (map (piece_text g) ds)),
          ap length (figures-say g o c d l.0 l.1),
          listed-room o c d.number d.line.begins (begin_of c d.counterpart) g h k,
        )

-- the list has room for three figures of each: what is handed back is how many there are, and the figures stand in front
abbrev pub list_room : ℕ
list_room = page_room / 2 * 3

pub figures-long : (o c : List ℕ) → length (figures_listed o c) ≡ length (listed_lines o c) * 3
figures-long o c = ap length (sym (cut_all c (listed_lines o c))) ∙ cut-long 3 (inr (inr refl)) c (listed_lines o c)

module _ (o c list : List ℕ) (h : length o ≤ page_room) (r : length list ≡ list_room) where
  fits : figuring o c list ≡ answered (Done (length (listed_lines o c))) (front (figures_listed o c) list)
  unfolding figuring
  fits =
      ap
      (λ (b : Bool). cond b
      (record { number = 0; values = length (listed_lines o c) ∷ []; list = front (figures_listed o c) list })
      (record { number = 12; values = length (figures_listed o c) ∷ []; list = list }))
      (le-leb (length (figures_listed o c)) (length list) (omega (arith, figures-long o c, listed-few o c)))

  pub all_listed : (a : Answer) (list' : List ℕ) → answered a list' ≡ figuring o c list
      → (a ≡ Done (length (listed_lines o c))) × (list' ≡ front (figures_listed o c) list)
  all_listed a list' e = list-determined a (Done (length (listed_lines o c))) list' (front (figures_listed o c) list) (e ∙ fits)

-- the loop: of some lines the figures are left, and what is said of them is due
pub record Ahead {S : Type 0} (after : S → List ℕ → S) (g : Bool) (o c : List ℕ) (s₀ s : S) (figures : List ℕ) : Type 0 where
  pub ds : List Listed
  pub lie : AllLie o c ds
  pub left : figures ≡ join (map (figures_of c) ds)
  pub due : Due after s₀ (pieces g o c) s (map (piece_text g) ds)

pub ahead-start : {S : Type 0} (after : S → List ℕ → S) (s : S) {g : Bool} {o c : List ℕ} (list before : List ℕ) (n : ℕ)
    → list ≡ front (figures_listed o c) before → n ≡ length (listed_lines o c)
    → Ahead after g o c s s (take (3 * n) list)
ahead-start after s {g} {o} {c} list before n e k = record {
  ds = listed_lines o c;
  lie = listed-lie o c;
  left = ap (take (3 * n)) e
      ∙ take_at (figures_listed o c) (drop (length (figures_listed o c)) before) (3 * n) (omega (arith, k, figures-long o c));
  due = record { whole = ap (after s) (sym (pieces_are g o c)) };
}

-- the next of them: its figures, what is said of it by them, and the others
pub record Turn {S : Type 0} (after : S → List ℕ → S) (g : Bool) (o c : List ℕ) (s₀ s : S) (figures : List ℕ) : Type 0 where
  pub begins : get_or figures 1 0 ≤ length o
  pub other : get_or figures 2 0 ≤ length c
  pub piece : List ℕ
  pub said : said_of g o c (get_or figures 0 0) (get_or figures 1 0) (get_or figures 2 0) ≡ piece
  pub more : List (List ℕ)
  pub due : Due after s₀ (pieces g o c) s (piece ∷ more)
  pub next : {s' : S} {rest : List ℕ} → rest ≡ drop 3 figures → s' ≡ after s piece → Ahead after g o c s₀ s' rest

module _ {S : Type 0} {after : S → List ℕ → S} {place end : S → ℕ} (laws : SinkLaws after place end) where
  module _ {g : Bool} {o c : List ℕ} {s₀ s : S} {figures : List ℕ} where
    pub ahead-next : Ahead after g o c s₀ s figures → 3 ≤ length figures → Turn after g o c s₀ s figures
    ahead-next a h = go a.ds a.lie a.left a.due
      where
        go : (ds : List Listed) → AllLie o c ds → figures ≡ join (map (figures_of c) ds)
            → Due after s₀ (pieces g o c) s (map (piece_text g) ds) → Turn after g o c s₀ s figures
        go [] lie f due = absurd (omega (arith, h, ap length f))
        go (d ∷ ds) lie f due = record {
          begins = omega (arith, first, lie.0.begins);
          other = omega (arith, second, there d.counterpart lie.1);
          piece = piece_text g d;
          said = ap (λ (k : ℕ). said_of g o c k (get_or figures 1 0) (get_or figures 2 0)) zeroth
              ∙ ap₂ (said_of g o c d.number) first second ∙ figures-say g o c d lie.0 lie.1;
          more = map (piece_text g) ds;
          due = due;
          next = λ e p. record { ds = ds; lie = lie.2; left = e ∙ ap (drop 3) f; due = due-step laws due p };
        }
          where
            zeroth : get_or figures 0 0 ≡ d.number
            zeroth = ap (λ (xs : List ℕ). get_or xs 0 0) f

            first : get_or figures 1 0 ≡ d.line.begins
            first = ap (λ (xs : List ℕ). get_or xs 1 0) f

            second : get_or figures 2 0 ≡ begin_of c d.counterpart
            second = ap (λ (xs : List ℕ). get_or xs 2 0) f

            there : (y : Option Line) → MayLie c y → begin_of c y ≤ length c
            there none m = omega arith
            there (some y) m = omega (arith, m.begins)

    -- none is left
    pub ahead-end : Ahead after g o c s₀ s figures → length figures < 3 → s ≡ after s₀ (pieces g o c)
    ahead-end a h = go a.ds a.left a.due
      where
        go : (ds : List Listed) → figures ≡ join (map (figures_of c) ds) → Due after s₀ (pieces g o c) s (map (piece_text g) ds)
            → s ≡ after s₀ (pieces g o c)
        go [] f d = due-end laws d
        go (x ∷ xs) f d = absurd (omega (arith, h, ap length f))
