-- The first line at which two texts part, found line by line; and all that is said of a page that does not follow, by its pieces.
-- Assumes nothing.
use Prim.Native.Nat.{ℕ, suc, ◌+◌, ◌-◌, ◌≤◌, ◌<◌}
use native.Mathlib.Numerals.{add-one}
use native.Mathlib.Decide.{dec_lt}
use native.Mathlib.Omega.{arith}
use mathlib.Core.Path.{◌≡◌, refl, sym, ap, ap₂, ◌∙◌}
use mathlib.Core.Bool.{Bool, true, false, cond, not}
use mathlib.Core.List.{List, [], ◌∷◌, ◌++◌, map, map-append, append-nil, append_assoc}
use mathlib.Core.Option.{none, some}
use lib.ListN.{length, take, drop, length-append}
use lib.Seq.{slice}
use lib.Dec.{eqb}
use lib.Pointwise.{pointwise}
use Rattle.std.proofs.Common.{nat_eq}
use Rattle.lists.specs.Lists.{alike, join}
use Rattle.limits.specs.Limits.{page_room}
use Rattle.text.specs.Text.{text, parts, on_first}
use Rattle.text.specs.Lines.{lines_of, drop_empty}
use Rattle.text.specs.Inner.{PartEnd}
use Rattle.text.proofs.Fields.{same_bytes}
use Rattle.text.proofs.Lines.{lines_none, lines_next}
use Rattle.console.specs.Sheet.{line_end}
use Rattle.console.proofs.LineEnds.{line-end, end-within, line_taken}
use Rattle.showing.specs.Showing.{longest_name}
use Rattle.transcripts.specs.Listing.{listed_lines}
use Rattle.following.specs.Differences.{Difference, line, written_line, of_sheet, only_written, listed, parting, or_else, differences}
use Rattle.comparing.specs.Verdicts.{side, sides, difference_text, difference_texts}
use Rattle.comparing.specs.Inner.{line_from, pieces, parted_at, parting_text, parts_text, piece_room, far_place}
use Rattle.comparing.proofs.ListedLaws.{pieces-far}
use Rattle.comparing.proofs.DifferenceLaws.{said-byte, said-room, parted-both, parted-first, parted-second, parted-none}

-- the two are alike up to here: line n begins at a and at b
pub record Together (s w : List ℕ) (a b n : ℕ) : Type 0 where
  pub same : parting_text s w ≡ difference_texts (parting n (lines_of (drop a s)) (lines_of (drop b w)))
  pub count : n ≤ a + 1
  pub past : a ≤ length s + 1

pub together-start : (s w : List ℕ) → Together s w 0 0 1
together-start s w = record { same = refl; count = omega arith; past = omega arith }

-- two lines, up to where the search for their ends came: as the code holds them against each other, and as lines of their texts
pub held-apart : (s w : List ℕ) (a b e f : ℕ) (r : Bool) → a ≤ e → b ≤ f
    → r ≡ not (pointwise nat_eq (take (e - a) (drop a s)) (take (f - b) (drop b w)))
    → not (alike (slice a e s) (slice b f w)) ≡ r
held-apart s w a b e f r h k d =
    ap not (sym (same_bytes (take (e - a) (drop a s)) (take (f - b) (drop b w)) ∙ ap₂ alike (line_taken s a e h) (line_taken w b f k)))
    ∙ sym d

pub lines-there : (s w : List ℕ) (a b e f : ℕ) → a < length s → b < length w → PartEnd 10 s a e → PartEnd 10 w b f
    → alike (line_from s a) (line_from w b) ≡ alike (slice a e s) (slice b f w)
lines-there s w a b e f h k p q =
    ap₂ (λ (i j : ℕ). alike (slice a i s) (slice b j w)) (sym (end-within s a e (omega arith) p)) (sym (end-within w b f (omega arith) q))

-- by a line that both have
parting-step : (n : ℕ) (x y : List ℕ) (xs ys : List (List ℕ)) → parting n (x ∷ xs) (y ∷ ys)
    ≡ cond (alike x y) (parting (suc n) xs ys) (line n (some x) (some y) ∷ [])
unfolding parting
parting-step n x y xs ys = refl

module _ (s w : List ℕ) (a b n : ℕ) where
  lines_are : (e f : ℕ) → a < length s → b < length w → PartEnd 10 s a e → PartEnd 10 w b f
      → parting n (lines_of (drop a s)) (lines_of (drop b w))
      ≡ cond (alike (slice a e s) (slice b f w)) (parting (suc n) (lines_of (drop (e + 1) s)) (lines_of (drop (f + 1) w)))
      (line n (some (slice a e s)) (some (slice b f w)) ∷ [])
  lines_are e f h k p q =
      ap₂ (parting n) (lines_next s a e h p) (lines_next w b f k q)
      ∙ parting-step n (slice a e s) (slice b f w) (lines_of (drop (e + 1) s)) (lines_of (drop (f + 1) w))

  pub together-on : {e f : ℕ} → Together s w a b n → a < length s → b < length w → PartEnd 10 s a e → PartEnd 10 w b f
      → alike (slice a e s) (slice b f w) ≡ true → Together s w (e + 1) (f + 1) (n + 1)
  together-on {e} {f} t h k p q r = record {
    same = t.same ∙ ap difference_texts (lines_are e f h k p q
        ∙ ap (λ (z : Bool). cond z (parting (suc n) (lines_of (drop (e + 1) s)) (lines_of (drop (f + 1) w)))
        (line n (some (slice a e s)) (some (slice b f w)) ∷ [])) r
        ∙ ap (λ (i : ℕ). parting i (lines_of (drop (e + 1) s)) (lines_of (drop (f + 1) w))) (sym (add-one n)));
    count = omega (arith, t.count, p.low);
    past = omega (arith, p.high);
  }

  -- where they part: one of them is at its end, or the two lines there are not alike
  pub together-end : Together s w a b n
      → (a < length s → b < length w → alike (line_from s a) (line_from w b) ≡ false)
      → parted_at s a w b n ≡ parting_text s w
  unfolding parting
  together-end t apart = go (dec_lt a (length s)) (dec_lt b (length w)) ∙ sym t.same
    where
      go : Dec (a < length s) → Dec (b < length w)
          → parted_at s a w b n ≡ difference_texts (parting n (lines_of (drop a s)) (lines_of (drop b w)))
      go (yes h) (yes k) =
          let p = (line-end s a).line (omega arith) in
          let q = (line-end w b).line (omega arith) in
          sym (parted-both s a w b n _ _ h k refl refl)
          ∙ sym (append-nil (text "line " ++ sides n (line_from s a) (line_from w b)))
          ∙ ap difference_texts (sym (lines_are (line_end s a) (line_end w b) h k p q
          ∙ ap (λ (z : Bool). cond z (parting (suc n) (lines_of (drop (line_end s a + 1) s)) (lines_of (drop (line_end w b + 1) w)))
          (line n (some (line_from s a)) (some (line_from w b)) ∷ [])) (apart h k)))
      go (yes h) (no k) =
          let l : length w ≤ b = omega arith in
          let p = (line-end s a).line (omega arith) in
          sym (parted-first s a w b n _ h l refl)
          ∙ sym (append-nil (text "line " ++ sides n (line_from s a) (side none)))
          ∙ ap difference_texts (sym (ap₂ (parting n) (lines_next s a (line_end s a) h p) (lines_none w b l)))
      go (no h) (yes k) =
          let l : length s ≤ a = omega arith in
          let q = (line-end w b).line (omega arith) in
          sym (parted-second s a w b n _ l k refl)
          ∙ sym (append-nil (text "line " ++ sides n (side none) (line_from w b)))
          ∙ ap difference_texts (sym (ap₂ (parting n) (lines_none s a l) (lines_next w b (line_end w b) k q)))
      go (no h) (no k) =
          let l : length s ≤ a = omega arith in
          let m : length w ≤ b = omega arith in
          sym (parted-none s a w b n l m)
          ∙ ap difference_texts (sym (ap₂ (parting n) (lines_none s a l) (lines_none w b m)))

-- lines that are no longer than this; those of a text are no longer than it
abbrev Short : ℕ → List (List ℕ) → Type 0
Short n [] = Unit {0}
Short n (l ∷ ls) = (length l ≤ n) × Short n ls

short-more : (n m : ℕ) (ls : List (List ℕ)) → n ≤ m → Short n ls → Short m ls
short-more n m [] h s = tt
short-more n m (l ∷ ls) h s = (omega (arith, h, s.0), short-more n m ls h s.1)

parts-short : (s : List ℕ) → Short (length s) (parts 10 s)
unfolding parts
parts-short [] = (omega arith, tt)
parts-short (x ∷ xs) = which (eqb x 10) (parts 10 xs) (parts-short xs)
  where
    which : (b : Bool) (ls : List (List ℕ)) → Short (length xs) ls → Short (length (x ∷ xs)) (cond b ([] ∷ ls) (on_first x ls))
    which true ls h = (omega arith, short-more (length xs) (length (x ∷ xs)) ls (omega arith) h)
    which false [] h = (omega arith, tt)
    which false (l ∷ ls) h = (omega (arith, h.0), short-more (length xs) (length (x ∷ xs)) ls (omega arith) h.1)

ended-short : (n : ℕ) (ls : List (List ℕ)) → Short n ls → Short n (drop_empty ls)
ended-short n [] h = tt
ended-short n ([] ∷ []) h = tt
ended-short n ((x ∷ xs) ∷ []) h = h
ended-short n (l ∷ m ∷ ls) h = (h.0, ended-short n (m ∷ ls) h.1)

lines-short : (s : List ℕ) → length s ≤ page_room → Short page_room (lines_of s)
unfolding lines_of
lines-short s h = short-more (length s) page_room (lines_of s) h (ended-short (length s) (parts 10 s) (parts-short s))

-- what is said of where two texts part is no longer than what is said of one line
lines-room : (n : ℕ) (xs ys : List (List ℕ)) → Short page_room xs → Short page_room ys
    → length (difference_texts (parting n xs ys)) ≤ piece_room
unfolding parting
lines-room n [] [] h k = omega arith
lines-room n [] (y ∷ ys) h k =
    omega (arith, length-append (text "line " ++ sides n (side none) y) [], said-room (text "line ") n (side none) y (omega arith) (omega arith) k.0)
lines-room n (x ∷ xs) [] h k =
    omega (arith, length-append (text "line " ++ sides n x (side none)) [], said-room (text "line ") n x (side none) (omega arith) h.0 (omega arith))
lines-room n (x ∷ xs) (y ∷ ys) h k = which (alike x y) (lines-room (suc n) xs ys h.1 k.1)
  where
    which : (b : Bool) → length (difference_texts (parting (suc n) xs ys)) ≤ piece_room
        → length (difference_texts (cond b (parting (suc n) xs ys) (line n (some x) (some y) ∷ []))) ≤ piece_room
    which true r = r
    which false r = omega (arith, length-append (text "line " ++ sides n x y) [], said-room (text "line ") n x y (omega arith) h.0 k.0)

-- of a page that does not follow: what is said last, where neither list has a line, is where the two part
abbrev lastly : List Difference → List Difference → List ℕ
lastly [] other = difference_texts other
lastly (d ∷ ds) other = []

or-texts : (ds other : List Difference) → difference_texts (or_else ds other) ≡ difference_texts ds ++ lastly ds other
or-texts [] other = refl
or-texts (d ∷ ds) other = sym (append-nil (difference_texts (d ∷ ds)))

-- where nothing is said, nothing differs: each difference has a byte
differ-byte : (d : Difference) → 1 ≤ length (difference_text d)
differ-byte (line n x y) = said-byte (text "line ") n (side x) (side y)
differ-byte (written_line n y) = said-byte (text "written line ") n (side none) y

nothing_said : (ds : List Difference) → length (difference_texts ds) ≡ 0 → ds ≡ []
nothing_said [] e = refl
nothing_said (d ∷ ds) e = absurd (omega (arith, length-append (difference_text d) (difference_texts ds), differ-byte d))

join-append : (xs ys : List (List ℕ)) → join (xs ++ ys) ≡ join xs ++ join ys
join-append [] ys = refl
join-append (x ∷ xs) ys = ap (λ (r : List ℕ). x ++ r) (join-append xs ys) ∙ sym (append_assoc x (join xs) (join ys))

module _ (s w : List ℕ) where
  both-lists : difference_texts (listed s w) ≡ pieces true s w ++ pieces false w s
  unfolding listed
  both-lists =
      ap join (map-append difference_text (map of_sheet (listed_lines s w)) (only_written (listed_lines w s)))
      ∙ join-append (map difference_text (map of_sheet (listed_lines s w))) (map difference_text (only_written (listed_lines w s)))

  abbrev pub behind_lists : List ℕ
  behind_lists = lastly (listed s w) (parting 1 (lines_of s) (lines_of w))

  abbrev pub said_parts : List ℕ → List (List ℕ)
  said_parts name = name ∷ (text ": does not follow" ++ (10 ∷ [])) ∷ pieces true s w ∷ pieces false w s ∷ behind_lists ∷ []

  pub parts_are : (name : List ℕ) → parts_text name s w ≡ join (said_parts name)
  unfolding differences
  parts_are name =
      ap (λ (r : List ℕ). name ++ text ": does not follow" ++ (10 ∷ r))
      (or-texts (listed s w) (parting 1 (lines_of s) (lines_of w)) ∙ ap (λ (r : List ℕ). r ++ behind_lists) both-lists)
      ∙ simp (append_assoc, append-nil)

  long : length (difference_texts (listed s w)) ≡ length (pieces true s w) + length (pieces false w s)
  long = ap length both-lists ∙ length-append (pieces true s w) (pieces false w s)

  pub lists-empty : length (pieces true s w) + length (pieces false w s) ≡ 0 → behind_lists ≡ parting_text s w
  lists-empty e =
      ap (λ (ds : List Difference). lastly ds (parting 1 (lines_of s) (lines_of w))) (nothing_said (listed s w) (long ∙ e))

  pub lists-full : 1 ≤ length (pieces true s w) + length (pieces false w s) → behind_lists ≡ []
  lists-full h = go (listed s w) (omega (arith, long))
    where
      go : (ds : List Difference) → 1 ≤ length (difference_texts ds) → lastly ds (parting 1 (lines_of s) (lines_of w)) ≡ []
      go [] l = absurd (omega arith)
      go (d ∷ ds) l = refl

  -- how long it all is
  pub parts-far : (name : List ℕ) → length name ≤ longest_name → length s ≤ page_room → length w ≤ page_room
      → length (parts_text name s w) ≤ far_place
  parts-far name l h k =
      omega (
        arith,
        l,
        ap length (parts_are name),
        length-append name ((text ": does not follow" ++ (10 ∷ [])) ++ (pieces true s w ++ (pieces false w s ++ (behind_lists ++ [])))),
        length-append (pieces true s w) (pieces false w s ++ (behind_lists ++ [])),
        length-append (pieces false w s) (behind_lists ++ []),
        length-append behind_lists [],
        pieces-far true s w h k,
        pieces-far false w s k h,
        last (listed s w),
      )
    where
      last : (ds : List Difference) → length (lastly ds (parting 1 (lines_of s) (lines_of w))) ≤ piece_room
      last [] = lines-room 1 (lines_of s) (lines_of w) (lines-short s h) (lines-short w k)
      last (d ∷ ds) = omega arith

-- Two lines held against each other, for whoever proves about them.
pub held-alike : (s w : List ℕ) (a b e f : ℕ) (r : Bool) → b ≤ f → r ≡ alike (slice a e s) (take (f - b) (drop b w))
    → alike (slice a e s) (slice b f w) ≡ r
held-alike s w a b e f r h k = ap (alike (slice a e s)) (sym (line_taken w b f h)) ∙ sym k
