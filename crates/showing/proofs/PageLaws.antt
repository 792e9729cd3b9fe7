-- A page as it is shown: the line of a number, found line by line, and how long it is; what is handed back for it.
-- Assumes nothing.
use Prim.Native.Nat.{ℕ, zero, suc, ◌+◌, ◌-◌, ◌≤◌, ◌<◌}
use native.Mathlib.Decide.{dec_lt}
use native.Mathlib.Omega.{arith}
use mathlib.Core.Path.{◌≡◌, refl, sym, ap, ◌∙◌}
use mathlib.Core.Bool.{Bool, true, false, cond, ◌&&◌}
use mathlib.Core.List.{List, [], ◌∷◌, ◌++◌, append_assoc, append-nil}
use lib.Dec.{eqb, leb}
use lib.ListN.{length, get_or, take, drop, length-append}
use lib.Seq.{slice, length-slice}
use Rattle.text.specs.Lines.{lines_of}
use Rattle.text.specs.Inner.{PartEnd, Wrote}
use Rattle.text.proofs.Fields.{until, part_end}
use Rattle.text.proofs.Lines.{lines_none, lines_next}
use Rattle.rules.specs.Answers.{number, values}
use Rattle.rules.specs.declared.Answer.{Answer}
use Rattle.rules.specs.declared.Answer.TheVariants.{NotRead, NotAllowed}
use Rattle.following.proofs.Fifteen.{not-fifteen}
use Rattle.tables.specs.declared.Outcome.{Outcome}
use Rattle.tables.specs.Calls.{Result, told}
use Rattle.transcripts.proofs.LineLaws.{part-taken}
use Rattle.reader.specs.Reading.{reading}
use Rattle.transcripts.specs.Listing.{Filled, answered}
use Rattle.showing.specs.Showing.{line_of_number, page_bytes, page_shown, shown_in, longest_name, longest_page, is_taken, page_text}
use Rattle.showing.specs.Inner.{bad_text, read_shown, page_text_room}
use borrow.Author.Tests.{le-leb, lt-leb}
use Rattle.lists.specs.Lists.{join}
use Rattle.lists.proofs.Tests.{and, not-both}
use Rattle.text.specs.Text.{text}
use Rattle.page.proofs.Writing.{wrote_as}
use Rattle.console.specs.Sheet.{answer_of}
use Rattle.showing.proofs.ShownLaws.{answer-most}

-- LINE n OF A TEXT
none-there : (n : ℕ) → line_of_number n [] ≡ []
none-there zero = refl
none-there (suc k) = refl

module _ (s : List ℕ) (from : ℕ) where
  -- the text is at its end
  pub number-none : (n : ℕ) → length s ≤ from → line_of_number n (lines_of (drop from s)) ≡ []
  number-none n h = ap (line_of_number n) (lines_none s from h) ∙ none-there n

  module _ (e : ℕ) (h : from < length s) (p : PartEnd 10 s from e) where
    -- the first line from here on, and any behind it
    pub number-one : line_of_number 1 (lines_of (drop from s)) ≡ slice from e s ++ (10 ∷ [])
    number-one = ap (line_of_number 1) (lines_next s from e h p)

    -- where it is the one of that number, it is what the code takes, and a byte 10
    pub number-here : (n left : ℕ) → left ≡ 1 → line_of_number left (lines_of (drop from s)) ≡ line_of_number n (lines_of s)
        → line_of_number n (lines_of s) ≡ take (e - from) (drop from s) ++ (10 ∷ [])
    number-here n left one i =
        sym i ∙ ap (λ (k : ℕ). line_of_number k (lines_of (drop from s))) one ∙ number-one
        ∙ ap (λ (x : List ℕ). x ++ (10 ∷ [])) (sym (part-taken s from e p.low))

    next-on : (k : ℕ) → line_of_number (suc (suc k)) (lines_of (drop from s)) ≡ line_of_number (suc k) (lines_of (drop (e + 1) s))
    next-on k = ap (line_of_number (suc (suc k))) (lines_next s from e h p)

    pub number-next : (n : ℕ) → 1 < n → line_of_number (n - 1) (lines_of (drop (e + 1) s)) ≡ line_of_number n (lines_of (drop from s))
    number-next zero m = absurd (omega arith)
    number-next (suc zero) m = absurd (omega arith)
    number-next (suc (suc k)) m = let d : suc (suc k) - 1 ≡ suc k = omega arith in rw d (sym (next-on k))

-- it has at most the text's bytes, and byte 10
line-most : (n : ℕ) (s : List ℕ) (from : ℕ) → length (line_of_number n (lines_of (drop from s))) ≤ length s + 1
line-most zero s from = omega arith
line-most (suc k) s from = go k (dec_lt from (length s)) (λ e. line-most k s e)
  where
    go : (k : ℕ) → Dec (from < length s) → ((e : ℕ) → length (line_of_number k (lines_of (drop e s))) ≤ length s + 1)
        → length (line_of_number (suc k) (lines_of (drop from s))) ≤ length s + 1
    go k (no h) most = omega (arith, ap length (number-none s from (suc k) (omega arith)))
    go zero (yes h) most =
        let p = part_end 10 s from (omega arith) in
        let e : ℕ = from + until 10 (drop from s) in
        omega (
          arith,
          ap length (number-one s from e h p),
          length-append (slice from e s) (10 ∷ []),
          length-slice from e s p.high,
          p.high,
        )
    go (suc k) (yes h) most =
        let p = part_end 10 s from (omega arith) in
        let e : ℕ = from + until 10 (drop from s) in
        omega (arith, ap length (next-on s from e h p k), most (e + 1))

-- THE LINE THAT IS NOT WELL FORMED
abbrev shown_bad : List ℕ → List ℕ → Bool → List ℕ
shown_bad s vs b = cond b (line_of_number (get_or vs 0 0) (lines_of s)) []

pub bad-none : (s : List ℕ) (a : Answer) → ((n : ℕ) → a ≡ NotRead n → ⊥) → bad_text s (number a) (values a) ≡ []
bad-none s a h = ap (shown_bad s (values a)) (not-fifteen a h)

pub bad-most : (s : List ℕ) (a : ℕ) (vs : List ℕ) → length (bad_text s a vs) ≤ length s + 1
bad-most s a vs = go (eqb a 15)
  where
    go : (b : Bool) → length (shown_bad s vs b) ≤ length s + 1
    go true = line-most (get_or vs 0 0) s 0
    go false = omega arith

-- WHAT IS HANDED BACK
-- a page that was read, and what is shown of it
pub page-shown : (name s out : List ℕ) (o : Outcome) {f : Filled} → told o ≡ reading s
    → f ≡ read_shown name s (number o.answer) (values o.answer) out
    → record { read = told o; shown = f } ≡ page_shown name s out
unfolding page_bytes page_shown
page-shown name s out o e g =
    ap (λ (x : Filled). record { read = told o; shown = x }) g
    ∙ ap (λ (r : Result). record { read = r; shown = read_shown name s r.number r.values out }) e

-- Laws of a page as it is shown, for whoever proves about it.
-- what is written, from a buffer and of bytes under other names
pub wrote-from : {l₀ l x y l' : List ℕ} {at n : ℕ} → l ≡ l₀ → x ≡ y → Wrote l at y l' n → Wrote l₀ at x l' n
wrote-from e f w = wrote_as f (rw e at w)

-- its pieces, and the room that they take

abbrev pub page_pieces : List ℕ → List ℕ → ℕ → List ℕ → List (List ℕ)
page_pieces name s a vs = name ∷ text ": " ∷ answer_of a vs ∷ bad_text s a vs ∷ []

module _ (a b c d : List ℕ) where
  four : a ++ b ++ c ++ d ≡ join (a ∷ b ∷ c ∷ d ∷ [])
  four = simp (append_assoc, append-nil)

  four-long : length (a ++ b ++ c ++ d) ≡ length a + length b + length c + length d
  four-long = simp length-append

pub page-pieces : (name s : List ℕ) (a : ℕ) (vs : List ℕ) → page_text name s a vs ≡ join (page_pieces name s a vs)
page-pieces name s a vs = four name (text ": ") (answer_of a vs) (bad_text s a vs)

pub page-long : (name s : List ℕ) (a : ℕ) (vs : List ℕ) → length (page_text name s a vs)
    ≡ length name + 2 + length (answer_of a vs) + length (bad_text s a vs)
page-long name s a vs = four-long name (text ": ") (answer_of a vs) (bad_text s a vs)

pub page-room : (name s : List ℕ) (a : Answer) → length name ≤ longest_name → length s ≤ longest_page
    → length (page_text name s (number a) (values a)) ≤ page_text_room
page-room name s a h k =
    omega (
      arith,
      four-long name (text ": ") (answer_of (number a) (values a)) (bad_text s (number a) (values a)),
      answer-most a,
      bad-most s (number a) (values a),
    )

-- what is handed back for it

module _ (name s : List ℕ) (a : ℕ) (vs out : List ℕ) where
  by-taken : (b : Bool) → is_taken name s ≡ b
      → read_shown name s a vs out ≡ cond b (shown_in (page_text name s a vs) out) (answered NotAllowed out)
  by-taken b e = ap (λ (t : Bool). cond t (shown_in (page_text name s a vs) out) (answered NotAllowed out)) e

  pub long-name : longest_name < length name → answered NotAllowed out ≡ read_shown name s a vs out
  long-name h = sym (by-taken false (ap (λ (t : Bool). t && leb (length s) longest_page) (lt-leb (length name) longest_name h)))

  pub long-page : longest_page < length s → answered NotAllowed out ≡ read_shown name s a vs out
  long-page h =
      sym (by-taken false (not-both (leb (length name) longest_name) (leb (length s) longest_page) (lt-leb (length s) longest_page h)))

  pub page-taken : length name ≤ longest_name → length s ≤ longest_page
      → shown_in (page_text name s a vs) out ≡ read_shown name s a vs out
  page-taken h k = sym (by-taken true (and (le-leb (length name) longest_name h) (le-leb (length s) longest_page k)))
