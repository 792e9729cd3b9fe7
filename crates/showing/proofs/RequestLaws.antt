-- A request as it is shown: its bytes, its refusal, how long its pieces are, and what is handed back for it.
-- Assumes nothing.
use Prim.Native.Nat.{ℕ, ◌+◌, ◌-◌, ◌≤◌, ◌<◌, min, zero, suc}
use native.Mathlib.Decide.{dec_lt}
use native.Mathlib.Omega.{arith}
use mathlib.Core.Path.{◌≡◌, refl, sym, ap, ◌∙◌}
use mathlib.Core.Bool.{Bool, true, false, cond}
use mathlib.Core.List.{List, [], ◌∷◌, ◌++◌, map, append_assoc, append-nil}
use lib.Dec.{leb, ltb}
use lib.ListN.{length, get_or, take, drop, length-append, length-take, length-map, get_or-eq_default, drop_of_length-le}
use lib.Seq.{length-take-le, take_all, get_or-take}
use borrow.Author.Tests.{leb-true, lt-ltb, le-ltb, le-leb, lt-leb}
use Rattle.limits.specs.Limits.{longest_line}
use Rattle.lists.specs.Lists.{join}
use Rattle.lists.proofs.Tests.{along-in}
use Rattle.text.specs.Text.{text, decimal}
use Rattle.text.proofs.Laws.{decimal-most}
use Rattle.rules.specs.Answers.{number, values}
use Rattle.rules.specs.declared.Answer.{Answer}
use Rattle.rules.specs.declared.Answer.TheVariants.{Done, TooShort}
use Rattle.rules.specs.Engine.{beside}
use Rattle.tables.specs.declared.Tables.{Tables}
use Rattle.tables.specs.declared.Outcome.{Outcome}
use Rattle.tables.specs.Calls.{told}
use Rattle.page.specs.Paging.{Written}
use Rattle.transcripts.specs.Listing.{Filled, answered}
use Rattle.transcripts.proofs.ListLaws.{filled-short, filled-long}
use Rattle.console.specs.Console.{keyed}
use Rattle.console.specs.Sheet.{lent, answer_of}
use Rattle.showing.specs.Showing.{shown_in, with_tables, shown_byte, shown_request, meanings, refusal, answer_text, request_text}
use Rattle.showing.specs.Showing.{request_bytes, request_shown}
use Rattle.showing.specs.Inner.{meant, request_room}
use Rattle.showing.proofs.ShownLaws.{answer-some, answer-most, put-front}

-- A LINE'S BYTES
-- the first 72, and what stands for the others
abbrev pub line_bytes : List ℕ → List ℕ
line_bytes l = map shown_byte (take longest_line l)

abbrev pub line_tail : List ℕ → List ℕ
line_tail l = cond (leb (length l) longest_line) [] (text "..")

pub bytes-long : (l : List ℕ) → length (line_bytes l) ≡ min longest_line (length l)
bytes-long l = length-map (take longest_line l) shown_byte ∙ length-take longest_line l

abbrev tail : Bool → List ℕ
tail b = cond b [] (text "..")

pub tail_none : (l : List ℕ) → length l ≤ longest_line → line_tail l ≡ []
tail_none l h = ap tail (le-leb (length l) longest_line h)

pub line-long : (l : List ℕ) → length (shown_request l) ≡ min longest_line (length l) + length (line_tail l)
line-long l = length-append (line_bytes l) (line_tail l) ∙ ap (λ (k : ℕ). k + length (line_tail l)) (bytes-long l)

-- the first bytes of a line, when all of them are put behind others
first : (l : List ℕ) (n : ℕ) → n ≡ min (length l) longest_line → take n l ≡ take longest_line l
first l n e = go (dec_lt longest_line (length l))
  where
    go : Dec (longest_line < length l) → take n l ≡ take longest_line l
    go (yes h) = let k : n ≡ longest_line = omega arith in ap (λ (m : ℕ). take m l) k
    go (no h) = take_all n l (omega arith) ∙ sym (take_all longest_line l (omega arith))

pub line-put : (l b : List ℕ) {o : List ℕ} (n : ℕ) → n ≡ min (length l) longest_line → (i : ℕ) → length (take n l) ≤ i
    → o ++ map shown_byte (drop i (take n l)) ≡ b ++ map shown_byte (take n l) → o ≡ b ++ line_bytes l
line-put l b {o} n e i h p =
    sym (append-nil o) ∙ ap (λ (x : List ℕ). o ++ map shown_byte x) (sym (drop_of_length-le (take n l) {i = i} h)) ∙ p
    ∙ ap (λ (x : List ℕ). b ++ map shown_byte x) (first l n e)

tail-most : (b : Bool) → length (tail b) ≤ 2
tail-most true = omega arith
tail-most false = omega arith

pub shown-most : (l : List ℕ) → length (shown_request l) ≤ 74
shown-most l = omega (arith, length-append (line_bytes l) (line_tail l), bytes-long l, tail-most (leb (length l) longest_line))

-- ITS REFUSAL
abbrev marked : ℕ → Bool → List ℕ
marked a b = cond b [] (text " (refused: " ++ text (get_or meanings (a - 2) "") ++ text ")")

pub refusal-none : (a : ℕ) → a < 2 → refusal a ≡ []
refusal-none a h = ap (marked a) (lt-ltb a 2 h)

pub refusal-pieces : (a : ℕ) → 2 ≤ a → refusal a ≡ join (text " (refused: " ∷ meant a ∷ text ")" ∷ [])
refusal-pieces a h = simp (le-ltb a 2 h)

-- no meaning has more than 42 bytes
meaning-most : (i : ℕ) → length (text (get_or meanings i "")) ≤ 42
meaning-most i = go (dec_lt i 13)
  where
    go : Dec (i < 13) → length (text (get_or meanings i "")) ≤ 42
    go (yes h) = leb-true (length (text (get_or meanings i ""))) 42 (along-in "" (λ j m. leb (length (text m)) 42) 0 13 meanings refl i h)
    go (no h) = omega (arith, ap (λ m. length (text m)) (get_or-eq_default meanings "" {n = i} (omega arith)))

pub refusal-most : (a : ℕ) → length (refusal a) ≤ 54
refusal-most a = go (ltb a 2)
  where
    go : (b : Bool) → length (marked a b) ≤ 54
    go true = omega arith
    go false =
        omega (
          arith,
          meaning-most (a - 2),
          length-append (text " (refused: " ++ text (get_or meanings (a - 2) "")) (text ")"),
          length-append (text " (refused: ") (text (get_or meanings (a - 2) "")),
        )

-- ITS ROOM
pub text-most : (a : Answer) → length (answer_text (number a) (values a)) ≤ 159
text-most a =
    let s = answer_of (number a) (values a) in
    omega (arith, answer-some a, answer-most a, length-take-le (length s - 1) s (omega arith))

pub ruleset refused = (refusal-none, refusal-pieces, append_assoc, append-nil, length-append)

pub ruleset request = (decimal-most, shown-most, text-most, refusal-most, length-append)

-- WHAT IS HANDED BACK for a line that was keyed in
module _ (t : Tables) (n : ℕ) (l : List ℕ) (o : Outcome) {space : List ℕ} (k : beside space (told o) ≡ keyed t l lent) where
  abbrev pub shown_text : List ℕ
  shown_text = request_text n l (number o.answer) (values o.answer)

  shown-as : (out : List ℕ) (f : Filled) → shown_in shown_text out ≡ f → with_tables t o.tables f ≡ request_shown t n l out
  unfolding request_bytes request_shown
  shown-as out f e =
      ap (with_tables t o.tables) (sym e)
      ∙ ap (λ (w : Written). with_tables t w.tables (shown_in (request_text n l w.number w.values) out)) k

  pub request-short : (out : List ℕ) (m : ℕ) → m ≡ length shown_text → length out < m
      → beside out (told (record { answer = TooShort m; tables = t })) ≡ request_shown t n l out
  request-short out m e h =
      ap (λ (i : ℕ). with_tables t o.tables (answered (TooShort i) out)) e
      ∙ shown-as out (answered (TooShort (length shown_text)) out) (filled-short (length shown_text) shown_text out (omega arith))

  pub request-done : (out : List ℕ) {after : List ℕ} (m : ℕ) → m ≡ length shown_text → m ≤ length out → after ≡ shown_text ++ drop m out
      → beside after (told (record { answer = Done m; tables = o.tables })) ≡ request_shown t n l out
  request-done out {after} m e h w =
      ap (λ (i : ℕ). with_tables t o.tables (answered (Done i) after)) e
      ∙ shown-as out (answered (Done (length shown_text)) after)
      (filled-long (length shown_text) shown_text out after (omega arith) (put-front shown_text out m e h w))

-- Laws of a request as it is shown, for whoever proves about it: its bytes one by one, and what stands behind a long line.
map_at : (f : ℕ → ℕ) (xs : List ℕ) (i : ℕ) → i < length xs → get_or (map f xs) i 0 ≡ f (get_or xs i 0)
map_at f [] i h = absurd (omega arith)
map_at f (x ∷ xs) zero h = refl
map_at f (x ∷ xs) (suc i) h = map_at f xs i (omega arith)

pub byte_at : (l : List ℕ) (i : ℕ) → i < length (line_bytes l) → get_or (line_bytes l) i 0 ≡ shown_byte (get_or l i 0)
byte_at l i h =
    map_at shown_byte (take longest_line l) i (omega (arith, length-map (take longest_line l) shown_byte))
    ∙ ap shown_byte (get_or-take longest_line l i 0 (omega (arith, bytes-long l)))

pub tail-dots : (l : List ℕ) → longest_line < length l → line_tail l ≡ text ".."
tail-dots l h = ap tail (lt-leb (length l) longest_line h)

-- its pieces, and the room that they take

abbrev pub request_pieces : ℕ → List ℕ → ℕ → List ℕ → List (List ℕ)
request_pieces n l a vs = decimal n ∷ text ": " ∷ shown_request l ∷ text " -> " ∷ answer_text a vs ∷ refusal a ∷ (10 ∷ []) ∷ []

module _ (a b c d e f g : List ℕ) where
  seven : a ++ b ++ c ++ d ++ e ++ f ++ g ≡ join (a ∷ b ∷ c ∷ d ∷ e ∷ f ∷ g ∷ [])
  seven = simp (append_assoc, append-nil)

  seven-long : length (a ++ b ++ c ++ d ++ e ++ f ++ g) ≡ length a + length b + length c + length d + length e + length f + length g
  seven-long = simp length-append

pub request-pieces : (n : ℕ) (l : List ℕ) (a : ℕ) (vs : List ℕ) → request_text n l a vs ≡ join (request_pieces n l a vs)
request-pieces n l a vs = seven (decimal n) (text ": ") (shown_request l) (text " -> ") (answer_text a vs) (refusal a) (10 ∷ [])

pub request-long : (n : ℕ) (l : List ℕ) (a : ℕ) (vs : List ℕ) → length (request_text n l a vs)
    ≡ length (decimal n) + 2 + length (shown_request l) + 4 + length (answer_text a vs) + length (refusal a) + 1
request-long n l a vs = seven-long (decimal n) (text ": ") (shown_request l) (text " -> ") (answer_text a vs) (refusal a) (10 ∷ [])

pub ruleset request_put = (request-long, append_assoc, length-append)

pub request-room : (n : ℕ) (l : List ℕ) (a : Answer) → length (request_text n l (number a) (values a)) ≤ request_room
request-room n l a =
    omega (
      arith,
      seven-long (decimal n) (text ": ") (shown_request l) (text " -> ") (answer_text (number a) (values a)) (refusal (number a)) (10 ∷ []),
      decimal-most n,
      shown-most l,
      text-most a,
      refusal-most (number a),
    )
