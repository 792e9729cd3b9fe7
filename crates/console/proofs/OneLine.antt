-- What a line prints. A lent buffer of at least 8,192 bytes holds every page, so what a line answers does not hang on which is lent; and
-- the page, or else the answer's line, is what stands at its front.
-- Assumes nothing.
use Prim.Native.Nat.{ℕ, ◌≤◌, ◌<◌}
use native.Mathlib.Omega.{arith}
use native.Mathlib.Decide.{dec_lt}
use mathlib.Core.Path.{◌≡◌, refl, sym, ap, ◌∙◌}
use mathlib.Core.Bool.{Bool, true, false}
use mathlib.Core.List.{List, [], ◌∷◌}
use lib.ListN.{length, drop, length-replicate, length-append, length-drop}
use borrow.Author.Tests.{le-leb, lt-leb}
use Rattle.limits.specs.Limits.{page_room}
use Rattle.lists.proofs.Tests.{clash}
use Rattle.rules.specs.declared.Answer.TheVariants.{Done}
use Rattle.rules.specs.Answers as answers
use Rattle.tables.specs.declared.Tables.{Tables}
use Rattle.tables.specs.declared.Outcome.{Outcome}
use Rattle.tables.specs.Tables.{plain}
use Rattle.tables.specs.Sound.{sound}
use Rattle.tables.specs.Calls.{told}
use Rattle.page.specs.Page.{page}
use Rattle.rules.specs.Engine.{beside, front, not_sound, paged_in, written_in}
use Rattle.page.specs.Paging.{Written, paged}
use Rattle.console.specs.Line.{Line, bad, PAGE, asks, ticks, line_of}
use Rattle.console.specs.Console.{keyed, keyed_in}
use Rattle.console.specs.Sheet.{lent, answer_line, shown, printed_bytes, line_shown}
use Rattle.console.specs.Inner.{values_line, answer_bytes}
use Rattle.rules.proofs.shared.OneAnswer.{one_answer}
use Rattle.console.proofs.AnswerLaws.{answer-room}
use Rattle.console.proofs.KeyLaws.{doing}

-- the line for an answer says what the answer says
pub answer-line : (buf : List ℕ) (r : Outcome) → answer_line (beside buf (told r)) ≡ answer_bytes r.answer
unfolding answer_line answer_bytes values_line
answer-line buf r = refl

-- PAGE with room for the page
pub paged-done : (t : Tables) (buf : List ℕ) → sound t ≡ true → length (page (plain t)) ≤ length buf
    → paged t buf ≡ record { number = 0; values = length (page (plain t)) ∷ []; tables = t; buffer = front (page (plain t)) buf }
unfolding paged_in written_in
paged-done t buf e h = rw (e, paged_in, le-leb (length (page (plain t))) (length buf) h, written_in)

-- a line on tables that are not sound, and PAGE on sound ones
pub keyed-unsound : (t : Tables) (l buf : List ℕ) → sound t ≡ false → keyed t l buf ≡ beside buf (not_sound t)
unfolding keyed_in
keyed-unsound t l buf e = rw (e, keyed_in)

pub keyed-page : (t : Tables) (l : List ℕ) → sound t ≡ true → line_of l ≡ PAGE → (buf : List ℕ) → length (page (plain t)) ≤ length buf
    → keyed t l buf ≡ record { number = 0; values = length (page (plain t)) ∷ []; tables = t; buffer = front (page (plain t)) buf }
unfolding keyed_in
keyed-page t l e p buf h = rw (e, keyed_in, p) (paged-done t buf e h)

-- any other line leaves the buffer
pub keyed-keeps : (t : Tables) (l : List ℕ) → (line_of l ≡ PAGE → sound t ≡ false) → (buf : List ℕ) → (keyed t l buf).buffer ≡ buf
unfolding keyed_in
keyed-keeps t l other buf = go (sound t) refl (line_of l) refl
  where
    go : (s : Bool) → sound t ≡ s → (x : Line) → line_of l ≡ x → (doing s t buf x).buffer ≡ buf
    go true e bad p = refl
    go true e PAGE p = clash e (other p)
    go true e (asks q) p = refl
    go true e (ticks n) p = refl
    go false e x p = refl

-- the same answer and tables, whatever was lent
pub record Alike (v w : Written) : Type 0 where
  pub number : v.number ≡ w.number
  pub values : v.values ≡ w.values
  pub tables : v.tables ≡ w.tables

line-alike : {v w : Written} → Alike v w → answer_line v ≡ answer_line w
unfolding answer_line
line-alike {v} h = λ i. answer_line (record { number = h.number i; values = h.values i; tables = v.tables; buffer = v.buffer })

pub keyed-alike : (t : Tables) (l a b : List ℕ) → (line_of l ≡ PAGE → sound t ≡ true → length (page (plain t)) ≤ length a)
    → (line_of l ≡ PAGE → sound t ≡ true → length (page (plain t)) ≤ length b)
    → Alike (keyed t l a) (keyed t l b)
unfolding keyed_in
keyed-alike t l a b ha hb = go (sound t) refl (line_of l) refl
  where
    go : (s : Bool) → sound t ≡ s → (x : Line) → line_of l ≡ x → Alike (doing s t a x) (doing s t b x)
    go true e bad p = record { number = refl; values = refl; tables = refl }
    go true e PAGE p = rw (paged-done t a e (ha p e), paged-done t b e (hb p e)) (record { number = refl; values = refl; tables = refl })
    go true e (asks q) p = record { number = refl; values = refl; tables = refl }
    go true e (ticks n) p = record { number = refl; values = refl; tables = refl }
    go false e x p = record { number = refl; values = refl; tables = refl }

-- what is printed, by what stands at the front
abbrev pub printing : List ℕ → Tables → List ℕ → Written
printing bytes t out = record { number = 0; values = length bytes ∷ []; tables = t; buffer = front bytes out }

-- too few bytes are lent
pub shown-short : (t : Tables) (l out : List ℕ) → length out < page_room
    → line_shown t l out ≡ record { number = 12; values = page_room ∷ []; tables = t; buffer = out }
unfolding line_shown
shown-short t l out h = rw (lt-leb page_room (length out) h, line_shown)

-- enough are lent
pub shown-long : (t : Tables) (l out : List ℕ) → page_room ≤ length out
    → line_shown t l out ≡ printing (shown (line_of l) t (keyed t l lent)) (keyed t l lent).tables out
unfolding line_shown
shown-long t l out big = rw (le-leb page_room (length out) big, line_shown)

-- a buffer that keeps its length has room for what was printed
front_fits : (bytes out : List ℕ) → length (front bytes out) ≡ length out → length bytes ≤ length out
front_fits bytes out e = omega (arith, length-append bytes (drop (length bytes) out), length-drop (length bytes) out)

pub printed-fits : (t : Tables) (l out after : List ℕ) (r : Outcome) → beside after (told r) ≡ line_shown t l out → length after ≡ length out
    → printed_bytes (answers.number r.answer) (answers.values r.answer) ≤ length out
printed-fits t l out after r e same = go (dec_lt (length out) page_room)
  where
    many : (w : Written) → line_shown t l out ≡ w
        → printed_bytes (answers.number r.answer) (answers.values r.answer) ≡ printed_bytes w.number w.values
    many w f = ap (λ (v : Written). printed_bytes v.number v.values) (e ∙ f)

    go : Dec (length out < page_room) → printed_bytes (answers.number r.answer) (answers.values r.answer) ≤ length out
    go (yes h) = omega (arith, many _ (shown-short t l out h))
    go (no h) =
        let big : page_room ≤ length out = omega arith in
        let f = shown-long t l out big in
        omega (
          arith,
          many _ f,
          front_fits (shown (line_of l) t (keyed t l lent)) out (ap length (sym (ap (λ (v : Written). v.buffer) (e ∙ f))) ∙ same),
        )

-- only of a line that asks for the page need it be known that the page fits
module _ (t : Tables) (l out : List ℕ) (big : page_room ≤ length out)
    (fits : line_of l ≡ PAGE → sound t ≡ true → length (page (plain t)) ≤ page_room) where
  pub keyed-lent : Alike (keyed t l out) (keyed t l lent)
  keyed-lent =
      keyed-alike t l out lent (λ p e. omega (arith, fits p e)) (λ p e. omega (arith, fits p e, length-replicate {A = ℕ} page_room 0))

  shown-as : (bytes : List ℕ) → shown (line_of l) t (keyed t l lent) ≡ bytes → line_shown t l out ≡ printing bytes (keyed t l out).tables out
  shown-as bytes e = shown-long t l out big ∙ (λ i. printing (e i) (sym keyed-lent.tables i) out)

  -- PAGE on sound tables
  pub shown-page : sound t ≡ true → line_of l ≡ PAGE → line_shown t l out ≡ printing (page (plain t)) t out
  shown-page e p =
      let k = keyed-page t l e p lent (omega (arith, fits p e, length-replicate {A = ℕ} page_room 0)) in
      shown-long t l out big ∙ (λ i. printing (shown (p i) t (k i)) (k i).tables out)

  -- any other line, and PAGE on others
  module _ (other : line_of l ≡ PAGE → sound t ≡ false) where
    answer-shown : (x : Line) → line_of l ≡ x → shown x t (keyed t l lent) ≡ answer_line (keyed t l lent)
    unfolding keyed_in
    answer-shown bad p = refl
    answer-shown PAGE p = rw (other p, keyed_in)
    answer-shown (asks q) p = refl
    answer-shown (ticks n) p = refl

    pub shown-answer : line_shown t l out ≡ printing (answer_line (keyed t l out)) (keyed t l out).tables out
    shown-answer = shown-as (answer_line (keyed t l out)) (answer-shown (line_of l) refl ∙ sym (line-alike keyed-lent))

  -- what the code has in hand: the outcome of the line beside the buffer after it
  module _ (r : Outcome) (after : List ℕ) (same : beside after (told r) ≡ keyed t l out) where
    done-sound : (n : ℕ) → r.answer ≡ Done n → sound t ≡ true
    done-sound n d = go (sound t) refl
      where
        go : (s : Bool) → sound t ≡ s → s ≡ true
        go true e = refl
        go false e = absurd (omega (arith, ap answers.number d, ap (λ (w : Written). w.number) (same ∙ keyed-unsound t l out e)))

    -- PAGE done
    module _ (n : ℕ) (p : line_of l ≡ PAGE) (d : r.answer ≡ Done n) where
      done-keyed : beside after (told r)
          ≡ record { number = 0; values = length (page (plain t)) ∷ []; tables = t; buffer = front (page (plain t)) out }
      done-keyed = let e = done-sound n d in same ∙ keyed-page t l e p out (omega (arith, fits p e))

      pub printed-page : beside after (told r) ≡ line_shown t l out
      printed-page = done-keyed ∙ sym (shown-page (done-sound n d) p)

    -- the answer is not that of PAGE done: so the buffer is as it was, and the answer's line goes to its front
    module _ (other : line_of l ≡ PAGE → (n : ℕ) → r.answer ≡ Done n → ⊥) where
      not_done : line_of l ≡ PAGE → sound t ≡ false
      not_done p = go (sound t) refl
        where
          go : (s : Bool) → sound t ≡ s → s ≡ false
          go true e =
              let k = same ∙ keyed-page t l e p out (omega (arith, fits p e)) in
              absurd (other p (length (page (plain t))) (one_answer r.answer (Done (length (page (plain t))))
              (ap (λ (w : Written). w.number) k) (ap (λ (w : Written). w.values) k)))
          go false e = refl

      pub printed-kept : after ≡ out
      printed-kept = ap (λ (w : Written). w.buffer) same ∙ keyed-keeps t l not_done out

      pub printed-room : length (answer_bytes r.answer) ≤ length after
      printed-room = omega (arith, answer-room r.answer, ap length printed-kept)

      pub printed-answer : (final : List ℕ) (s : Outcome)
          → told s ≡ record { number = 0; values = length (answer_bytes r.answer) ∷ []; tables = r.tables }
          → final ≡ front (answer_bytes r.answer) after → beside final (told s) ≡ line_shown t l out
      printed-answer final s k w =
          let bytes : List ℕ = answer_bytes r.answer in
          let b : final ≡ front bytes out = w ∙ ap (front bytes) printed-kept in
          let line : bytes ≡ answer_line (keyed t l out) = sym (answer-line after r) ∙ ap answer_line same in
          ap (beside final) k
          ∙ (λ i. record { number = 0; values = length bytes ∷ []; tables = (same i).tables; buffer = b i })
          ∙ ap (λ (xs : List ℕ). printing xs (keyed t l out).tables out) line
          ∙ sym (shown-answer not_done)
