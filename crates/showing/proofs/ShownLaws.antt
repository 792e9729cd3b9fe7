-- What stands at the front of bytes of a call's own: bytes that were put there, and an answer's line as it is printed.
-- Assumes nothing.
use Prim.Native.Nat.{ℕ, ◌+◌, ◌-◌, ◌≤◌}
use native.Mathlib.Nat.{sub-zero}
use native.Mathlib.Omega.{arith}
use mathlib.Core.Path.{◌≡◌, refl, sym, ap, ◌∙◌}
use mathlib.Core.Bool.{Bool, cond}
use mathlib.Core.List.{List, ◌++◌}
use lib.ListN.{length, take, drop, replicate, length-append, length-replicate}
use lib.Seq.{sets, sets-eq, take-append-le, take-length}
use borrow.Author.Tests.{le-leb}
use Rattle.text.specs.Inner.{Wrote}
use Rattle.text.proofs.Laws.{wrote-take}
use Rattle.rules.specs.Answers.{number, values}
use Rattle.rules.specs.declared.Answer.{Answer}
use Rattle.rules.specs.Engine.{front}
use Rattle.console.specs.Sheet.{Put, longest_answer, answer_of, answer_put}
use Rattle.console.specs.Inner.{values_line, answer_bytes}
use Rattle.console.proofs.AnswerLaws.{answer-length, answer-room}
use Rattle.showing.specs.Showing.{answer_text}

-- bytes that were put at the front, as the code takes them out
pub front-part : {l x l' : List ℕ} {n : ℕ} → Wrote l 0 x l' n → length x ≤ length l → take (n - 0) l' ≡ x
front-part {l' = l'} {n = n} w room = ap (λ (k : ℕ). take k l') (sub-zero n) ∙ wrote-take w room

-- bytes at the front of others, as the library's slices put them
pub put-front : (x out : List ℕ) {after : List ℕ} (m : ℕ) → m ≡ length x → m ≤ length out → after ≡ x ++ drop m out → after ≡ sets out 0 x
put-front x out m e h w =
    let k : m ≡ 0 + length x = omega arith in
    w ∙ ap (λ (i : ℕ). x ++ drop i out) k ∙ sym (sets-eq x out 0 (omega arith))

-- an answer's line has a byte, and no more than the room that is lent for it
pub answer-some : (a : Answer) → 1 ≤ length (answer_of (number a) (values a))
unfolding answer_bytes values_line
answer-some a = omega (arith, answer-length a (number a) refl)

pub answer-most : (a : Answer) → length (answer_of (number a) (values a)) ≤ longest_answer
unfolding answer_bytes values_line
answer-most a = answer-room a

-- it is printed into that room
module _ (a : Answer) {n : ℕ} {after : List ℕ}
    (e : ◌≡◌ {A = Put} (record { many = n; buffer = after }) (answer_put (number a) (values a) (replicate longest_answer 0))) where
  abbrev room : List ℕ
  room = replicate longest_answer 0

  abbrev line : List ℕ
  line = answer_of (number a) (values a)

  is-put : ◌≡◌ {A = Put} (record { many = n; buffer = after }) (record { many = length line; buffer = front line room })
  unfolding answer_put
  is-put = e ∙ ap
      (λ (b : Bool). cond b (record { many = length line; buffer = front line room }) (record { many = 0; buffer = room }))
      (le-leb longest_answer (length room) (omega (arith, length-replicate {A = ℕ} longest_answer 0)))

  pub printed-many : n ≡ length line
  printed-many = ap (λ (p : Put). p.many) is-put

  pub printed-within : n ≤ length after
  printed-within = omega (arith, printed-many, ap (λ (p : Put). length p.buffer) is-put, length-append line (drop (length line) room))

  printed-take : (m : ℕ) → m ≤ n → take m after ≡ take m line
  printed-take m h =
      ap (λ (p : Put). take m p.buffer) is-put ∙ take-append-le m line (drop (length line) room) (omega (arith, printed-many))

  -- all of it, and less its byte 10
  pub printed-all : take n after ≡ line
  printed-all =
      let k : n ≡ length line = omega (arith, printed-many) in
      printed-take n (omega arith) ∙ ap (λ (m : ℕ). take m line) k ∙ take-length line

  pub printed_line : take (n - 1) after ≡ answer_text (number a) (values a)
  printed_line =
      let k : n - 1 ≡ length line - 1 = omega (arith, printed-many) in
      printed-take (n - 1) (omega arith) ∙ ap (λ (m : ℕ). take m line) k
