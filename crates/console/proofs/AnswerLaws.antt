-- The bytes of an answer: six parts of a time with dots between, how long they are, and that an answer's line has at most 160 bytes.
-- Assumes nothing.
use Prim.Native.Nat.{ℕ, suc, ◌+◌, ◌<◌, ◌≤◌}
use native.Mathlib.Omega.{arith}
use mathlib.Core.Path.{◌≡◌, refl, sym, ap, ◌∙◌}
use mathlib.Core.Bool.{Bool, true, false, cond, ◌&&◌}
use mathlib.Core.Logic.{◌⊎◌, inl, inr}
use mathlib.Core.List.{List, [], ◌∷◌, ◌++◌, map, append_assoc, append-nil}
use lib.ListN.{length, get_or, drop, length-append}
use lib.Seq.{drop-cons}
use lib.Dec.{eqb}
use borrow.Author.Tests.{eqb-true, ne_eqb}
use Rattle.text.specs.Text.{decimal, between, text}
use Rattle.text.proofs.Laws.{decimal-most, wrote_then}
use Rattle.clock.specs.declared.Time.{Time}
use Rattle.clock.specs.Clock.{parts_of}
use Rattle.rules.specs.declared.Answer.{Answer}
use Rattle.rules.specs.declared.Answer.TheVariants.{Done, Told, Waits, NoCaller, NotAllowed, NoProgram, WrongState, NameInUse, AllUsed}
use Rattle.rules.specs.declared.Answer.TheVariants.{NoRoom, NotHolder, NotAllocated, AtCeiling, TooShort, NotUnderstood, NotSound, NotRead, InNeither}
use Rattle.rules.specs.Answers.{number, values}
use Rattle.rules.proofs.shared.OneAnswer.{one_answer}
use Rattle.console.specs.Sheet.{printed_bytes}
use Rattle.console.specs.Inner.{single, dotted, values_line, answer_bytes}
use Rattle.text.specs.Inner.{Wrote}

dot-length : (x y : List ℕ) → length (x ++ (46 ∷ y)) ≡ length x + length y + 1
dot-length x y = omega (arith, length-append x (46 ∷ y))

-- a time
pub time-length : (t : Time) → length (between 46 (map decimal (parts_of t)))
    ≡ length (decimal t.year) + length (decimal t.day) + length (decimal t.hour) + length (decimal t.minute)
    + length (decimal t.second) + length (decimal t.hundredth) + 5
time-length t = simp dot-length (omega arith)

-- a time's numbers behind the first, each with its dot
pub time-dotted : (t : Time) → between 46 (map decimal (parts_of t))
    ≡ decimal t.year ++ dotted (t.day ∷ t.hour ∷ t.minute ∷ t.second ∷ t.hundredth ∷ [])
time-dotted t = ap (λ (l : List ℕ). decimal t.year
    ++ (46 ∷ (decimal t.day ++ (46 ∷ (decimal t.hour ++ (46 ∷ (decimal t.minute ++ (46 ∷ (decimal t.second ++ (46 ∷ l)))))))))) (sym (append-nil (decimal t.hundredth)))

-- before the number at a place is put there is room for its dot and for it
dotted-next : (ns : List ℕ) (i : ℕ) → i < length ns
    → length (dotted (drop i ns)) ≡ 1 + length (decimal (get_or ns i 0)) + length (dotted (drop (suc i) ns))
dotted-next ns i h =
    ap (λ (l : List ℕ). length (dotted l)) (drop-cons ns i 0 h)
    ∙ omega (arith, length-append (decimal (get_or ns i 0)) (dotted (drop (suc i) ns)))

pub dotted-room : (out before ns : List ℕ) (i : ℕ) → i < length ns → out ++ dotted (drop i ns) ≡ before ++ dotted ns
    → length out + 1 + length (decimal (get_or ns i 0)) ≤ length before + length (dotted ns)
dotted-room out before ns i h e =
    omega (
      arith,
      ap length e,
      length-append out (dotted (drop i ns)),
      length-append before (dotted ns),
      dotted-next ns i h,
    )

pub ruleset time_line = (time-dotted, append_assoc, length-append)

-- an answer tells a time, or has one value
one_value : (a : Answer) → (values_line a ≡ decimal (single (values a))) ⊎ ((t : Time) × (a ≡ Told t))
unfolding values_line
one_value (Done v) = inl refl
one_value (Told t) = inr (t, refl)
one_value (Waits s) = inl refl
one_value NoCaller = inl refl
one_value NotAllowed = inl refl
one_value NoProgram = inl refl
one_value (WrongState s) = inl refl
one_value NameInUse = inl refl
one_value AllUsed = inl refl
one_value NoRoom = inl refl
one_value NotHolder = inl refl
one_value NotAllocated = inl refl
one_value AtCeiling = inl refl
one_value (TooShort n) = inl refl
one_value NotUnderstood = inl refl
one_value NotSound = inl refl
one_value (NotRead n) = inl refl
one_value InNeither = inl refl

-- what tells no time has one value
pub no-time : (a : Answer) → ((t : Time) → a ≡ Told t → ⊥) → values_line a ≡ decimal (single (values a))
no-time a h = elim (one_value a) [ inl e ↦ e | inr p ↦ absurd (h p.0 p.1) ]

-- the line for an answer, whose number is n
pub answer-length : (a : Answer) (n : ℕ) → n ≡ number a → length (answer_bytes a) ≡ length (decimal n) + length (values_line a) + 15
unfolding answer_bytes
answer-length a n is = rw is (simp length-append (omega arith))

-- 7 bytes, a number, 7 bytes, at most six numbers with five dots, and byte 10
pub values-room : (a : Answer) → length (values_line a) ≤ 125
unfolding values_line
values-room a =
    elim (one_value a) [
      | inl e ↦ omega (arith, ap length e, decimal-most (single (values a)))
      | inr p ↦
          let t = p.0 in
          let e = ap (λ (x : Answer). length (values_line x)) p.1 in
          omega (
            arith,
            time-length t,
            decimal-most t.year,
            decimal-most t.day,
            decimal-most t.hour,
            decimal-most t.minute,
            decimal-most t.second,
            decimal-most t.hundredth,
          )
    ]

pub answer-room : (a : Answer) → length (answer_bytes a) ≤ 160
answer-room a = omega (arith, answer-length a (number a) refl, values-room a, decimal-most (number a))

pub ruleset dotted_room = (dotted-room)

pub ruleset answer_line = (decimal-most, values-room, length-append)

-- an answer at another place than `Done` is not that, and has no bytes printed
pub bytes-none : (a : Answer) → ((v : ℕ) → a ≡ Done v → ⊥) → 0 ≡ printed_bytes (number a) (values a)
bytes-none a h = go (eqb (number a) 0) refl (values a) refl
  where
    go : (b : Bool) → eqb (number a) 0 ≡ b → (vs : List ℕ) → values a ≡ vs → 0 ≡ cond (b && eqb (length vs) 1) (get_or vs 0 0) 0
    go false e vs v = refl
    go true e [] v = refl
    go true e (x ∷ []) v = absurd (h x (one_answer a (Done x) (eqb-true (number a) 0 e) v))
    go true e (x ∷ y ∷ vs) v = sym (ap (λ (t : Bool). cond t x 0) (ne_eqb (length (x ∷ y ∷ vs)) 1 (λ n. omega arith)))

-- An answer that is put from a place on, piece by piece; for whoever proves about lent buffers.
pub answer-wrote : {l₀ l₁ l₂ l₃ l₄ l₅ : List ℕ} {at₀ at₁ at₂ at₃ at₄ at₅ n : ℕ} (a : Answer) → n ≡ number a
    → Wrote l₀ at₀ (text "answer=") l₁ at₁
    → Wrote l₁ at₁ (decimal n) l₂ at₂ → Wrote l₂ at₂ (text ",value=") l₃ at₃ → Wrote l₃ at₃ (values_line a) l₄ at₄
    → Wrote l₄ at₄ (10 ∷ []) l₅ at₅
    → Wrote l₀ at₀ (answer_bytes a) l₅ at₅
unfolding answer_bytes
answer-wrote a is p n q v e =
    let begun : List ℕ = text "answer=" ++ decimal (number a) in
    wrote_then (begun ++ text ",value=" ++ values_line a) (10 ∷ [])
    (wrote_then (begun ++ text ",value=") (values_line a)
    (wrote_then begun (text ",value=") (wrote_then (text "answer=") (decimal (number a)) p (rw is at n)) q) v)
    e
