-- Laws of what is written: stores one after the other, what is left to be stored, the digits of a number, an entry.
-- Assumes nothing.
use Prim.Native.Nat.{ℕ, zero, suc, ◌+◌, ◌*◌, ◌/◌, ◌%◌, ◌<◌, ◌≤◌}
use native.Mathlib.Nat.{add-zero, zero-add, add-suc, suc-add}
use native.Mathlib.Numerals.{add-one}
use native.Mathlib.Omega.{arith}
use mathlib.Core.Path.{◌≡◌, refl, sym, ap, ap₂, ◌∙◌}
use mathlib.Core.Bool.{Bool, true, false}
use mathlib.Core.List.{List, [], ◌∷◌, ◌++◌, append_assoc}
use lib.Dec.{ltb}
use lib.ListN.{length, get_or, take, drop, set, length-append, length-set}
use lib.Seq.{sets, sets-eq, take_at, length-sets, drop-cons, drop-drop}
use borrow.Author.Tests.{lt-ltb, le-ltb}
use borrow.Rule.Slice.PartMut.{put_mid}
use Rattle.lists.specs.Lists.{join}
use Rattle.text.specs.Text.{digits, decimal, entry}
use Rattle.text.specs.Inner.{Wrote, three_digits}

pub sets-append : (x y l : List ℕ) (i : ℕ) → sets l i (x ++ y) ≡ sets (sets l i x) (i + length x) y
sets-append [] y l i = ap (λ (k : ℕ). sets l k y) (sym (add-zero i))
sets-append (a ∷ x) y l i = sets-append x y (set l i a) (suc i)
    ∙ ap (λ (k : ℕ). sets (sets (set l i a) (suc i) x) k y) (suc-add i (length x) ∙ sym (add-suc i (length x)))

-- bytes that are copied to their place are stored from it on
pub stored : (l x : List ℕ) (at n : ℕ) {part : List ℕ} → n ≡ length x → at + length x ≤ length l → part ≡ x
    → put_mid at n l part ≡ sets l at x
stored l x at n {part} k h p =
    ap₂ (λ (i : ℕ) (y : List ℕ). put_mid at i l y) k p ∙ ap (λ (r : List ℕ). take at l ++ (x ++ r)) (drop-drop (length x) at l)
    ∙ sym (append_assoc (take at l) x (drop (at + length x) l)) ∙ sym (sets-eq x l at h)

-- `all` is to be stored from at₀ on in l₀; the list is l by now, and `rest` is left, from `at` on
pub record Left (l₀ : List ℕ) (at₀ : ℕ) (all : List ℕ) (l : List ℕ) (at : ℕ) (rest : List ℕ) : Type 0 where
  pub whole : sets l at rest ≡ sets l₀ at₀ all
  pub end : at + length rest ≡ at₀ + length all
  pub same : length l ≡ length l₀

pub left-start : {l : List ℕ} {at : ℕ} {all : List ℕ} → Left l at all l at all
left-start = record { whole = refl; end = refl; same = refl }

-- a write of what stands first among what is left
pub left_step : {l₀ all l l' rest : List ℕ} {at₀ at at' : ℕ} (x : List ℕ) → Left l₀ at₀ all l at (x ++ rest) → Wrote l at x l' at'
    → Left l₀ at₀ all l' at' rest
left_step {l₀} {all} {l} {l'} {rest} {at₀} {at} {at'} x h w = record {
  whole = ap (λ (k : List ℕ). sets k at' rest) w.buffer ∙ ap (λ (k : ℕ). sets (sets l at x) k rest) w.place
      ∙ sym (sets-append x rest l at) ∙ h.whole;
  end = omega (arith, w.place, h.end, length-append x rest);
  same = ap length w.buffer ∙ length-sets l at x ∙ h.same;
}

-- the last write
pub left-last : {l₀ all l l' : List ℕ} {at₀ at at' : ℕ} (x : List ℕ) → Left l₀ at₀ all l at x → Wrote l at x l' at'
    → Wrote l₀ at₀ all l' at'
left-last x h w = record { buffer = w.buffer ∙ h.whole; place = w.place ∙ h.end }

-- nothing is left
pub left-none : {l₀ all l : List ℕ} {at₀ at : ℕ} → Left l₀ at₀ all l at [] → Wrote l₀ at₀ all l at
left-none {at = at} h = record { buffer = h.whole; place = sym (add-zero at) ∙ h.end }

pub left_end : {l₀ all l rest : List ℕ} {at₀ at : ℕ} → Left l₀ at₀ all l at rest → rest ≡ [] → Wrote l₀ at₀ all l at
left_end h e = left-none (rw e at h)

-- there is room for what stands first
pub left-room : {l₀ all l : List ℕ} {at₀ at : ℕ} (x rest : List ℕ) → Left l₀ at₀ all l at (x ++ rest) → at₀ + length all ≤ length l₀
    → at + length x ≤ length l
left-room x rest h room = omega (arith, h.end, h.same, length-append x rest)

-- a turn of the loop that copies
pub left-turn : {l₀ l : List ℕ} {at₀ at i : ℕ} (s : List ℕ) → i < length s → Left l₀ at₀ s l at (drop i s)
    → Left l₀ at₀ s (set l at (get_or s i 0)) (at + 1) (drop (i + 1) s)
left-turn {l₀} {l} {at₀} {at} {i} s more h = rw (add-one at, add-one i) (record {
  whole = ap (λ (r : List ℕ). sets l at r) (sym (drop-cons s i 0 more)) ∙ h.whole;
  end = omega (arith, h.end, ap length (drop-cons s i 0 more));
  same = length-set l at (get_or s i 0) ∙ h.same;
})

-- the same by pieces: ps are the pieces that are left. A piece stands under a constructor, so antt finds it by itself
pub record Parts (l₀ : List ℕ) (at₀ : ℕ) (all : List ℕ) (l : List ℕ) (at : ℕ) (ps : List (List ℕ)) : Type 0 where
  pub left : Left l₀ at₀ all l at (join ps)

pub parts-start : {l : List ℕ} {at : ℕ} (ps : List (List ℕ)) → Parts l at (join ps) l at ps
parts-start ps = record { left = left-start }

pub parts-step : {l₀ all l l' : List ℕ} {at₀ at at' : ℕ} {x : List ℕ} {ps : List (List ℕ)} → Parts l₀ at₀ all l at (x ∷ ps)
    → Wrote l at x l' at'
    → Parts l₀ at₀ all l' at' ps
parts-step {x = x} h w = record { left = left_step x h.left w }

pub parts-end : {l₀ all l : List ℕ} {at₀ at : ℕ} → Parts l₀ at₀ all l at [] → Wrote l₀ at₀ all l at
parts-end h = left-none h.left

-- and with room for all of it: then there is room for the piece that stands first
pub record Todo (l₀ : List ℕ) (at₀ : ℕ) (all : List ℕ) (l : List ℕ) (at : ℕ) (ps : List (List ℕ)) : Type 0 where
  pub parts : Parts l₀ at₀ all l at ps
  pub room : at₀ + length all ≤ length l₀

pub todo-start : {l all : List ℕ} {at : ℕ} (ps : List (List ℕ)) → all ≡ join ps → at + length all ≤ length l → Todo l at all l at ps
todo-start ps e room = rw e (record { parts = parts-start ps; room = rw e at room })

pub todo-as : {l₀ all l : List ℕ} {at₀ at : ℕ} {ps qs : List (List ℕ)} → ps ≡ qs → Todo l₀ at₀ all l at ps → Todo l₀ at₀ all l at qs
todo-as e h = rw e at h

pub todo-at : {l₀ all l l' : List ℕ} {at₀ at at' : ℕ} {ps : List (List ℕ)} → l' ≡ l → at' ≡ at → Todo l₀ at₀ all l at ps
    → Todo l₀ at₀ all l' at' ps
todo-at e f h = rw (e, f) h

pub todo-step : {l₀ all l l' : List ℕ} {at₀ at at' : ℕ} {x : List ℕ} {ps : List (List ℕ)} → Todo l₀ at₀ all l at (x ∷ ps)
    → Wrote l at x l' at'
    → Todo l₀ at₀ all l' at' ps
todo-step h w = record { parts = parts-step h.parts w; room = h.room }

pub todo-room : {l₀ all l : List ℕ} {at₀ at : ℕ} {x : List ℕ} {ps : List (List ℕ)} → Todo l₀ at₀ all l at (x ∷ ps)
    → at + length x ≤ length l
todo-room {x = x} {ps = ps} h = left-room x (join ps) h.parts.left h.room

pub todo-end : {l₀ all l : List ℕ} {at₀ at : ℕ} → Todo l₀ at₀ all l at [] → Wrote l₀ at₀ all l at
todo-end h = parts-end h.parts

pub todo-same : {l₀ all l : List ℕ} {at₀ at : ℕ} {ps : List (List ℕ)} → Todo l₀ at₀ all l at ps → length l ≡ length l₀
todo-same h = h.parts.left.same

-- whole writes: none, two one after the other, one at the front
pub wrote_none : {l : List ℕ} {at : ℕ} → Wrote l at [] l at
wrote_none {at = at} = record { buffer = refl; place = sym (add-zero at) }

pub wrote_then : {l₀ l₁ l₂ : List ℕ} {at₀ at₁ at₂ : ℕ} (x y : List ℕ) → Wrote l₀ at₀ x l₁ at₁ → Wrote l₁ at₁ y l₂ at₂
    → Wrote l₀ at₀ (x ++ y) l₂ at₂
wrote_then x y v w = left-last y (left_step x left-start v) w

pub wrote-length : {l x l' : List ℕ} {at n : ℕ} → Wrote l at x l' n → length l' ≡ length l
wrote-length {l} {x} {at = at} w = ap length w.buffer ∙ length-sets l at x

pub wrote-front : {l x l' : List ℕ} {n : ℕ} → Wrote l 0 x l' n → length x ≤ length l → l' ≡ x ++ drop (length x) l
wrote-front {l} {x} w room = w.buffer ∙ sets-eq x l 0 (omega arith) ∙ ap (λ (k : ℕ). x ++ drop k l) (zero-add (length x))

pub wrote-front-take : {l x l' : List ℕ} {n : ℕ} → Wrote l 0 x l' n → length x ≤ length l → take (length x) l' ≡ x
wrote-front-take {l} {x} w room = ap (take (length x)) (wrote-front w room) ∙ take_at x (drop (length x) l) (length x) refl

pub wrote-take : {l x l' : List ℕ} {n : ℕ} → Wrote l 0 x l' n → length x ≤ length l → take n l' ≡ x
wrote-take {l} {x} {l'} {n} w room = ap (λ (k : ℕ). take k l') (w.place ∙ zero-add (length x)) ∙ wrote-front-take w room

-- 10 ^ f, by steps that `omega` reads
abbrev pub ten : ℕ → ℕ
ten zero = 1
ten (suc f) = 10 * ten f

pub ten-mono : (i j : ℕ) → i ≤ j → ten i ≤ ten j
ten-mono zero zero h = omega arith
ten-mono zero (suc j) h = omega (arith, ten-mono zero j (omega arith))
ten-mono (suc i) zero h = omega arith
ten-mono (suc i) (suc j) h = omega (arith, ten-mono i j (omega arith))

-- n's digits, by those of n / 10
abbrev last : Bool → ℕ → List ℕ → List ℕ
last b n more = elim b [ true ↦ (48 + n) ∷ [] | false ↦ more ++ ((48 + n % 10) ∷ []) ]

pub digits-small : (f n : ℕ) → n < 10 → digits (suc f) n ≡ (48 + n) ∷ []
unfolding digits
digits-small f n h = ap (λ (b : Bool). last b n (digits f (n / 10))) (lt-ltb n 10 h)

pub digits_step : (f n : ℕ) → 10 ≤ n → digits (suc f) n ≡ digits f (n / 10) ++ ((48 + n % 10) ∷ [])
unfolding digits
digits_step f n h = ap (λ (b : Bool). last b n (digits f (n / 10))) (le-ltb n 10 h)

-- more fuel changes nothing
pub digits_more : (f n : ℕ) → n < ten (suc f) → digits (suc f) n ≡ digits (suc (suc f)) n
unfolding digits
digits_more zero n h = digits-small zero n h ∙ sym (digits-small 1 n h)
digits_more (suc f) n h = ap (last (ltb n 10) n) (digits_more f (n / 10) (omega arith))

pub decimal-small : (n : ℕ) → n < 10 → decimal n ≡ (48 + n) ∷ []
unfolding decimal
decimal-small n h = digits-small 19 n h

pub decimal_step : (n : ℕ) → 10 ≤ n → n < ten 20 → decimal n ≡ decimal (n / 10) ++ ((48 + n % 10) ∷ [])
unfolding decimal
decimal_step n h b = digits_step 19 n h ∙ ap (λ (r : List ℕ). r ++ ((48 + n % 10) ∷ [])) (digits_more 18 (n / 10) (omega arith))

-- the same, before what stands behind
decimal-on : (n : ℕ) (r : List ℕ) → 10 ≤ n → n < ten 20 → decimal n ++ r ≡ decimal (n / 10) ++ ((48 + n % 10) ∷ r)
decimal-on n r h b = ap (λ (l : List ℕ). l ++ r) (decimal_step n h b) ∙ append_assoc (decimal (n / 10)) ((48 + n % 10) ∷ []) r

-- numbers of two digits, of three, and of more by their thousands
pub decimal-two : (n : ℕ) → 10 ≤ n → n < 100 → decimal n ≡ (48 + n / 10) ∷ (48 + n % 10) ∷ []
decimal-two n h b =
    decimal_step n h (omega arith) ∙ ap (λ (l : List ℕ). l ++ ((48 + n % 10) ∷ [])) (decimal-small (n / 10) (omega arith))

pub decimal-three : (n : ℕ) → 100 ≤ n → n < 1000 → decimal n ≡ three_digits n
decimal-three n h b =
    decimal_step n (omega arith) (omega arith)
    ∙ ap (λ (l : List ℕ). l ++ ((48 + n % 10) ∷ [])) (decimal-two (n / 10) (omega arith) (omega arith))
    ∙ ap (λ (k : ℕ). (48 + k) ∷ (48 + n / 10 % 10) ∷ (48 + n % 10) ∷ []) (omega arith)

pub decimal-thousands : (n : ℕ) → 1000 ≤ n → n < ten 20 → decimal n ≡ decimal (n / 1000) ++ three_digits (n % 1000)
decimal-thousands n h b =
    let q : n / 10 / 10 / 10 ≡ n / 1000 = omega arith in
    let x : n / 10 / 10 % 10 ≡ n % 1000 / 100 = omega arith in
    let y : n / 10 % 10 ≡ n % 1000 / 10 % 10 = omega arith in
    let z : n % 10 ≡ n % 1000 % 10 = omega arith in
    rw (← q, ← x, ← y, ← z) (decimal_step n (omega arith) b
    ∙ decimal-on (n / 10) ((48 + n % 10) ∷ []) (omega arith) (omega arith)
    ∙ decimal-on (n / 10 / 10) ((48 + n / 10 % 10) ∷ (48 + n % 10) ∷ []) (omega arith) (omega arith))

pub thousands-length : (n : ℕ) → 1000 ≤ n → n < ten 20 → length (decimal n) ≡ length (decimal (n / 1000)) + 3
thousands-length n h b = ap length (decimal-thousands n h b) ∙ length-append (decimal (n / 1000)) (three_digits (n % 1000))

-- and by six
millions : (n : ℕ) → n / 1000 / 1000 ≡ n / 1000000
millions n = omega arith

pub decimal-millions : (n : ℕ) → 1000000 ≤ n → n < ten 20
    → decimal n ≡ (decimal (n / 1000000) ++ three_digits (n / 1000 % 1000)) ++ three_digits (n % 1000)
decimal-millions n h b =
    decimal-thousands n (omega arith) b
    ∙ ap (λ (x : List ℕ). x ++ three_digits (n % 1000)) (decimal-thousands (n / 1000) (omega arith) (omega arith)
    ∙ ap (λ (k : ℕ). decimal k ++ three_digits (n / 1000 % 1000)) (millions n))

pub millions-length : (n : ℕ) → 1000000 ≤ n → n < ten 20 → length (decimal n) ≡ length (decimal (n / 1000000)) + 6
millions-length n h b =
    omega (
      arith,
      thousands-length n (omega arith) b,
      thousands-length (n / 1000) (omega arith) (omega arith),
      ap (λ (k : ℕ). length (decimal k)) (millions n),
    )

-- how the digits of a number come: one by one below 1,000, and three at a time
pub ruleset few_digits = (decimal-small, decimal-two, decimal-three)

pub ruleset many_digits = (decimal-thousands, thousands-length, decimal-millions, millions-length, append_assoc, length-append)

-- a number below 10 ^ (f + 1) has at most f + 1 digits, whatever the fuel
pub digits-length : (f g n : ℕ) → n < ten (suc f) → length (digits g n) ≤ suc f
unfolding digits
digits-length f zero n h = omega arith
digits-length zero (suc g) n h = rw (digits-small g n h) (omega arith)
digits-length (suc f) (suc g) n h = go (digits-length f g (n / 10) (omega arith)) (ltb n 10)
  where
    go : length (digits g (n / 10)) ≤ suc f → (t : Bool) → length (last t n (digits g (n / 10))) ≤ suc (suc f)
    go ih true = omega arith
    go ih false = omega (arith, length-append (digits g (n / 10)) ((48 + n % 10) ∷ []))

pub decimal-length : (f n : ℕ) → n < ten (suc f) → length (decimal n) ≤ suc f
unfolding decimal
decimal-length f n h = digits-length f 20 n h

-- and whatever the number, at most as many as the fuel
digits-most : (g n : ℕ) → length (digits g n) ≤ g
unfolding digits
digits-most zero n = omega arith
digits-most (suc g) n = go (digits-most g (n / 10)) (ltb n 10)
  where
    go : length (digits g (n / 10)) ≤ g → (t : Bool) → length (last t n (digits g (n / 10))) ≤ suc g
    go ih true = omega arith
    go ih false = omega (arith, length-append (digits g (n / 10)) ((48 + n % 10) ∷ []))

pub decimal-most : (n : ℕ) → length (decimal n) ≤ 20
unfolding decimal
decimal-most n = digits-most 20 n

pub ruleset all_digits = (decimal-most)

-- there is a first digit
pub digits-pos : (f n : ℕ) → 0 < length (digits (suc f) n)
unfolding digits
digits-pos f n = go (ltb n 10)
  where
    go : (t : Bool) → 0 < length (last t n (digits f (n / 10)))
    go true = omega arith
    go false = omega (arith, length-append (digits f (n / 10)) ((48 + n % 10) ∷ []))

pub decimal-pos : (n : ℕ) → 0 < length (decimal n)
unfolding decimal
decimal-pos n = digits-pos 19 n

-- an entry: its length; and once its key is put, its value and its end are left
pub entry_length : (key value : List ℕ) → length (entry key value) ≡ length key + length value + 2
unfolding entry
entry_length key value = omega (arith, length-append key (61 ∷ (value ++ (10 ∷ []))), length-append value (10 ∷ []))

entry-pieces : (key value : List ℕ) → entry key value ≡ join ((key ++ (61 ∷ [])) ∷ value ∷ (10 ∷ []) ∷ [])
unfolding entry
entry-pieces key value = sym (append_assoc key (61 ∷ []) (value ++ (10 ∷ [])))

pub entry-todo : {l l' : List ℕ} {at at' : ℕ} (key value : List ℕ) → at + length (entry key value) ≤ length l
    → Wrote l at (key ++ (61 ∷ [])) l' at'
    → Todo l at (entry key value) l' at' (value ∷ (10 ∷ []) ∷ [])
entry-todo key value room w = todo-step (todo-start ((key ++ (61 ∷ [])) ∷ value ∷ (10 ∷ []) ∷ []) (entry-pieces key value) room) w
