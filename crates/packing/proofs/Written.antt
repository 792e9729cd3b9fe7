-- Laws of what is written from a place of a lent buffer on, piece by piece, for whoever proves about such a buffer: the items of an array,
-- each as many bytes wide; the parts of a record; those of the tables; and what fills a buffer.
-- Assumes nothing.
use Prim.Native.Nat.{ℕ, ◌+◌, ◌*◌, ◌<◌, ◌≤◌}
use native.Mathlib.Numerals.{add-one}
use native.Mathlib.Omega.{arith}
use mathlib.Core.Path.{◌≡◌, ap, subst, sym, ◌∙◌}
use mathlib.Core.List.{List, [], ◌∷◌, map, append_assoc, append-nil, ◌++◌}
use lib.ListN.{length, get_or, drop, drop_of_length-le, take, length-drop}
use lib.Seq.{drop-cons, slice, take_all, length-take-le}
use Rattle.lists.specs.Lists.{hit, join, alike}
use Rattle.text.specs.Inner.{Wrote}
use Rattle.text.proofs.Laws.{Left, left-start, left_step, left_end, parts-start, parts-step, parts-end, wrote-front}
use Rattle.records.specs.declared.Program.{Program}
use Rattle.tracks.specs.Tracks.{places}
use Rattle.tables.specs.declared.Tables.{Tables}
use Rattle.packing.specs.Packed.{in_bytes, kind_of, count_of, pack_program, pack_resource, packed, unpacked, is_packed, packed_length}
use mathlib.Core.Bool.{Bool, ◌&&◌}
use borrow.Author.Tests.{eq-eqb}
use Rattle.packing.proofs.OneForm.{unpacked-length}

wrote_as : {l x y l' : List ℕ} {at n : ℕ} → x ≡ y → Wrote l at y l' n → Wrote l at x l' n
wrote_as e w = rw e w

-- i of the items xs are written, each w bytes wide
pub record Items {A : Type 0} (pack : A → List ℕ) (w : ℕ) (xs : List A) (l₀ : List ℕ) (at₀ : ℕ) (l : List ℕ) (at : ℕ) (i : ℕ) : Type 0 where
  pub most : i ≤ length xs
  pub place : at ≡ at₀ + w * i
  pub left : Left l₀ at₀ (join (map pack xs)) l at (join (map pack (drop i xs)))

module _ {A : Type 0} (pack : A → List ℕ) (w : ℕ) (xs : List A) where
  pub items-start : {l : List ℕ} {at : ℕ} → Items pack w xs l at l at 0
  items-start = record { most = omega arith; place = omega arith; left = left-start }

  pub items-turn : {l₀ l l' : List ℕ} {at₀ at at' i : ℕ} (d : A) → i < length xs → length (pack (get_or xs i d)) ≡ w
      → Items pack w xs l₀ at₀ l at i → Wrote l at (pack (get_or xs i d)) l' at' → Items pack w xs l₀ at₀ l' at' (i + 1)
  items-turn {l₀} {l} {l'} {at₀} {at} {at'} {i} d h e I W = rw (add-one i) (record {
    most = omega arith;
    place = omega (arith, W.place, I.place);
    left =
        left_step (pack (get_or xs i d))
        (subst (λ (r : List A). Left l₀ at₀ (join (map pack xs)) l at (join (map pack r))) (drop-cons xs i d h) I.left) W;
  })

  pub items-end : {l₀ l : List ℕ} {at₀ at i : ℕ} → length xs ≤ i → Items pack w xs l₀ at₀ l at i → Wrote l₀ at₀ (join (map pack xs)) l at
  items-end h I = left_end I.left (ap (λ (r : List A). join (map pack r)) (drop_of_length-le xs h))

pub program-wrote : {l₀ l₁ l₂ l₃ l₄ l₅ l₆ l₇ l₈ l₉ : List ℕ} {at₀ at₁ at₂ at₃ at₄ at₅ at₆ at₇ at₈ at₉ : ℕ} (r : Program) (u k n m : ℕ)
    → u ≡ hit r.used → k ≡ kind_of r.why → n ≡ count_of r.why → m ≡ hit r.suspend
    → Wrote l₀ at₀ (u ∷ []) l₁ at₁ → Wrote l₁ at₁ r.name l₂ at₂ → Wrote l₂ at₂ (in_bytes 2 r.priority) l₃ at₃
    → Wrote l₃ at₃ (r.state ∷ []) l₄ at₄
    → Wrote l₄ at₄ (k ∷ []) l₅ at₅ → Wrote l₅ at₅ (in_bytes 2 n) l₆ at₆ → Wrote l₆ at₆ (in_bytes 8 r.due) l₇ at₇
    → Wrote l₇ at₇ (in_bytes 8 r.interval) l₈ at₈ → Wrote l₈ at₈ (m ∷ []) l₉ at₉
    → Wrote l₀ at₀ (pack_program r) l₉ at₉
unfolding pack_program
program-wrote r u k n m eu ek en em a b c d e f g h i =
    wrote_as (rw (eu, ek, en, em) (simp append_assoc)) (parts-end
    (parts-step (parts-step (parts-step (parts-step (parts-step (parts-step (parts-step (parts-step (parts-step (parts-start (
    (u ∷ []) ∷ r.name ∷ in_bytes 2 r.priority ∷ (r.state ∷ []) ∷ (k ∷ []) ∷ in_bytes 2 n ∷ in_bytes 8 r.due
    ∷ in_bytes 8 r.interval ∷ (m ∷ []) ∷ []
    )) a) b) c) d) e) f) g) h) i))

pub tables_wrote : {l₀ l₁ l₂ l₃ l₄ l₅ l₆ l₇ l₈ l₉ : List ℕ} {at₀ at₁ at₂ at₃ at₄ at₅ at₆ at₇ at₈ at₉ : ℕ} (t : Tables)
    → Wrote l₀ at₀ (in_bytes 8 t.ledger.clock.ticks) l₁ at₁ → Wrote l₁ at₁ (in_bytes 2 t.ledger.clock.year) l₂ at₂
    → Wrote l₂ at₂ (in_bytes 2 t.ledger.tracks.count) l₃ at₃ → Wrote l₃ at₃ (in_bytes 2 t.ledger.tracks.system) l₄ at₄
    → Wrote l₄ at₄ (t.ledger.numbers.count ∷ []) l₅ at₅ → Wrote l₅ at₅ (places t.ledger.tracks) l₆ at₆
    → Wrote l₆ at₆ (join (map pack_resource t.ledger.numbers.resources)) l₇ at₇
    → Wrote l₇ at₇ t.links l₈ at₈ → Wrote l₈ at₈ (join (map pack_program t.ledger.programs)) l₉ at₉ → Wrote l₀ at₀ (packed t) l₉ at₉
unfolding packed
tables_wrote t a b c d e f g h i =
    wrote_as (simp (append_assoc, append-nil)) (parts-end
    (parts-step (parts-step (parts-step (parts-step (parts-step (parts-step (parts-step (parts-step (parts-step (parts-start (
    in_bytes 8 t.ledger.clock.ticks ∷ in_bytes 2 t.ledger.clock.year ∷ in_bytes 2 t.ledger.tracks.count
    ∷ in_bytes 2 t.ledger.tracks.system
    ∷ (t.ledger.numbers.count ∷ []) ∷ places t.ledger.tracks ∷ join (map pack_resource t.ledger.numbers.resources) ∷ t.links
    ∷ join (map pack_program t.ledger.programs) ∷ []
    )) a) b) c) d) e) f) g) h) i))

-- what fills a buffer is what it then holds
pub filled-whole : {l x l' : List ℕ} {n : ℕ} → Wrote l 0 x l' n → length x ≡ length l → l' ≡ x
filled-whole {l} {x} w e =
    let h : length l ≤ length x = omega arith in
    wrote-front w (omega arith) ∙ ap (λ (r : List ℕ). x ++ r) (drop_of_length-le l h) ∙ append-nil x

-- k bytes from place o on, put where as many stood
pub part-whole : (o k : ℕ) (s : List ℕ) {l l' : List ℕ} {n : ℕ} → o + k ≤ length s → length l ≡ k → Wrote l 0 (take k (drop o s)) l' n
    → l' ≡ take k (drop o s)
part-whole o k s h e w = filled-whole w (length-take-le k (drop o s) (omega (arith, length-drop o s)) ∙ sym e)

-- tables that bytes say, packed where as many bytes stood, held against the bytes
pub packed_by : (s : List ℕ) (t : Tables) (l form : List ℕ) (n : ℕ) → length s ≡ packed_length → length l ≡ packed_length
    → t ≡ unpacked s → Wrote l 0 (packed t) form n → alike (slice 0 1271 form) s ≡ is_packed s
unfolding is_packed
packed_by s t l form n long k u w =
    let whole : form ≡ packed t = filled-whole w (ap (λ (x : Tables). length (packed x)) u ∙ unpacked-length s long ∙ sym k) in
    let all : length form ≤ 1271 = omega (arith, ap length whole, ap (λ (x : Tables). length (packed x)) u, unpacked-length s long) in
    ap (λ (x : List ℕ). alike x s) (take_all 1271 form all ∙ whole ∙ ap packed u)
    ∙ sym (ap (λ (x : Bool). x && alike (packed (unpacked s)) s) (eq-eqb (length s) packed_length long))
