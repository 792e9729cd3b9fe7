-- The line at a place, by its key up to `=` and its value up to byte 10.
-- Assumes nothing.
use Prim.Native.Nat.{ℕ, suc, ◌+◌, ◌<◌, ◌≤◌}
use native.Mathlib.Omega.{arith}
use mathlib.Core.Path.{◌≡◌, refl, sym, ap, ◌∙◌}
use mathlib.Core.Bool.{Bool, true, false, cond, ◌&&◌}
use mathlib.Core.List.{List, [], ◌∷◌, ◌++◌, append_assoc}
use mathlib.Core.Option.{Option, none, some, none-ne-some}
use lib.Dec.{eqb, ltb}
use lib.ListN.{length, drop}
use lib.Seq.{slice, drop-drop}
use Rattle.lists.specs.Lists.{same, count}
use Rattle.lists.proofs.Laws.{count-append}
use borrow.Author.Tests.{eqb-true, eqb-false, ne_eqb, lt-ltb}
use Rattle.lists.proofs.Tests.{false-true, every_in, alike_refl}
use Rattle.text.specs.Text.{text, on_first, behind, parts}
use Rattle.text.specs.Inner.{PartEnd}
use Rattle.text.proofs.Laws.{decimal-small}
use Rattle.text.proofs.Words.{behind-exact}
use Rattle.shapes.specs.Inner.{unbroken, LineIs, NoLine, unended, keyless, shapeless, ValueIs}
use Rattle.shapes.proofs.Pieces.{not_first, parts_at, parts_last, clean_line}
use Rattle.page.specs.Page.{chain_key, held_key, number_key, key_of_chain}
use Rattle.std.specs.Prelude as option
use Rattle.std.specs.Prelude.{Some, None}
use Rattle.records.specs.declared.Why.{Why}
use Rattle.shapes.specs.declared.values.Run.{Run}
use Rattle.shapes.specs.declared.values.Resource.{Resource}
use Rattle.shapes.specs.Inner.{SaidIs, NotSaid, word_is, reason_in, held_in, number_in, FigureTo, WordTo, ReasonTo, RunTo, ResourceTo}
use Rattle.shapes.specs.Inner.{FigureAt, WordAt, ReasonAt, RunAt, ResourceAt}
use Rattle.shapes.proofs.Marks.{Cut, cut, whole, cut_at, same-front, same_rest, Free, word-there, word-free}
use Rattle.shapes.proofs.MarkedValues.{reason-free, held-free, number-free}

-- a line with that key is the key, `=` and its value
pub value-exact : (key l v : List ℕ) → behind (key ++ (61 ∷ [])) l ≡ some v → l ≡ key ++ (61 ∷ v)
value-exact key l v e = behind-exact (key ++ (61 ∷ [])) l v e ∙ append_assoc key (61 ∷ []) v

-- a word within a line has no byte 10
pub unbroken-clean : (w : List ℕ) → unbroken w ≡ true → count 10 w ≡ 0
unbroken-clean w e = go (eqb (count 10 w) 0) refl
  where
    go : (b : Bool) → eqb (count 10 w) 0 ≡ b → count 10 w ≡ 0
    go true t = eqb-true (count 10 w) 0 t
    go false t = false-true (every_in (ltb 10) w e 10 (omega (arith, eqb-false (count 10 w) 0 t)))

-- what stands behind a front
drop-front : (p y : List ℕ) → drop (suc (length p)) (p ++ (10 ∷ y)) ≡ y
drop-front [] y = refl
drop-front (x ∷ p) y = drop-front p y

module _ {A : Type 0} (shape : List ℕ → Option A) {s key : List ℕ} {at : ℕ} where
  pub line-said : unbroken key ≡ true → Free shape 10 → {i : ℕ} → SaidIs (word_is key) 61 s at true i
      → {a : A} {next : ℕ} → SaidIs shape 10 s i a next → LineIs shape s at key a next
  line-said h F {i} k {a} {next} v = record {
    value = v.value;
    cut = ap (parts 10) (word-there k ∙ ap (λ (x : List ℕ). key ++ (61 ∷ x)) v.cut
        ∙ sym (append_assoc key (61 ∷ v.value) (10 ∷ drop next s)))
        ∙ parts_at 10 (key ++ (61 ∷ v.value)) (drop next s)
        (clean_line key v.value (unbroken-clean key h) (F.without v.value a v.shaped));
    beyond = omega (arith, k.beyond, v.beyond);
    within = v.within;
    shaped = v.shaped;
  }

  -- the line, whatever it is
  module _ (told : (l v : List ℕ) (next : ℕ) → l ≡ key ++ (61 ∷ v) → drop at s ≡ l ++ (10 ∷ drop next s) → shape v ≡ none) where
    line-none : Cut 10 (drop at s) → NoLine shape s at key
    line-none (whole h) = unended (drop at s) (parts_last 10 (drop at s) h)
    line-none (cut_at p y h r) = go (behind (key ++ (61 ∷ [])) p) refl
      where
        next : ℕ
        next = at + suc (length p)

        behind-it : drop next s ≡ y
        behind-it = sym (drop-drop (suc (length p)) at s) ∙ ap (drop (suc (length p))) r ∙ drop-front p y

        lines : parts 10 (drop at s) ≡ p ∷ parts 10 (drop next s)
        lines = ap (parts 10) r ∙ parts_at 10 p y h ∙ ap (λ (x : List ℕ). p ∷ parts 10 x) (sym behind-it)

        go : (o : Option (List ℕ)) → behind (key ++ (61 ∷ [])) p ≡ o → NoLine shape s at key
        go none e = keyless p next lines e
        go (some v) e =
            let l : p ≡ key ++ (61 ∷ v) = value-exact key p v e in
            shapeless v next (lines ∙ ap (λ (x : List ℕ). x ∷ parts 10 (drop next s)) l)
            (told p v next l (r ∙ ap (λ (x : List ℕ). p ++ (10 ∷ x)) (sym behind-it)))

  pub line-no-key : NotSaid (word_is key) 61 s at → NoLine shape s at key
  line-no-key n = line-none (λ l v next e q. absurd (none-ne-some true
      (sym (n.unshaped key (v ++ (10 ∷ drop next s)) (q ∙ ap (λ (x : List ℕ). x ++ (10 ∷ drop next s)) e
      ∙ append_assoc key (61 ∷ v) (10 ∷ drop next s))) ∙ ap (λ (b : Bool). cond b (some true) none) (alike_refl key))))
      (cut 10 (drop at s))

  pub line-no-value : {i : ℕ} → SaidIs (word_is key) 61 s at true i → NotSaid shape 10 s i → NoLine shape s at key
  line-no-value {i} k n = line-none (λ l v next e q. n.unshaped v (drop next s)
      (same_rest (same-front key (61 ∷ drop i s) (61 ∷ (v ++ (10 ∷ drop next s)))
      (sym (word-there k) ∙ q ∙ ap (λ (x : List ℕ). x ++ (10 ∷ drop next s)) e ∙ append_assoc key (61 ∷ v) (10 ∷ drop next s)))))
      (cut 10 (drop at s))

-- what a value up to byte 10 makes of the line, whose key was found
module _ {s key : List ℕ} {at i : ℕ} (k : SaidIs (word_is key) 61 s at true i) (u : unbroken key ≡ true) where
  pub figure-line : (shape : List ℕ → Option ℕ) → Free shape 10 → (r : option.Option (ℕ × ℕ)) → FigureTo shape 10 s i r → FigureAt shape s at key r
  figure-line shape F (Some r) x = line-said shape u F k x
  figure-line shape F None x = line-no-value shape k x

  pub word_line : (w : List ℕ) → unbroken w ≡ true → (r : option.Option ℕ) → WordTo w 10 s i r → WordAt s at key w r
  word_line w h (Some next) x = line-said (word_is w) u (word-free true w 10 (unbroken-clean w h)) k x
  word_line w h None x = line-no-value (word_is w) k x

  pub reason-line : (r : option.Option (Why × ℕ)) → ReasonTo s i r → ReasonAt s at key r
  reason-line (Some r) x = line-said reason_in u reason-free k x
  reason-line None x = line-no-value reason_in k x

pub run-line : {s : List ℕ} {at i : ℕ} → SaidIs (word_is (text held_key)) 61 s at true i → (r : option.Option (Run × ℕ)) → RunTo s i r → RunAt s at r
run-line k (Some r) x = line-said held_in refl held-free k x
run-line k None x = line-no-value held_in k x

pub resource-line : {s : List ℕ} {at i : ℕ} → SaidIs (word_is (text number_key)) 61 s at true i → (r : option.Option (Resource × ℕ)) → ResourceTo s i r
    → ResourceAt s at r
resource-line k (Some r) x = line-said number_in refl number-free k x
resource-line k None x = line-no-value number_in k x

-- the value as it stands, up to the end of the line; or there is no end
parts-behind : (w x y : List ℕ) (ys : List (List ℕ)) → count 10 w ≡ 0 → parts 10 x ≡ y ∷ ys → parts 10 (w ++ x) ≡ (w ++ y) ∷ ys
unfolding parts
parts-behind [] x y ys h e = e
parts-behind (c ∷ w) x y ys h e =
    ap (λ (b : Bool). cond b ([] ∷ parts 10 (w ++ x)) (on_first c (parts 10 (w ++ x)))) (ne_eqb c 10 (not_first 10 c w h))
    ∙ ap (on_first c) (parts-behind w x y ys (omega arith) e)

module _ {s key : List ℕ} {at from : ℕ} (k : SaidIs (word_is key) 61 s at true from) (u : unbroken key ≡ true) {to : ℕ}
    (p : PartEnd 10 s from to) where
  line-cut : (ys : List (List ℕ)) → parts 10 (drop from s) ≡ slice from to s ∷ ys
      → parts 10 (drop at s) ≡ (key ++ (61 ∷ slice from to s)) ∷ ys
  unfolding same
  line-cut ys e =
      ap (parts 10) (word-there k ∙ sym (append_assoc key (61 ∷ []) (drop from s)))
      ∙ parts-behind (key ++ (61 ∷ [])) (drop from s) (slice from to s) ys
      (omega (arith, count-append 10 key (61 ∷ []), unbroken-clean key u)) e
      ∙ ap (λ (x : List ℕ). x ∷ ys) (append_assoc key (61 ∷ []) (slice from to s))

  pub value_found : to < length s → ValueIs s at key from to
  value_found h = record { low = p.low; high = h; beyond = omega (arith, k.beyond, p.low); cut = line-cut _ (p.more h) }

  pub value-unended : {A : Type 0} (shape : List ℕ → Option A) → to ≡ length s → NoLine shape s at key
  value-unended shape h = unended (key ++ (61 ∷ slice from to s)) (line-cut [] (p.last h))

-- the key of a chain
pub chain-unbroken : (s : ℕ) → s ≤ 9 → unbroken (key_of_chain s) ≡ true
chain-unbroken s h =
    ap (λ (x : List ℕ). unbroken (text chain_key ++ x)) (decimal-small s (omega arith))
    ∙ ap (λ (b : Bool). b && true) (lt-ltb 10 (48 + s) (omega arith))
