-- Laws of a chain put into links.
-- Assumes nothing.
use Prim.Native.Nat.{ℕ, suc, ◌+◌, ◌≤◌, ◌<◌}
use mathlib.Core.Path.{◌≡◌, refl, sym, ap, ap₂, ◌∙◌}
use mathlib.Core.Bool.{Bool, cond}
use mathlib.Core.List.{List, [], ◌∷◌, map}
use mathlib.Core.Option.{Option, none, some, none-ne-some}
use lib.Dec.{eqb}
use lib.ListN.{length, get_or, drop, set, drop_of_length-le}
use lib.Seq.{drop-cons, set_out}
use Rattle.std.proofs.Common.{add-one}
use borrow.Author.Tests.{eq-eqb, ne_eqb, lt-ltb, le-ltb}
use Rattle.std.specs.Prelude.{Some, None}
use Rattle.std.specs.List.{slice_split, onto_first}
use Rattle.text.specs.Text.{on_first, parts}
use Rattle.chains.specs.Links.{lay_chain}
use Rattle.shapes.specs.Shapes.{into, figure, each, listed}
use Rattle.shapes.specs.Inner.{byte, ChainRead, two_bytes}
use native.Mathlib.Omega.{arith}

-- THE PARTS OF A TEXT
-- what `split` gives is the parts between the bytes d
onto : (x : ℕ) (fs : List (List ℕ)) → onto_first x fs ≡ on_first x fs
onto x [] = refl
onto x (f ∷ fs) = refl

pub split_parts : (d : ℕ) (s : List ℕ) → slice_split (λ b. eqb b d) s ≡ parts d s
unfolding parts
split_parts d [] = refl
split_parts d (x ∷ s) =
    ap (λ (fs : List (List ℕ)). cond (eqb x d) ([] ∷ fs) (onto_first x fs)) (split_parts d s)
    ∙ ap (cond (eqb x d) ([] ∷ parts d s)) (onto x (parts d s))

-- A CHAIN, PUT INTO LINKS
abbrev laid_on : List ℕ → ℕ → Option (List ℕ) → Option (List ℕ)
laid_on l slot o = into (λ c. lay_chain l slot (map byte c)) o

abbrev first_of : List (List ℕ) → Option ℕ → Option (List ℕ)
first_of fs o = elim o [ none ↦ none | some n ↦ into (λ ns. n ∷ ns) (each fs) ]

-- the parts from the i-th on, put into the links so far, give what the whole gives, put into the links as given
pub record Chaining (v : List ℕ) (links : List ℕ) (state : ℕ) (l : List ℕ) (slot i : ℕ) : Type 0 where
  pub same : laid_on links state (each (parts 44 v)) ≡ laid_on l slot (each (drop i (parts 44 v)))

listed-each : (v : List ℕ) → (length v ≡ 0 → ⊥) → listed v ≡ each (parts 44 v)
listed-each v h = ap (λ (b : Bool). cond b (some []) (each (parts 44 v))) (ne_eqb (length v) 0 h)

-- no program at all
pub chain_empty : (v links k : List ℕ) (state : ℕ) → length v ≡ 0 → k ≡ set links state 0 → ChainRead v links state (Some k)
chain_empty v links k state n w =
    ap (λ (b : Bool). laid_on links state (cond b (some []) (each (parts 44 v)))) (eq-eqb (length v) 0 n) ∙ ap some (sym w)

module _ {v links l : List ℕ} {state slot i : ℕ} (g : Chaining v links state l slot i) where
  -- all parts are laid
  pub chain_end : {k : List ℕ} → (length v ≡ 0 → ⊥) → length (parts 44 v) ≤ i → k ≡ set l slot 0 → ChainRead v links state (Some k)
  chain_end h n w =
      ap (laid_on links state) (listed-each v h) ∙ g.same
      ∙ ap (λ (fs : List (List ℕ)). laid_on l slot (each fs)) (drop_of_length-le (parts 44 v) n)
      ∙ ap some (sym w)

  module _ (p : List ℕ) (h : i < length (parts 44 v)) (q : p ≡ get_or (parts 44 v) i p) where
    next : drop i (parts 44 v) ≡ p ∷ drop (suc i) (parts 44 v)
    next = drop-cons (parts 44 v) i p h ∙ ap (λ (x : List ℕ). x ∷ drop (suc i) (parts 44 v)) (sym q)

    -- a part that is no number
    pub chain_not : (length v ≡ 0 → ⊥) → figure p ≡ none → ChainRead v links state None
    chain_not k f =
        listed-each v k ∙ unlaid (each (parts 44 v))
        (g.same ∙ ap (laid_on l slot) (ap each next ∙ ap (first_of (drop (suc i) (parts 44 v))) f))
      where
        unlaid : (x : Option (List ℕ)) → laid_on links state x ≡ none → x ≡ none
        unlaid none q = refl
        unlaid (some c) q = absurd (none-ne-some _ (sym q))

    pub chain_turn : {n b : ℕ} {k : List ℕ} → figure p ≡ some n → b ≡ byte n → k ≡ set l slot b → Chaining v links state k (7 + b) (i + 1)
    chain_turn {n} {b} {k} f e w = record {
      same = g.same ∙ ap (laid_on l slot) (ap each next ∙ ap (first_of (drop (suc i) (parts 44 v))) f)
          ∙ again (each (drop (suc i) (parts 44 v)))
          ∙ ap (λ (j : ℕ). laid_on k (7 + b) (each (drop j (parts 44 v)))) (sym (add-one i));
    }
      where
        again : (x : Option (List ℕ)) → laid_on l slot (into (λ ns. n ∷ ns) x) ≡ laid_on k (7 + b) x
        again none = refl
        again (some c) =
            ap₂ (λ (t : List ℕ) (j : ℕ). some (lay_chain t j (map byte c))) (sym (w ∙ ap (set l slot) e)) (ap (λ (x : ℕ). 7 + x) (sym e))

-- Laws of numbers in bytes, for whoever proves about them.
pub byte_small : (n : ℕ) → n < 256 → n ≡ byte n
byte_small n h = sym (ap (λ (t : Bool). cond t n 255) (lt-ltb n 256 h))

pub byte-large : (n : ℕ) → 256 ≤ n → 255 ≡ byte n
byte-large n h = sym (ap (λ (t : Bool). cond t n 255) (le-ltb n 256 h))

pub two-small : (n : ℕ) → n < 65536 → n ≡ two_bytes n
two-small n h = sym (ap (λ (t : Bool). cond t n 65535) (lt-ltb n 65536 h))

pub two-large : (n : ℕ) → 65536 ≤ n → 65535 ≡ two_bytes n
two-large n h = sym (ap (λ (t : Bool). cond t n 65535) (le-ltb n 65536 h))

-- nothing is stored behind the slots

pub stored : (l : List ℕ) (slot p : ℕ) {k : List ℕ} → length l ≡ 40 → 40 ≤ slot → k ≡ l → k ≡ set l slot p
stored l slot p n h e = e ∙ sym (set_out l slot p (omega arith))
