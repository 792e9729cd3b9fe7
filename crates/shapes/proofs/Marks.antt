-- Values up to a mark: one shape or another, something made of what a shape says, and parts one behind another.
-- Assumes nothing.
use Prim.Native.Nat.{ℕ, ◌+◌, ◌<◌, ◌≤◌}
use native.Mathlib.Omega.{arith}
use mathlib.Core.Path.{◌≡◌, refl, sym, ap, ap₂, ◌∙◌}
use mathlib.Core.Logic.{◌≢◌}
use mathlib.Core.Bool.{Bool, true, false, cond}
use mathlib.Core.List.{List, [], ◌∷◌, ◌++◌, append_assoc}
use mathlib.Core.Option.{Option, none, some, none-ne-some}
use lib.Dec.{eqb}
use lib.ListN.{length, get_or, drop, drop_of_length-le}
use lib.Seq.{slice, take-length}
use borrow.Author.Tests.{eqb-true, eqb-false}
use Rattle.lists.specs.Lists.{count, alike}
use Rattle.lists.proofs.Laws.{same-ne, count-append}
use Rattle.lists.proofs.Tests.{alike-true, alike_refl}
use Rattle.text.specs.Text.{behind, parts}
use Rattle.text.specs.Inner.{BehindAt}
use Rattle.text.proofs.Fields.{drop-next, parts_cut}
use Rattle.text.proofs.Words.{behind-append, behind-exact}
use Rattle.shapes.specs.Shapes.{Parts, next, over, into, or_else}
use Rattle.shapes.proofs.Pieces.{not_first, parts_at, parts_last}
use Rattle.shapes.specs.Inner.{SaidIs, NotSaid, word_is}

-- TEXTS WITH ONE BYTE IN THEM
-- a text has no byte e, or goes on behind the first
pub data Cut (e : ℕ) (v : List ℕ) : Type 0 where
  whole : count e v ≡ 0 → Cut e v
  cut_at : (p y : List ℕ) → count e p ≡ 0 → v ≡ p ++ (e ∷ y) → Cut e v

pub cut : (e : ℕ) (v : List ℕ) → Cut e v
cut e [] = whole refl
cut e (x ∷ v) = go (eqb x e) refl (cut e v)
  where
    go : (b : Bool) → eqb x e ≡ b → Cut e v → Cut e (x ∷ v)
    go true t c = cut_at [] v refl (ap (λ (z : ℕ). z ∷ v) (eqb-true x e t))
    go false t (whole h) = whole (omega (arith, h, same-ne e x (λ q. eqb-false x e t (sym q))))
    go false t (cut_at p y h q) =
        cut_at (x ∷ p) y (omega (arith, h, same-ne e x (λ q. eqb-false x e t (sym q)))) (ap (λ (z : List ℕ). x ∷ z) q)

-- where a text is cut at the first byte e in two ways, they are one
tail : List ℕ → List ℕ
tail [] = []
tail (x ∷ xs) = xs

head : List ℕ → ℕ
head [] = 0
head (x ∷ xs) = x

pub cut-once : (e : ℕ) (p x y z : List ℕ) → count e p ≡ 0 → count e x ≡ 0 → p ++ (e ∷ y) ≡ x ++ (e ∷ z) → (p ≡ x) × (y ≡ z)
unfolding tail head
cut-once e [] [] y z h k q = (refl, ap tail q)
cut-once e [] (a ∷ x) y z h k q = absurd (not_first e a x k (sym (ap head q)))
cut-once e (a ∷ p) [] y z h k q = absurd (not_first e a p h (ap head q))
cut-once e (a ∷ p) (b ∷ x) y z h k q =
    let r = cut-once e p x y z (omega arith) (omega arith) (ap tail q) in
    (ap₂ ◌∷◌ (ap head q) r.0, r.1)

pub same_rest : {x : ℕ} {xs ys : List ℕ} → x ∷ xs ≡ x ∷ ys → xs ≡ ys
unfolding tail
same_rest e = ap tail e

pub same-front : (w x y : List ℕ) → w ++ x ≡ w ++ y → x ≡ y
unfolding tail
same-front [] x y q = q
same-front (a ∷ w) x y q = same-front w x y (ap tail q)

-- the rest of a text, and what stands behind a word that it begins with
whole-rest : (s : List ℕ) (from : ℕ) → slice from (length s) s ≡ drop from s
whole-rest s from = ap (drop from) (take-length s)

pub found-behind : {w s : List ℕ} {from i : ℕ} → BehindAt w s from (length s) i → drop from s ≡ w ++ drop i s
found-behind {w} {s} {from} {i} b =
    sym (whole-rest s from) ∙ behind-exact w (slice from (length s) s) (slice i (length s) s) b.rest
    ∙ ap (λ (x : List ℕ). w ++ x) (whole-rest s i)

pub not_behind : (w s : List ℕ) (from : ℕ) → behind w (slice from (length s) s) ≡ none → behind w (drop from s) ≡ none
not_behind w s from n = sym (ap (behind w) (whole-rest s from)) ∙ n

-- A shape whose values have no byte e
pub record Free {A : Type 0} (shape : List ℕ → Option A) (e : ℕ) : Type 0 where
  pub without : (v : List ℕ) (a : A) → shape v ≡ some a → count e v ≡ 0

-- WORDS
word-true : {A : Type 0} (a : A) (b : Bool) → cond b (some true) none ≡ some true → cond b (some a) none ≡ some a
word-true a true e = refl
word-true a false e = absurd (none-ne-some true e)

word-false : {A : Type 0} (a : A) (b : Bool) → ◌≡◌ {A = Option Bool} (cond b (some true) none) none
    → ◌≡◌ {A = Option A} (cond b (some a) none) none
word-false a true e = absurd (none-ne-some true (sym e))
word-false a false e = refl

pub word-exact : {A : Type 0} (a c : A) (w v : List ℕ) → cond (alike v w) (some a) none ≡ some c → v ≡ w
word-exact a c w v = go (alike v w) refl
  where
    go : (b : Bool) → alike v w ≡ b → cond b (some a) none ≡ some c → v ≡ w
    go true t e = alike-true v w t
    go false t e = absurd (none-ne-some c e)

module _ {w : List ℕ} {d : ℕ} {s : List ℕ} {from : ℕ} where
  pub word-said : (next : ℕ) → from < next → next ≤ length s → drop from s ≡ w ++ (d ∷ drop next s) → SaidIs (word_is w) d s from true next
  word-said next l h e = record {
    value = w;
    cut = e;
    beyond = l;
    within = h;
    shaped = ap (λ (b : Bool). cond b (some true) none) (alike_refl w);
  }

  pub word-unsaid : ((rest : List ℕ) → drop from s ≡ w ++ (d ∷ rest) → ⊥) → NotSaid (word_is w) d s from
  word-unsaid n = record { unshaped = λ v rest e. go v rest e (alike v w) refl }
    where
      go : (v rest : List ℕ) → drop from s ≡ v ++ (d ∷ rest) → (b : Bool) → alike v w ≡ b → ◌≡◌ {A = Option Bool} (word_is w v) none
      go v rest e true t = absurd (n rest (e ∙ ap (λ (x : List ℕ). x ++ (d ∷ rest)) (alike-true v w t)))
      go v rest e false t = ap (λ (b : Bool). cond b (some true) none) t

  -- a search for the word from there on: it is not there; it is there, and the text ends with it, or goes on otherwise, or with the mark
  pub word-absent : behind w (slice from (length s) s) ≡ none → NotSaid (word_is w) d s from
  word-absent n = word-unsaid (λ rest e. none-ne-some (d ∷ rest)
      (sym n ∙ ap (behind w) (whole-rest s from ∙ e) ∙ behind-append w (d ∷ rest)))

  module _ {i : ℕ} (b : BehindAt w s from (length s) i) where
    pub word-short : i ≡ length s → NotSaid (word_is w) d s from
    word-short h = word-unsaid (λ rest e.
        let q : [] ≡ d ∷ rest = sym (drop_of_length-le s {i = i} (omega arith))
        ∙ same-front w (drop i s) (d ∷ rest) (sym (found-behind b) ∙ e) in
        omega (arith, ap length q))

    pub word-other : i < length s → get_or s i 0 ≢ d → NotSaid (word_is w) d s from
    word-other h n = word-unsaid (λ rest e.
        n (ap (λ (x : List ℕ). get_or x 0 0)
        (sym (drop-next s i h) ∙ same-front w (drop i s) (d ∷ rest) (sym (found-behind b) ∙ e))))

    pub word-found : i < length s → get_or s i 0 ≡ d → SaidIs (word_is w) d s from true (i + 1)
    word-found h e = word-said (i + 1) (omega (arith, b.place)) (omega arith)
        (found-behind b ∙ ap (λ (x : List ℕ). w ++ x) (drop-next s i h ∙ ap (λ (c : ℕ). c ∷ drop (i + 1) s) e))

  -- a word that stands for something
  pub named : {A : Type 0} (a : A) {next : ℕ} → SaidIs (word_is w) d s from true next
      → SaidIs (λ v. cond (alike v w) (some a) none) d s from a next
  named a x = record {
    value = x.value;
    cut = x.cut;
    beyond = x.beyond;
    within = x.within;
    shaped = word-true a (alike x.value w) x.shaped;
  }

  pub unnamed : {A : Type 0} (a : A) → NotSaid (word_is w) d s from → NotSaid (λ v. cond (alike v w) (some a) none) d s from
  unnamed a x = record { unshaped = λ v rest e. word-false a (alike v w) (x.unshaped v rest e) }

  pub word-there : {next : ℕ} → SaidIs (word_is w) d s from true next → drop from s ≡ w ++ (d ∷ drop next s)
  word-there {next} x = x.cut ∙ ap (λ (v : List ℕ). v ++ (d ∷ drop next s)) (word-exact true true w x.value x.shaped)

pub word-free : {A : Type 0} (a : A) (w : List ℕ) (e : ℕ) → count e w ≡ 0 → Free (λ v. cond (alike v w) (some a) none) e
word-free a w e h = record { without = λ v c q. ap (count e) (word-exact a c w v q) ∙ h }

-- ONE SHAPE OR ANOTHER
or_else-none : {A : Type 0} (x y : Option A) → x ≡ none → y ≡ none → or_else x y ≡ none
or_else-none x y e f = ap₂ (λ (p q : Option _). or_else p q) e f

module _ {A : Type 0} (f g : List ℕ → Option A) where
  pub either-free : {e : ℕ} → Free f e → Free g e → Free (λ v. or_else (f v) (g v)) e
  either-free {e} F G = record { without = λ v a q. go v a (f v) refl q }
    where
      go : (v : List ℕ) (a : A) (o : Option A) → f v ≡ o → or_else o (g v) ≡ some a → count e v ≡ 0
      go v a none t q = G.without v a q
      go v a (some b) t q = F.without v b t

  module _ {d : ℕ} {s : List ℕ} {from : ℕ} where
    pub either_first : {a : A} {next : ℕ} → SaidIs f d s from a next → SaidIs (λ v. or_else (f v) (g v)) d s from a next
    either_first x = record {
      value = x.value;
      cut = x.cut;
      beyond = x.beyond;
      within = x.within;
      shaped = ap (λ (o : Option A). or_else o (g x.value)) x.shaped;
    }

    pub either_second : {a : A} {next : ℕ} → NotSaid f d s from → SaidIs g d s from a next
        → SaidIs (λ v. or_else (f v) (g v)) d s from a next
    either_second {a} {next} n x = record {
      value = x.value;
      cut = x.cut;
      beyond = x.beyond;
      within = x.within;
      shaped = ap (λ (o : Option A). or_else o (g x.value)) (n.unshaped x.value (drop next s) x.cut) ∙ x.shaped;
    }

    pub neither : NotSaid f d s from → NotSaid g d s from → NotSaid (λ v. or_else (f v) (g v)) d s from
    neither n m = record { unshaped = λ v rest e. or_else-none (f v) (g v) (n.unshaped v rest e) (m.unshaped v rest e) }

-- SOMETHING MADE OF WHAT A SHAPE SAYS
module _ {A : Type 0} {B : Type 0} (h : A → B) (f : List ℕ → Option A) where
  pub into-free : {e : ℕ} → Free f e → Free (λ v. into h (f v)) e
  into-free {e} F = record { without = λ v b q. go v b (f v) refl q }
    where
      go : (v : List ℕ) (b : B) (o : Option A) → f v ≡ o → into h o ≡ some b → count e v ≡ 0
      go v b none t q = absurd (none-ne-some b q)
      go v b (some a) t q = F.without v a t

  module _ {d : ℕ} {s : List ℕ} {from : ℕ} where
    pub into-said : {a : A} {next : ℕ} → SaidIs f d s from a next → SaidIs (λ v. into h (f v)) d s from (h a) next
    into-said x = record {
      value = x.value;
      cut = x.cut;
      beyond = x.beyond;
      within = x.within;
      shaped = ap (into h) x.shaped;
    }

    pub into-unsaid : NotSaid f d s from → NotSaid (λ v. into h (f v)) d s from
    into-unsaid n = record { unshaped = λ v rest e. ap (into h) (n.unshaped v rest e) }

-- PARTS ONE BEHIND ANOTHER
-- the first part is f's, up to a byte e; what comes behind it is said by the parts that are left
abbrev first_in : {A : Type 0} {B : Type 0} → (B → Parts A) → List (List ℕ) → Option B → Option A
first_in K ps o = elim o [ none ↦ none | some b ↦ K b ps ]

module _ {A : Type 0} {B : Type 0} (f : List ℕ → Option B) (K : B → Parts A) (e : ℕ) where
  split_at : (p y : List ℕ) → count e p ≡ 0 → next f K (parts e (p ++ (e ∷ y))) ≡ first_in K (parts e y) (f p)
  split_at p y h = ap (next f K) (parts_at e p y h)

  module _ (lone : (b : B) → K b [] ≡ none) where
    split-whole : (v : List ℕ) → count e v ≡ 0 → next f K (parts e v) ≡ none
    split-whole v h = ap (next f K) (parts_last e v h) ∙ go (f v)
      where
        go : (o : Option B) → first_in K [] o ≡ none
        go none = refl
        go (some b) = lone b

    pub first-free : {c : ℕ} → e ≢ c → Free f c → ((b : B) → Free (λ v. K b (parts e v)) c) → Free (λ v. next f K (parts e v)) c
    first-free {c} ne F G = record { without = λ v a q. go v a q (cut e v) }
      where
        inner : (p y : List ℕ) (a : A) (o : Option B) → f p ≡ o → first_in K (parts e y) o ≡ some a → count c (p ++ (e ∷ y)) ≡ 0
        inner p y a none t q = absurd (none-ne-some a q)
        inner p y a (some b) t q =
            omega (arith, count-append c p (e ∷ y), F.without p b t, (G b).without y a q, same-ne c e (λ z. ne (sym z)))

        go : (v : List ℕ) (a : A) → next f K (parts e v) ≡ some a → Cut e v → count c v ≡ 0
        go v a q (whole h) = absurd (none-ne-some a (sym (split-whole v h) ∙ q))
        go v a q (cut_at p y h r) =
            ap (count c) r ∙ inner p y a (f p) refl (sym (split_at p y h) ∙ sym (ap (λ (x : List ℕ). next f K (parts e x)) r) ∙ q)

    module _ {d : ℕ} {s : List ℕ} {from : ℕ} where
      -- the first part is not there
      pub first-unsaid : NotSaid f e s from → NotSaid (λ v. next f K (parts e v)) d s from
      first-unsaid n = record { unshaped = λ v rest q. go v rest q (cut e v) }
        where
          go : (v rest : List ℕ) → drop from s ≡ v ++ (d ∷ rest) → Cut e v → next f K (parts e v) ≡ none
          go v rest q (whole h) = split-whole v h
          go v rest q (cut_at p y h r) =
              ap (λ (x : List ℕ). next f K (parts e x)) r ∙ split_at p y h
              ∙ ap (first_in K (parts e y)) (n.unshaped p (y ++ (d ∷ rest))
              (q ∙ ap (λ (x : List ℕ). x ++ (d ∷ rest)) r ∙ append_assoc p (e ∷ y) (d ∷ rest)))

      module _ (F : Free f e) {b : B} {m : ℕ} (x : SaidIs f e s from b m) where
        -- it is there, and what comes behind it is not
        pub then-unsaid : NotSaid (λ v. K b (parts e v)) d s m → NotSaid (λ v. next f K (parts e v)) d s from
        then-unsaid n = record { unshaped = λ v rest q. go v rest q (cut e v) }
          where
            go : (v rest : List ℕ) → drop from s ≡ v ++ (d ∷ rest) → Cut e v → next f K (parts e v) ≡ none
            go v rest q (whole h) = split-whole v h
            go v rest q (cut_at p y h r) =
                let one = cut-once e p x.value (y ++ (d ∷ rest)) (drop m s) h (F.without x.value b x.shaped)
                (sym (append_assoc p (e ∷ y) (d ∷ rest)) ∙ sym (ap (λ (z : List ℕ). z ++ (d ∷ rest)) r) ∙ sym q ∙ x.cut) in
                ap (λ (z : List ℕ). next f K (parts e z)) r ∙ split_at p y h
                ∙ ap (first_in K (parts e y)) (ap f one.0 ∙ x.shaped)
                ∙ n.unshaped y rest (sym one.1)

  module _ (F : Free f e) {d : ℕ} {s : List ℕ} {from : ℕ} {b : B} {m : ℕ} (x : SaidIs f e s from b m) where
    pub then-said : {a : A} {next' : ℕ} → SaidIs (λ v. K b (parts e v)) d s m a next' → SaidIs (λ v. next f K (parts e v)) d s from a next'
    then-said {a} {next'} y = record {
      value = x.value ++ (e ∷ y.value);
      cut = x.cut ∙ ap (λ (z : List ℕ). x.value ++ (e ∷ z)) y.cut ∙ sym (append_assoc x.value (e ∷ y.value) (d ∷ drop next' s));
      beyond = omega (arith, x.beyond, y.beyond);
      within = y.within;
      shaped = split_at x.value y.value (F.without x.value b x.shaped)
          ∙ ap (first_in K (parts e y.value)) x.shaped ∙ y.shaped;
    }

-- every text has a first part
pub some-part : (e : ℕ) (v : List ℕ) → (q : List ℕ) × (qs : List (List ℕ)) × (parts e v ≡ q ∷ qs)
some-part e v = (_, _, parts_cut e v)

-- the last part: a value that has no byte e
module _ {A : Type 0} {B : Type 0} (g : List ℕ → Option B) (k : B → A) (e : ℕ) where
  abbrev last_in : List (List ℕ) → Option A
  last_in = next g (λ b. over (k b))

  last-cut : (p y : List ℕ) → count e p ≡ 0 → last_in (parts e (p ++ (e ∷ y))) ≡ none
  last-cut p y h =
      let (q, qs, t) = some-part e y in
      ap last_in (parts_at e p y h) ∙ ap (λ (ps : List (List ℕ)). last_in (p ∷ ps)) t ∙ go q qs (g p)
    where
      go : (q : List ℕ) (qs : List (List ℕ)) (o : Option B) → first_in (λ b. over (k b)) (q ∷ qs) o ≡ none
      go q qs none = refl
      go q qs (some b) = refl

  last-whole : (v : List ℕ) → count e v ≡ 0 → last_in (parts e v) ≡ into k (g v)
  last-whole v h = ap last_in (parts_last e v h) ∙ go (g v)
    where
      go : (o : Option B) → first_in (λ b. over (k b)) [] o ≡ into k o
      go none = refl
      go (some b) = refl

  pub last-free : {c : ℕ} → Free g c → Free (λ v. last_in (parts e v)) c
  last-free {c} G = record { without = λ v a q. go v a q (cut e v) }
    where
      go : (v : List ℕ) (a : A) → last_in (parts e v) ≡ some a → Cut e v → count c v ≡ 0
      go v a q (whole h) = (into-free k g G).without v a (sym (last-whole v h) ∙ q)
      go v a q (cut_at p y h r) =
          absurd (none-ne-some a (sym (ap (λ (z : List ℕ). last_in (parts e z)) r ∙ last-cut p y h) ∙ q))

  module _ {d : ℕ} {s : List ℕ} {from : ℕ} where
    pub last-said : Free g e → {b : B} {next' : ℕ} → SaidIs g d s from b next' → SaidIs (λ v. last_in (parts e v)) d s from (k b) next'
    last-said G {b} x = record {
      value = x.value;
      cut = x.cut;
      beyond = x.beyond;
      within = x.within;
      shaped = last-whole x.value (G.without x.value b x.shaped) ∙ ap (into k) x.shaped;
    }

    pub last-unsaid : NotSaid g d s from → NotSaid (λ v. last_in (parts e v)) d s from
    last-unsaid n = record { unshaped = λ v rest q. go v rest q (cut e v) }
      where
        go : (v rest : List ℕ) → drop from s ≡ v ++ (d ∷ rest) → Cut e v → last_in (parts e v) ≡ none
        go v rest q (whole h) = last-whole v h ∙ ap (into k) (n.unshaped v rest q)
        go v rest q (cut_at p y h r) = ap (λ (z : List ℕ). last_in (parts e z)) r ∙ last-cut p y h
