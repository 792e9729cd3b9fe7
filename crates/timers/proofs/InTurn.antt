-- Programs that are treated one after another: each once, its record alone, and some of them enter the scheduled chain. What comes of it is
-- told at once: the records put at their places, and the programs that enter put into the chain, by priorities that nothing alters.
-- Assumes nothing.
use Prim.Native.Nat.{ℕ, suc, ◌-◌, ◌≤◌, ◌<◌}
use native.Mathlib.Omega.{arith}
use native.Mathlib.Decide.{ℕ_discrete}
use mathlib.Core.Path.{◌≡◌, refl, sym, ap, ap₂, ◌∙◌}
use mathlib.Core.Bool.{Bool, true, false, cond}
use mathlib.Core.List.{List, [], ◌∷◌, map}
use lib.ListN.{length, get_or, set, length-set, get_or-map}
use lib.Seq.{get_or-set_same, get_or-set_other, map-set_same}
use borrow.Author.Tests.{eq-eqb}
use Rattle.lists.specs.Lists.{same, count, keep, insert, join}
use Rattle.lists.proofs.Laws.{same_refl, same-ne}
use Rattle.records.specs.declared.Program.{Program}
use Rattle.records.specs.declared.Why.TheVariants.{Nothing}
use Rattle.records.specs.Records.{Known, missing, in_state}
use Rattle.rules.specs.Book.{Book, at, state_of, prio_of, put, altered}
use Rattle.rules.specs.Plans.{Event, on, becomes}
use Rattle.rules.specs.Keeper.{lists, State, act, step, play}
use Rattle.rules.proofs.shared.Places.{put-long}
use Rattle.rules.proofs.shared.Deeds.{step-put}
use Rattle.rules.proofs.shared.Parts.{play-append}
use Rattle.timers.specs.Inner.{enter_all}

-- records put at the places of their programs
abbrev pub set_all : (ℕ → Program) → List ℕ → List Program → List Program
set_all new [] ps = ps
set_all new (p ∷ l) ps = set_all new l (set ps (p - 1) (new p))

-- the priorities of records
abbrev pub prios : List Program → List ℕ
prios ps = map (λ (r : Program). r.priority) ps

prio-at : (b : Book) (q : ℕ) → prio_of b q ≡ get_or (prios b.programs) (q - 1) 0
prio-at b q = sym (get_or-map (λ (r : Program). r.priority) b.programs (q - 1) missing)

-- the same priorities order alike
pub same-prios : (b c : Book) → prios b.programs ≡ prios c.programs → prio_of b ≡ prio_of c
same-prios b c e = λ i q. (prio-at b q ∙ ap (λ (xs : List ℕ). get_or xs (q - 1) 0) e ∙ sym (prio-at c q)) i

pub prios-put : (b : Book) (p : ℕ) (r : Program) → r.priority ≡ prio_of b p → prios (put p r b).programs ≡ prios b.programs
prios-put b p r e = map-set_same (λ (x : Program). x.priority) b.programs (p - 1) r missing e

-- p, which is dormant, is scheduled
abbrev pub joined : (ℕ → ℕ) → ℕ → List (List ℕ) → List (List ℕ)
joined pr p k = set k 1 (insert pr p (get_or k 1 []))

pub scheduled-put : (p : ℕ) → Known p → (t : State lists) → state_of t.book p ≡ 0
    → step lists (on p (becomes 1 Nothing)) t
    ≡ record { book = put p (in_state 1 Nothing (at t.book p)) t.book; kept = joined (prio_of t.book) p t.kept }
unfolding act
scheduled-put p P t z =
    let b : Book = t.book in
    let c : Book = put p (in_state 1 Nothing (at b p)) (put p (in_state 0 Nothing (at b p)) b) in
    let pr : prio_of c ≡ prio_of b = same-prios c b (
    prios-put (put p (in_state 0 Nothing (at b p)) b) p (in_state 1 Nothing (at b p)) (sym (prio-kept b p))
    ∙ prios-put b p (in_state 0 Nothing (at b p)) refl
    ) in
    step-put lists p P (becomes 1 Nothing) t
    ∙ ap₂ (λ (x : Bool) (f : ℕ → ℕ). record {
      book = put p (in_state 1 Nothing (at b p)) b;
      kept = joined f p (cond x t.kept (lists.left p (state_of b p) t.kept));
    }) (eq-eqb (state_of b p) 0 z) pr
  where
    prio-kept : (b : Book) (p : ℕ) → prio_of (put p (in_state 0 Nothing (at b p)) b) p ≡ prio_of b p
    prio-kept b p = ap (λ (f : ℕ → ℕ). f p) (same-prios (put p (in_state 0 Nothing (at b p)) b) b (prios-put b p (in_state 0 Nothing (at b p)) refl))

-- The programs of a list that are in some way Q, each with its events g, the record it has before them, and that after them; whether it
-- enters.
module _ (Q : ℕ → Type 0) (g : ℕ → List Event) (old new : ℕ → Program) (enters : ℕ → Bool)
    (one : (p : ℕ) → Known p → Q p → (t : State lists) → length t.book.programs ≡ 32 → at t.book p ≡ old p
    → play lists (g p) t
    ≡ record { book = put p (new p) t.book; kept = cond (enters p) (joined (prio_of t.book) p t.kept) t.kept })
    (level : (p : ℕ) → (new p).priority ≡ (old p).priority) where
  -- they are still to come
  pub record Ahead (l : List ℕ) (t : State lists) : Type 0 where
    pub long : length t.book.programs ≡ 32
    pub known : (z : ℕ) → 1 ≤ count z l → Known z × Q z
    pub once : (z : ℕ) → count z l ≤ 1
    pub still : (z : ℕ) → 1 ≤ count z l → at t.book z ≡ old z

  ahead-next : (p : ℕ) (l : List ℕ) (t : State lists) (k : List (List ℕ)) → Ahead (p ∷ l) t
      → Ahead l (record { book = put p (new p) t.book; kept = k })
  ahead-next p l t k A = record {
    long = put-long t.book p (new p) A.long;
    known = λ z h. A.known z (omega arith);
    once = λ z. omega (arith, A.once z);
    still = λ z h.
        get_or-set_other t.book.programs (p - 1) (z - 1) (new p) missing
        (λ e. apart z h (A.known z (omega arith)).0 (A.known p (omega (arith, same_refl p))).0 e) ∙ A.still z (omega arith);
  }
    where
      apart : (z : ℕ) → 1 ≤ count z l → Known z → Known p → z - 1 ≡ p - 1 → ⊥
      apart z h Z P e =
          let i : z ≡ p = omega (arith, Z.0, P.0, e) in
          omega (arith, A.once z, h, same_refl z, ap (same z) i)

  -- what comes of it
  pub in-turn : (l : List ℕ) (t : State lists) → Ahead l t
      → play lists (join (map g l)) t
      ≡ record {
        book = altered t.book (set_all new l t.book.programs) t.book.clock t.book.holders t.book.resources;
        kept = enter_all (prio_of t.book) (keep enters l) t.kept;
      }
  in-turn [] t A = refl
  in-turn (p ∷ l) t A =
      let P : Known p × Q p = A.known p (omega (arith, same_refl p)) in
      let k : List (List ℕ) = cond (enters p) (joined (prio_of t.book) p t.kept) t.kept in
      let u : State lists = record { book = put p (new p) t.book; kept = k } in
      let pr : prio_of u.book ≡ prio_of t.book =
      same-prios u.book t.book (prios-put t.book p (new p) (level p ∙ sym (ap (λ (r : Program). r.priority) (A.still p (omega (arith, same_refl p)))))) in
      play-append lists (g p) (join (map g l)) t
      ∙ ap (play lists (join (map g l))) (one p P.0 P.1 t A.long (A.still p (omega (arith, same_refl p))))
      ∙ in-turn l u (ahead-next p l t k A)
      ∙ ap (λ (c : List (List ℕ)). record {
        book = altered t.book (set_all new (p ∷ l) t.book.programs) t.book.clock t.book.holders t.book.resources;
        kept = c;
      }) (ap (λ (f : ℕ → ℕ). enter_all f (keep enters l) k) pr ∙ entering (enters p))
    where
      entering : (b : Bool)
          → enter_all (prio_of t.book) (keep enters l) (cond b (joined (prio_of t.book) p t.kept) t.kept)
          ≡ enter_all (prio_of t.book) (cond b (p ∷ keep enters l) (keep enters l)) t.kept
      entering true = refl
      entering false = refl

-- the records that were put, and the others
pub length-put : (new : ℕ → Program) (l : List ℕ) (ps : List Program) → length (set_all new l ps) ≡ length ps
length-put new [] ps = refl
length-put new (p ∷ l) ps = length-put new l (set ps (p - 1) (new p)) ∙ length-set ps (p - 1) (new p)

pub put-out : (new : ℕ → Program) (l : List ℕ) (ps : List Program) (i : ℕ) → ((z : ℕ) → 1 ≤ count z l → 1 ≤ z) → count (suc i) l ≡ 0
    → get_or (set_all new l ps) i missing ≡ get_or ps i missing
put-out new [] ps i K n = refl
put-out new (p ∷ l) ps i K n =
    put-out new l (set ps (p - 1) (new p)) i (λ z h. K z (omega arith)) (omega arith)
    ∙ get_or-set_other ps (p - 1) i (new p) missing
    (λ e. let w : suc i ≡ p = omega (arith, K p (omega (arith, same_refl p)), e) in omega (arith, n, same_refl (suc i), ap (same (suc i)) w))

pub put_in : (new : ℕ → Program) (l : List ℕ) (ps : List Program) (i : ℕ) → ((z : ℕ) → 1 ≤ count z l → 1 ≤ z) → ((z : ℕ) → count z l ≤ 1)
    → 1 ≤ count (suc i) l → i < length ps → get_or (set_all new l ps) i missing ≡ new (suc i)
put_in new [] ps i K O n h = absurd (omega arith)
put_in new (p ∷ l) ps i K O n h = go (ℕ_discrete (suc i) p) (put_in new l (set ps (p - 1) (new p)) i)
  where
    go : Dec (suc i ≡ p)
        → (((z : ℕ) → 1 ≤ count z l → 1 ≤ z) → ((z : ℕ) → count z l ≤ 1) → 1 ≤ count (suc i) l → i < length (set ps (p - 1) (new p))
        → get_or (set_all new l (set ps (p - 1) (new p))) i missing ≡ new (suc i))
        → get_or (set_all new (p ∷ l) ps) i missing ≡ new (suc i)
    go (yes e) ih =
        put-out new l (set ps (p - 1) (new p)) i (λ z k. K z (omega arith)) (omega (arith, O (suc i), same_refl (suc i), ap (same (suc i)) e))
        ∙ here
      where
        at_place : p - 1 ≡ i
        at_place = omega (arith, e)

        here : get_or (set ps (p - 1) (new p)) i missing ≡ new (suc i)
        here =
            ap (λ (k : ℕ). get_or (set ps (p - 1) (new p)) k missing) (sym at_place)
            ∙ get_or-set_same ps (p - 1) (new p) missing (omega (arith, at_place, h)) ∙ ap new (sym e)
    go (no w) ih = ih (λ z k. K z (omega arith)) (λ z. omega (arith, O z)) (omega (arith, same-ne (suc i) p w)) (omega (arith, length-set ps (p - 1) (new p)))
