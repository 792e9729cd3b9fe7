-- The notes that the pass over the records takes: rows of keys, one of each record, and nothing from the last used one on.
-- What distinct rows say of the records.
-- Assumes nothing.
use Prim.Native.Nat.{ℕ, zero, suc, ◌+◌, ◌-◌, ◌≤◌, ◌<◌}
use native.Mathlib.Omega.{arith}
use native.Mathlib.Decide.{ℕ_discrete, dec_le}
use mathlib.Core.Path.{◌≡◌, refl, sym, ap, ◌∙◌, subst}
use mathlib.Core.Logic.{◌≢◌}
use mathlib.Core.Bool.{Bool, true, false, cond}
use mathlib.Core.List.{List}
use lib.ListN.{length, get_or, set, replicate, length-set}
use lib.Seq.{get_or-set_same, get_or-set_other}
use borrow.Author.Count.{below_more}
use Rattle.records.specs.declared.Program.{Program}
use Rattle.records.specs.Records.{missing}
use Rattle.rules.specs.Test.{son_of}
use Rattle.ledger.specs.Inner.{fits, name_code, name_key, son_key, used_key, Keyed, Fresh, Ended, Distinct, Sons, Apart, Roster, Enrolled}
use Rattle.ledger.specs.Inner.{Awaited, slot_of, Marked}
use Rattle.ledger.proofs.Turns.{fits-parts, unused-zeros, son-most}
use Rattle.lists.proofs.Tests.{clash}

-- nothing is noted at first
pub unset : {A : Type 0} (a : A) (n i : ℕ) → get_or (replicate n a) i a ≡ a
unset a zero i = refl
unset a (suc n) zero = refl
unset a (suc n) (suc i) = unset a n i

-- a mark that is left stands, and so do those that were left before
pub mark-left : (xs : List ℕ) (p : ℕ) → p < length xs → get_or (set xs p 1) p 0 ≢ 0
mark-left xs p h z = omega (arith, get_or-set_same xs p 1 0 h)

pub mark-stays : (xs : List ℕ) (p k : ℕ) → p < length xs → get_or xs k 0 ≢ 0 → get_or (set xs p 1) k 0 ≢ 0
mark-stays xs p k h n = go (ℕ_discrete k p)
  where
    go : Dec (k ≡ p) → get_or (set xs p 1) k 0 ≢ 0
    go (yes w) z = mark-left xs p h (ap (λ (y : ℕ). get_or (set xs p 1) y 0) (sym w) ∙ z)
    go (no w) z = n (sym (get_or-set_other xs p k 1 0 w) ∙ z)

-- the first i keys, and none from `high` on
pub record Row (f : Program → ℕ) (ps : List Program) (high i : ℕ) (ks : List ℕ) : Type 0 where
  pub long : length ks ≡ 32
  pub each : (k : ℕ) → k < i → get_or ks k 0 ≡ f (get_or ps k missing)
  pub rest : (k : ℕ) → high ≤ k → get_or ks k 0 ≡ 0

row-start : (f : Program → ℕ) (ps : List Program) → Row f ps 0 0 (replicate 32 0)
row-start f ps = record { long = refl; each = λ k h. absurd (omega arith); rest = λ k h. unset 0 32 k }

module _ {f : Program → ℕ} {ps : List Program} {high i : ℕ} {ks : List ℕ} (R : Row f ps high i ks) (m : high ≤ i) where
  row-used : (v : ℕ) → i < 32 → v ≡ f (get_or ps i missing) → Row f ps (i + 1) (i + 1) (set ks i v)
  row-used v h e = record {
    long = length-set ks i v ∙ R.long;
    each = below_more _ _ (λ k l. get_or-set_other ks i k v 0 (λ z. omega arith) ∙ R.each k l)
        (get_or-set_same ks i v 0 (omega (arith, R.long)) ∙ e);
    rest = λ k l. get_or-set_other ks i k v 0 (λ z. omega arith) ∙ R.rest k (omega arith);
  }

  row-unused : f (get_or ps i missing) ≡ 0 → Row f ps high (i + 1) ks
  row-unused e = record { long = R.long; each = below_more _ _ R.each (R.rest i m ∙ sym e); rest = R.rest }

-- the pass, before record i
pub record Noted (c T R : ℕ) (ps : List Program) (ns ks ss qs us : List ℕ) (high i : ℕ) : Type 0 where
  pub most : i ≤ 32
  pub low : high ≤ i
  pub fitting : (k : ℕ) → k < i → fits c T R (k + 1) (get_or ps k missing) ≡ true
  pub names : Row name_key ps high i ns
  pub sons : Row son_key ps high i ks
  pub states : Row (λ (r : Program). r.state) ps high i ss
  pub priorities : Row (λ (r : Program). r.priority) ps high i qs
  pub used : Row used_key ps high i us

pub noted-start : (c T R : ℕ) (ps : List Program)
    → Noted c T R ps (replicate 32 0) (replicate 32 0) (replicate 32 0) (replicate 32 0) (replicate 32 0) 0 0
noted-start c T R ps = record {
  most = omega arith;
  low = omega arith;
  fitting = λ k h. absurd (omega arith);
  names = row-start name_key ps;
  sons = row-start son_key ps;
  states = row-start (λ (r : Program). r.state) ps;
  priorities = row-start (λ (r : Program). r.priority) ps;
  used = row-start used_key ps;
}

-- notes that are the same
pub noted-same : {c T R : ℕ} {ps : List Program} {ns ks ss qs us : List ℕ} {high i : ℕ} → Noted c T R ps ns ks ss qs us high i
    → {ms js rs os vs : List ℕ} {top : ℕ} → ms ≡ ns → js ≡ ks → rs ≡ ss → os ≡ qs → vs ≡ us → top ≡ high
    → Noted c T R ps ms js rs os vs top i
noted-same N a b d o e f = rw (a, b, d, o, e, f) N

module _ {c T R : ℕ} {ps : List Program} {names sons states priorities used : List ℕ} {high i : ℕ}
    (N : Noted c T R ps names sons states priorities used high i) (h : i < 32) where
  pub noted-used : fits c T R (i + 1) (get_or ps i missing) ≡ true → (get_or ps i missing).used ≡ true → (name son : ℕ)
      → name ≡ name_code (get_or ps i missing).name → son ≡ son_of (get_or ps i missing).why
      → Noted c T R ps (set names i name) (set sons i son) (set states i (get_or ps i missing).state)
      (set priorities i (get_or ps i missing).priority) (set used i 1) (i + 1) (i + 1)
  unfolding name_key son_key used_key
  noted-used e u name son n s = record {
    most = omega arith;
    low = omega arith;
    fitting = below_more _ _ N.fitting e;
    names = row-used N.names N.low name h (n ∙ sym (ap (λ (b : Bool). cond b (name_code (get_or ps i missing).name) 0) u));
    sons = row-used N.sons N.low son h s;
    states = row-used N.states N.low (get_or ps i missing).state h refl;
    priorities = row-used N.priorities N.low (get_or ps i missing).priority h refl;
    used = row-used N.used N.low 1 h (sym (ap (λ (b : Bool). cond b 1 0) u));
  }

  pub noted-unused : fits c T R (i + 1) (get_or ps i missing) ≡ true → (get_or ps i missing).used ≡ false
      → Noted c T R ps names sons states priorities used high (i + 1)
  unfolding name_key son_key used_key
  noted-unused e u = let z = unused-zeros c T R (i + 1) (get_or ps i missing) u e in record {
    most = omega arith;
    low = omega (arith, N.low);
    fitting = below_more _ _ N.fitting e;
    names = row-unused N.names N.low (ap (λ (b : Bool). cond b (name_code (get_or ps i missing).name) 0) u);
    sons = row-unused N.sons N.low (ap son_of z.why);
    states = row-unused N.states N.low z.state;
    priorities = row-unused N.priorities N.low z.priority;
    used = row-unused N.used N.low (ap (λ (b : Bool). cond b 1 0) u);
  }

-- the pass is done
module _ {c T R : ℕ} {ps : List Program} {names sons states priorities used : List ℕ} {high i : ℕ}
    (N : Noted c T R ps names sons states priorities used high i) (h : 32 ≤ i) where
  keyed : (f : Program → ℕ) (ks : List ℕ) → Row f ps high i ks → Keyed f ps ks
  keyed f ks r = record { each = λ k l. r.each k (omega arith) }

  pub sons-ended : Sons sons high
  unfolding son_key
  sons-ended =
      record { ended = record { most = omega (arith, N.low, N.most); rest = N.sons.rest }; known = λ k. go k (dec_le (suc k) 32) }
    where
      go : (k : ℕ) → Dec (k < 32) → get_or sons k 0 ≤ 32
      go k (yes l) =
          omega (
            arith,
            N.sons.each k (omega arith),
            son-most T R (k + 1) (get_or ps k missing).why (fits-parts c T R (k + 1) (get_or ps k missing) (N.fitting k (omega arith))).2,
          )
      go k (no l) = omega (arith, N.sons.rest k (omega (arith, l, N.low, N.most)))

-- keys with marks: each key before i has left one, and is new
pub record Seen (ks seen : List ℕ) (i : ℕ) : Type 0 where
  pub long : length seen ≡ 251
  pub marks : (k : ℕ) → k < i → get_or seen (slot_of (get_or ks k 0)) 0 ≢ 0
  pub new : (k : ℕ) → k < i → Fresh ks k

pub slot_small : (k : ℕ) → slot_of k < 251
unfolding slot_of
slot_small k = omega arith

module _ {ks seen : List ℕ} {i : ℕ} (S : Seen ks seen i) (h : ℕ) (e : h ≡ slot_of (get_or ks i 0)) where
  pub seen-marked : i < 32 → Marked ks i (get_or seen h 0)
  seen-marked l = record {
    within = l;
    unmarked = λ z n j k w. S.marks j k (ap (λ (x : ℕ). get_or seen (slot_of x) 0) w ∙ ap (λ (x : ℕ). get_or seen x 0) (sym e) ∙ z);
  }

  pub seen_more : Fresh ks i → Seen ks (set seen h 1) (i + 1)
  seen_more f = record {
    long = length-set seen h 1 ∙ S.long;
    marks = below_more _ _ (λ k l. mark-stays seen h (slot_of (get_or ks k 0)) small (S.marks k l))
        (subst (λ (x : ℕ). get_or (set seen h 1) x 0 ≢ 0) e (mark-left seen h small));
    new = below_more _ _ S.new f;
  }
    where
      small : h < length seen
      small = omega (arith, S.long, slot_small (get_or ks i 0))

pub seen_end : {ks seen : List ℕ} {i high : ℕ} → Seen ks seen i → Ended ks high → high ≤ i → Distinct ks
seen_end {ks} {seen} {i} {high} S E h a l n b m o e = go (dec_le (suc b) i)
  where
    go : Dec (b < i) → ⊥
    go (yes w) = S.new b w (λ z. n (sym e ∙ z)) a o (sym e)
    go (no w) = n (sym e ∙ E.rest b (omega (arith, w)))

-- keys that are distinct are all new
pub fresh-of : (ks : List ℕ) → Distinct ks → (i : ℕ) → i < 32 → Fresh ks i
fresh-of ks D i h n j l e = D j (omega arith) (λ z. n (sym e ∙ z)) i h l (sym e)

-- sons with marks: each before i is live, new and marked, and a mark is that of such a one
pub record Meeting (ks states met : List ℕ) (i : ℕ) : Type 0 where
  pub long : length met ≡ 32
  pub live : (k : ℕ) → k < i → get_or ks k 0 ≢ 0 → get_or states (get_or ks k 0 - 1) 0 ≢ 0
  pub new : (k : ℕ) → k < i → Fresh ks k
  pub marks : (k : ℕ) → k < i → get_or ks k 0 ≢ 0 → get_or met (get_or ks k 0 - 1) 0 ≢ 0
  pub back : (p : ℕ) → ((k : ℕ) → k < i → get_or ks k 0 ≢ p + 1) → get_or met p 0 ≡ 0

pub meeting-start : (ks states : List ℕ) → Meeting ks states (replicate 32 0) 0
meeting-start ks states = record {
  long = refl;
  live = λ k h. absurd (omega arith);
  new = λ k h. absurd (omega arith);
  marks = λ k h. absurd (omega arith);
  back = λ p f. unset 0 32 p;
}

module _ {ks states met : List ℕ} {i : ℕ} (M : Meeting ks states met i) where
  -- one with no son
  pub meeting-none : get_or ks i 0 ≡ 0 → Meeting ks states met (i + 1)
  meeting-none z = record {
    long = M.long;
    live = below_more _ _ M.live (λ n. absurd (n z));
    new = below_more _ _ M.new (λ n. absurd (n z));
    marks = below_more _ _ M.marks (λ n. absurd (n z));
    back = λ p f. M.back p (λ k l. f k (omega arith));
  }

  module _ (n : get_or ks i 0 ≢ 0) (p : ℕ) (e : p + 1 ≡ get_or ks i 0) where
    place : get_or ks i 0 - 1 ≡ p
    place = omega arith

    -- a son that is met before is awaited twice
    pub meeting-twice : get_or met p 0 ≢ 0 → i < 32 → Distinct ks → ⊥
    meeting-twice m h D = m (M.back p (λ k l z. fresh-of ks D i h n k l (z ∙ e)))

    pub meeting-dead : get_or states p 0 ≡ 0 → i < 32 → Awaited ks states → ⊥
    meeting-dead z h A = A.live i h n (ap (λ (x : ℕ). get_or states x 0) place ∙ z)

    pub meeting-more : get_or states p 0 ≢ 0 → get_or met p 0 ≡ 0 → p < 32 → Meeting ks states (set met p 1) (i + 1)
    meeting-more s m h = record {
      long = length-set met p 1 ∙ M.long;
      live = below_more _ _ M.live (λ q z. s (ap (λ (x : ℕ). get_or states x 0) (sym place) ∙ z));
      new = below_more _ _ M.new (λ q j o z.
          M.marks j o (λ v. n (sym z ∙ v)) (ap (λ (x : ℕ). get_or met (x - 1) 0) z ∙ ap (λ (x : ℕ). get_or met x 0) place ∙ m));
      marks = below_more _ _ (λ k l q. mark-stays met p (get_or ks k 0 - 1) small (M.marks k l q))
          (λ q. subst (λ (x : ℕ). get_or (set met p 1) x 0 ≢ 0) (sym place) (mark-left met p small));
      back = λ q f. back q f (ℕ_discrete q p);
    }
      where
        small : p < length met
        small = omega (arith, M.long)

        back : (q : ℕ) → ((k : ℕ) → k < i + 1 → get_or ks k 0 ≢ q + 1) → Dec (q ≡ p) → get_or (set met p 1) q 0 ≡ 0
        back q f (yes w) = absurd (f i (omega arith) (omega arith))
        back q f (no w) = get_or-set_other met p q 1 0 w ∙ M.back q (λ k l. f k (omega arith))

-- Laws of the passes over the records, for whoever proves about them: what refuses them, and what is noted where nothing does.
-- keys that are distinct are those of records apart, and back
apart_of : (f : Program → ℕ) (ps : List Program) (ks : List ℕ) → Keyed f ps ks → Distinct ks → Apart f ps
apart_of f ps ks K D i h n j m o e = D i h (λ z. n (sym (K.each i h) ∙ z)) j m o (K.each j m ∙ e ∙ sym (K.each i h))

distinct_of : (f : Program → ℕ) (ps : List Program) (ks : List ℕ) → Keyed f ps ks → Apart f ps → Distinct ks
distinct_of f ps ks K A i h n j m o e = A i h (λ z. n (K.each i h ∙ z)) j m o (sym (K.each j m) ∙ e ∙ K.each i h)

module _ {c T R : ℕ} {ps : List Program} {names sons states priorities used : List ℕ} {high i : ℕ}
    (N : Noted c T R ps names sons states priorities used high i) where
  -- a record that is not sound by itself
  pub noted-refused : i < 32 → fits c T R (i + 1) (get_or ps i missing) ≡ false → Roster c T R ps → ⊥
  noted-refused h e S = clash (S.fitting i h) e

  module _ (h : 32 ≤ i) where
    pub names-ended : Ended names high
    names-ended = record { most = omega (arith, N.low, N.most); rest = N.names.rest }

    pub names-refused : (Distinct names → ⊥) → Roster c T R ps → ⊥
    names-refused f S = f (distinct_of name_key ps names (keyed N h name_key names N.names) S.names)

    -- the state that is noted for a son
    son-state : (k : ℕ) → k < 32 → get_or sons k 0 ≡ son_key (get_or ps k missing)
        → get_or states (get_or sons k 0 - 1) 0 ≡ (get_or ps (son_key (get_or ps k missing) - 1) missing).state
    son-state k l e =
        ap (λ (x : ℕ). get_or states (x - 1) 0) e
        ∙ N.states.each (son_key (get_or ps k missing) - 1) (omega (arith, (sons-ended N h).known k))

    pub sons-refused : (Awaited sons states → ⊥) → Roster c T R ps → ⊥
    sons-refused f S = f (record {
      live = λ k l n z.
          S.live k l (λ y. n (N.sons.each k (omega arith) ∙ y)) (sym (son-state k l (N.sons.each k (omega arith))) ∙ z);
      once = distinct_of son_key ps sons (keyed N h son_key sons N.sons) S.sons;
    })

    pub noted-end : Distinct names → Awaited sons states
        → Enrolled c T R ps (record { used = used; states = states; priorities = priorities })
    noted-end D A = record {
      sound = record {
        fitting = λ k l. N.fitting k (omega arith);
        names = apart_of name_key ps names (keyed N h name_key names N.names) D;
        live = λ k l n z.
            A.live k l (λ y. n (sym (N.sons.each k (omega arith)) ∙ y)) (son-state k l (N.sons.each k (omega arith)) ∙ z);
        sons = apart_of son_key ps sons (keyed N h son_key sons N.sons) A.once;
      };
      marked = keyed N h used_key used N.used;
      columns = record {
        states = keyed N h (λ (r : Program). r.state) states N.states;
        priorities = keyed N h (λ (r : Program). r.priority) priorities N.priorities;
      };
    }

-- keys with marks: none is told of yet; and sons with marks, all told of

pub seen_start : (ks : List ℕ) → Seen ks (replicate 251 0) 0
seen_start ks = record { long = refl; marks = λ k h. absurd (omega arith); new = λ k h. absurd (omega arith) }

pub meeting-end : {ks states met : List ℕ} {i high : ℕ} → Meeting ks states met i → Ended ks high → high ≤ i → Awaited ks states
meeting-end {ks} {states} {met} {i} {high} M E h =
    record { live = λ k l n. live k n (dec_le (suc k) i); once = λ a l n b m o e. once a n b o e (dec_le (suc b) i) }
  where
    live : (k : ℕ) → get_or ks k 0 ≢ 0 → Dec (k < i) → get_or states (get_or ks k 0 - 1) 0 ≢ 0
    live k n (yes w) = M.live k w n
    live k n (no w) = absurd (n (E.rest k (omega (arith, w))))

    once : (a : ℕ) → get_or ks a 0 ≢ 0 → (b : ℕ) → a < b → get_or ks b 0 ≡ get_or ks a 0 → Dec (b < i) → ⊥
    once a n b o e (yes w) = M.new b w (λ z. n (sym e ∙ z)) a o (sym e)
    once a n b o e (no w) = n (sym e ∙ E.rest b (omega (arith, w)))
