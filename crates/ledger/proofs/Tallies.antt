-- The marks of strangers: how they are made, and that who has none may hold tracks and own or lock numbers.
-- Assumes nothing.
use Prim.Native.Nat.{ℕ, suc, ◌+◌, ◌-◌, ◌≤◌, ◌<◌}
use native.Mathlib.Omega.{arith}
use native.Mathlib.Decide.{ℕ_discrete, dec_le}
use mathlib.Core.Path.{◌≡◌, refl, sym, ap, ◌∙◌}
use mathlib.Core.Bool.{Bool, true, false, cond}
use mathlib.Core.List.{List}
use lib.ListN.{length, get_or, set, replicate, get_or-replicate, length-set}
use lib.Seq.{get_or-set_other, get_or-set_same}
use lib.Dec.{eqb}
use Rattle.records.specs.declared.Program.{Program}
use Rattle.records.specs.declared.Resource.{Resource}
use Rattle.records.specs.Records.{Known}
use Rattle.tracks.specs.declared.Tracks.{Tracks}
use Rattle.tracks.specs.Tracks.{system}
use Rattle.tracks.specs.Inner.{Serves, Held}
use Rattle.rules.specs.Book.{at}
use Rattle.ledger.specs.declared.Ledger.{Ledger}
use Rattle.ledger.specs.Ledger.{book_of}
use Rattle.ledger.specs.Inner.{used_key, Keyed, strange, Strangers, User, Numbered}
use borrow.Author.Count.{below_more}

-- the marks, with the first i programs told of
pub record Marking (used marks : List ℕ) (i : ℕ) : Type 0 where
  pub most : i ≤ 32
  pub long : length marks ≡ 256
  pub nobody : get_or marks 0 0 ≡ 0
  pub global : get_or marks 33 0 ≡ 0
  pub program : (k : ℕ) → k < i → get_or marks (k + 1) 0 ≡ strange (get_or used k 0)
  pub other : (h : ℕ) → 33 < h → h < 256 → get_or marks h 0 ≡ 1

pub marking-start : (used : List ℕ) → Marking used (set (set (replicate 256 1) 0 0) 33 0) 0
marking-start used = record {
  most = omega arith;
  long = refl;
  nobody = refl;
  global = refl;
  program = λ k h. absurd (omega arith);
  other = λ h l m. get_or-set_other {A = ℕ} (set (replicate 256 1) 0 0) 33 h 0 0 (λ z. omega arith)
      ∙ get_or-set_other {A = ℕ} (replicate 256 1) 0 h 0 0 (λ z. omega arith) ∙ get_or-replicate {A = ℕ} 256 h 1 0 m;
}

-- the mark of a program
mark-used : (r : Program) → strange (used_key r) ≡ 0 → r.used ≡ true
unfolding strange used_key
mark-used r = go r.used
  where
    go : (b : Bool) → ◌≡◌ {A = ℕ} (cond (eqb (cond b 1 0) 0) 1 0) 0 → b ≡ true
    go true e = refl
    go false e = absurd (omega arith)

used-mark : (r : Program) → r.used ≡ true → strange (used_key r) ≡ 0
unfolding strange used_key
used-mark r u = ap {B = ℕ} (λ (b : Bool). cond (eqb (cond b 1 0) 0) 1 0) u

-- who has no mark may hold tracks, and back
module _ (l : Ledger) {used marks : List ℕ} (K : Keyed used_key l.programs used) (M : Strangers used marks) where
  program-mark : (h : ℕ) → Known h → get_or marks h 0 ≡ strange (used_key (at (book_of l) h))
  program-mark h P =
      let e : h ≡ h - 1 + 1 = omega arith in
      ap (λ (x : ℕ). get_or marks x 0) e ∙ M.program (h - 1) (omega arith) ∙ ap strange (K.each (h - 1) (omega arith))

  pub serves-user : (h : ℕ) → Serves marks h → User (book_of l) h
  serves-user h s =
      record { low = go (dec_le (suc h) system); used = λ P. mark-used (at (book_of l) h) (sym (program-mark h P) ∙ s.unmarked) }
    where
      go : Dec (h < system) → h < system
      go (yes w) = w
      go (no w) = absurd (omega (arith, M.other h (omega (arith, w)) s.small, s.unmarked))

  pub user-serves : (h : ℕ) → User (book_of l) h → Serves marks h
  user-serves h u = record { small = omega (arith, u.low); unmarked = go (ℕ_discrete h 0) (ℕ_discrete h 33) }
    where
      go : Dec (h ≡ 0) → Dec (h ≡ 33) → get_or marks h 0 ≡ 0
      go (yes w) d = ap (λ (x : ℕ). get_or marks x 0) w ∙ M.nobody
      go (no v) (yes w) = ap (λ (x : ℕ). get_or marks x 0) w ∙ M.global
      go (no v) (no w) =
          let P : Known h = (omega (arith, v), omega (arith, w, u.low)) in
          program-mark h P ∙ used-mark (at (book_of l) h) (u.used P)

-- tracks and numbers, by others who may hold them
module _ {May Can : ℕ → Type 0} (f : (h : ℕ) → May h → Can h) where
  pub held-map : {t : Tracks} → Held May t → Held Can t
  held-map H = record { own = H.own; others = λ i a b. f _ (H.others i a b); blank = H.blank }

  pub numbered-map : {R : ℕ} {rs : List Resource} → Numbered R May rs → Numbered R Can rs
  numbered-map N = record {
    ours = λ i h. let s = N.ours i h in
        record { owner = f _ s.owner; locker = f _ s.locker; program = s.program; clear = s.clear };
    rest = N.rest;
  }

-- Laws of the marks, a program at a time, for whoever proves about them.
pub marking-more : {used marks : List ℕ} {i : ℕ} → Marking used marks i → i < 32 → (v : ℕ) → v ≡ strange (get_or used i 0)
    → Marking used (set marks (i + 1) v) (i + 1)
marking-more {used} {marks} {i} M l v e = record {
  most = omega arith;
  long = length-set marks (i + 1) v ∙ M.long;
  nobody = get_or-set_other marks (i + 1) 0 v 0 (λ z. omega arith) ∙ M.nobody;
  global = get_or-set_other marks (i + 1) 33 v 0 (λ z. omega arith) ∙ M.global;
  program = below_more _ _ (λ k h. get_or-set_other marks (i + 1) (k + 1) v 0 (λ z. omega arith) ∙ M.program k h)
      (get_or-set_same marks (i + 1) v 0 (omega (arith, M.long)) ∙ e);
  other = λ h a b. get_or-set_other marks (i + 1) h v 0 (λ z. omega arith) ∙ M.other h a b;
}

pub marking-end : {used marks : List ℕ} {i : ℕ} → Marking used marks i → 32 ≤ i → Strangers used marks
marking-end M h = record { nobody = M.nobody; global = M.global; program = λ k l. M.program k (omega arith); other = M.other }
